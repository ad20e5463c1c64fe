-- No piece is left, or the next one is sent.
use Rattle.std.proofs.Common.{refl}
use Rattle.mc_session.specs.Records.{RecordsAllOf}
use Rattle.mc_session.proofs.Carrying.{none_left}
use Rattle.mc_session.proofs.shard_link.ShardLink.send_next.Goals as goal

pub returns-then-not-has_piece-clause-goes : goal.returns-then-not-has_piece-clause-goes
returns-then-not-has_piece-clause-goes g c =
    none_left _ (RecordsAllOf c.args.self.now) c.args.self.now.ends c.args.self.now.under_way.items c.args.conn.now
    c.args.conn.now (λ flow is. ((c.if-not-has_piece.ensures flow is).0 refl, is))

pub returns-then-not-has_piece-clause-kept : goal.returns-then-not-has_piece-clause-kept
returns-then-not-has_piece-clause-kept g c = record { route = refl; place = λ keeps. refl }
