-- Pieces have left.
use Rattle.std.proofs.Common.{◌≡◌}
use Rattle.mc_session.specs.Records.{KeepsPlace}
use Rattle.mc_session.specs.internal.Carrying.{AnyOut, ShardLinkGoesOn}
use Rattle.mc_session.proofs.shard_link.ShardLink.send_all.Given as goal

abbrev pub invariant-loop : goal.invariant-loop
invariant-loop g l = record {
  goes : ShardLinkGoesOn AnyOut l.fn.self l.fn.conn l.self l.conn;
  places : l.self.places ≡ l.fn.self.places;
  kept : KeepsPlace l.fn.self l.self;
}
