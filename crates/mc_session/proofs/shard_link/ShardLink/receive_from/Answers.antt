-- Each round takes in one reply more.
use Rattle.std.proofs.Common.{refl, ◌∙◌, arith}
use Rattle.mc_session.specs.Records.{RecordsAllOf}
use Rattle.mc_session.specs.internal.Carrying.{NoneOut}
use Rattle.mc_session.proofs.Carrying.{may_still, stays_more, stays_refl}
use Rattle.mc_session.proofs.Placing.{kept_refl, kept_then}
use Rattle.mc_session.proofs.shard_link.ShardLink.receive_from.Goals as goal

pub loop-init : goal.loop-init
loop-init g c =
    record {
      goes = stays_refl (RecordsAllOf c.args.self.now) c.args.self.now.ends c.args.self.now.under_way.items
          c.args.conn.now;
      blocked = refl;
      called = refl;
      same = refl;
      places = refl;
      kept = kept_refl c.args.self.now;
    }

pub receive_next-requires : goal.receive_next-requires
receive_next-requires g c = record {
  shard = let same = c.loop.invariant.same in let below = c.requires.shard in omega (arith, same, below);
  carries = may_still NoneOut _ _ _ _ _ _ _ _ c.requires.carries c.loop.invariant.goes;
}

pub returns-then-not-receive_next : goal.returns-then-not-receive_next
returns-then-not-receive_next g c = record {
  goes = stays_more _ _ _ _ _ _ _ _ _ _ _ _ c.loop.invariant.goes c.receive_next.ensures.goes;
  blocked = c.receive_next.ensures.blocked ∙ c.loop.invariant.blocked;
  called = c.receive_next.ensures.called ∙ c.loop.invariant.called;
  same = c.receive_next.ensures.same ∙ c.loop.invariant.same;
  places = c.receive_next.ensures.places ∙ c.loop.invariant.places;
  kept = kept_then _ _ _ c.loop.invariant.kept c.receive_next.ensures.kept;
}

pub loop-preserved : goal.loop-preserved
loop-preserved g c = record {
  goes = stays_more _ _ _ _ _ _ _ _ _ _ _ _ c.loop.invariant.goes c.receive_next.ensures.goes;
  blocked = c.receive_next.ensures.blocked ∙ c.loop.invariant.blocked;
  called = c.receive_next.ensures.called ∙ c.loop.invariant.called;
  same = c.receive_next.ensures.same ∙ c.loop.invariant.same;
  places = c.receive_next.ensures.places ∙ c.loop.invariant.places;
  kept = kept_then _ _ _ c.loop.invariant.kept c.receive_next.ensures.kept;
}
