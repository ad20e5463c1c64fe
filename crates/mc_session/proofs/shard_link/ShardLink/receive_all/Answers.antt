-- Each round takes in the replies of one shard.
use Rattle.std.proofs.Common.{refl, ◌∙◌, arith, rules}
use Rattle.mc_session.specs.Records.{RecordsAllOf}
use Rattle.mc_session.specs.internal.Carrying.{NoneOut}
use Rattle.mc_session.proofs.Carrying.{may_still, stays_more, stays_refl}
use Rattle.mc_session.proofs.Placing.{kept_refl, kept_then}
use Rattle.mc_session.proofs.shard_link.ShardLink.receive_all.Goals as goal

pub loop-shard-init : goal.loop-shard-init
loop-shard-init g c =
    record {
      goes = stays_refl (RecordsAllOf c.args.self.now) c.args.self.now.ends c.args.self.now.under_way.items
          c.args.conn.now;
      blocked = refl;
      called = refl;
      same = refl;
      places = refl;
      kept = kept_refl c.args.self.now;
      last = search rules;
    }

pub receive_from-requires : goal.receive_from-requires
receive_from-requires g c = record {
  shard = let same = c.loop-shard.invariant.same in let last = c.loop-shard.invariant.last in omega (arith, same, last);
  carries = may_still NoneOut _ _ _ _ _ _ _ _ c.requires c.loop-shard.invariant.goes;
}

pub loop-shard-preserved : goal.loop-shard-preserved
loop-shard-preserved g c = record {
  goes = stays_more _ _ _ _ _ _ _ _ _ _ _ _ c.loop-shard.invariant.goes c.receive_from.ensures.goes;
  blocked = c.receive_from.ensures.blocked ∙ c.loop-shard.invariant.blocked;
  called = c.receive_from.ensures.called ∙ c.loop-shard.invariant.called;
  same = c.receive_from.ensures.same ∙ c.loop-shard.invariant.same;
  places = c.receive_from.ensures.places ∙ c.loop-shard.invariant.places;
  kept = kept_then _ _ _ c.loop-shard.invariant.kept c.receive_from.ensures.kept;
  last = c.loop-shard.invariant.last;
}
