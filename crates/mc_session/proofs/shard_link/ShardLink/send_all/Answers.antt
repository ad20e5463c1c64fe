-- Each round sends one piece more, until none is left or one is held back.
use Rattle.std.proofs.Common.{refl, ◌∙◌}
use Rattle.mc_session.specs.Records.{RecordsAllOf}
use Rattle.mc_session.specs.internal.Carrying.{AnyOut}
use Rattle.mc_session.proofs.Carrying.{may_still, moves_more, moves_refl, moves_then, moves_unless}
use Rattle.mc_session.proofs.Placing.{kept_refl, kept_same, kept_then}
use Rattle.mc_session.proofs.shard_link.ShardLink.send_all.Goals as goal

pub loop-init : goal.loop-init
loop-init g c =
    record {
      goes = moves_refl (RecordsAllOf c.args.self.now) c.args.self.now.ends c.args.self.now.under_way.items
          c.args.conn.now;
      places = refl;
      kept = kept_refl c.args.self.now;
    }

pub send_next-requires : goal.send_next-requires
send_next-requires g c = may_still AnyOut _ _ _ _ _ _ _ _ c.requires c.loop.invariant.goes

pub returns-then-not-send_next-clause-goes : goal.returns-then-not-send_next-clause-goes
returns-then-not-send_next-clause-goes g c =
    rw (
      c.call_shards.ensures.ends,
      c.call_shards.ensures.clerk,
      c.call_shards.ensures.under_way,
      c.call_shards.ensures.blocked,
    )
    (moves_then AnyOut _ _ _ _ _ _ _ _ _ _ _ _ _ _ (λ so. (refl, so)) c.loop.invariant.goes
    c.if-not-send_next.ensures.goes)

pub returns-clause-goes : goal.returns-clause-goes
returns-clause-goes g c =
    rw (
      c.call_shards-2.ensures.ends,
      c.call_shards-2.ensures.clerk,
      c.call_shards-2.ensures.under_way,
      c.call_shards-2.ensures.blocked,
    )
    (moves_unless AnyOut _ _ _ _ _ _ _ _ _ (λ so. absurd (cc)) c.loop.invariant.goes)

pub loop-preserved : goal.loop-preserved
loop-preserved g c = record {
  goes = moves_more AnyOut _ _ _ _ _ _ _ _ _ _ _ _ _ c.loop.invariant.goes c.send_next.ensures.goes;
  places = c.send_next.ensures.places ∙ c.loop.invariant.places;
  kept = kept_then _ _ _ c.loop.invariant.kept c.send_next.ensures.kept;
}

pub returns-then-not-send_next-clause-kept : goal.returns-then-not-send_next-clause-kept
returns-then-not-send_next-clause-kept g c =
    kept_then _ _ _ c.loop.invariant.kept
    (kept_then _ _ _ c.send_next.ensures.kept (kept_same _ _ c.call_shards.ensures.clerk))

pub returns-clause-kept : goal.returns-clause-kept
returns-clause-kept g c = kept_then _ _ _ c.loop.invariant.kept (kept_same _ _ c.call_shards-2.ensures.clerk)
