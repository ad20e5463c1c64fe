use Rattle.std.proofs.Common.{rules, arith}
use Rattle.mc_ring.specs.declared.request.Request.{Request}
use Rattle.mc_ring.specs.Reply.{shown}
use Rattle.mc_ring.specs.Stamps.{item_seen}
use Rattle.mc_ring.proofs.Prefixes.{map_longer, longer_trans}
use Rattle.mc_ring.proofs.pair.channel_beside.Goals as goal

pub returns-clause-near : goal.returns-clause-near
returns-clause-near g c = rw (← c.near.view_is) (record {
  past = search rules;
  ahead =
      map_longer (item_seen shown) _ _
      (longer_trans _ _ _ c.slots_beside-2.ensures.consumer.2 c.slots_beside-replies.ensures.looked.2);
  free = omega arith;
})

pub returns-clause-far : goal.returns-clause-far
returns-clause-far g c = rw (← c.far.view_is) (record {
  past = search rules;
  ahead =
      map_longer (item_seen (λ (request : Request). request)) _ _
      (longer_trans _ _ _ c.slots_beside.ensures.consumer.2 c.slots_beside-requests.ensures.looked.2);
  free = omega arith;
})
