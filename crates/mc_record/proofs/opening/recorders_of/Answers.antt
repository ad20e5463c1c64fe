-- One recorder more, of the next shard's actor.
use Rattle.std.proofs.Common.{◌∙◌, refl, arith}
use Rattle.std.specs.Arc.{arc_value}
use Rattle.mc_history.specs.declared.knowledge.Role.TheVariants.{Shard}
use Rattle.mc_record.proofs.Opened.{may_record, none_act, one_acts, shard_is}
use Rattle.mc_record.proofs.opening.recorders_of.Goals as goal

pub loop-init : goal.loop-init
loop-init c = record {
  all = rw c.in_ok-recorders.ensures.items (none_act Shard (arc_value c.args.history.now));
  left = c.requires.first;
}

pub new-requires : goal.new-requires
new-requires c =
    let name = arc_value c.args.history.now in
    let most = c.requires.most in
    let actor = shard_is c.next_shard-actor.result c.loop.actors name c.loop.counter c.next_shard-actor.ensures.actor
    c.loop.invariant.left in
    may_record c.new-member.result name c.loop.counter (c.new-member.ensures ∙ actor) (omega arith)

pub loop-preserved : goal.loop-preserved
loop-preserved c =
    let name = arc_value c.args.history.now in
    let actor = shard_is c.next_shard-actor.result c.loop.actors name c.loop.counter c.next_shard-actor.ensures.actor
    c.loop.invariant.left in
    record {
      all =
          one_acts Shard name c.loop.counter c.loop.recorders.items _ c.new.result c.in_ok-push.ensures.items
          (c.new.ensures ∙ (c.new-member.ensures ∙ actor)) c.loop.invariant.all;
      left = c.next_shard-actor.ensures.left ∙ rw c.loop.invariant.left refl;
    }
