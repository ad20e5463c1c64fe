-- One clerk more, of the next seat's actor.
use Rattle.std.proofs.Common.{◌+◌, ◌∙◌, ap, arith}
use Rattle.std.specs.Arc.{arc_value}
use Rattle.mc_history.specs.declared.knowledge.Role.TheVariants.{Seat}
use Rattle.mc_record.proofs.Opened.{may_keep, none_act, one_acts, seat_is}
use Rattle.mc_record.proofs.opening.clerks_of.Goals as goal

pub loop-init : goal.loop-init
loop-init c = record {
  all = rw c.in_ok-clerks.ensures.items (none_act Seat (arc_value c.args.history.now));
  name = c.requires.name;
  seats = c.requires.first;
}

pub new-requires : goal.new-requires
new-requires c =
    let name = arc_value c.args.history.now in
    let most = c.requires.most in
    let actor = seat_is c.next_seat-actor.result c.loop.actors name c.loop.counter c.next_seat-actor.ensures.actor
    c.loop.invariant.name c.loop.invariant.seats in
    may_keep c.new-member.result name c.loop.counter (c.new-member.ensures ∙ actor) (omega arith)

pub loop-preserved : goal.loop-preserved
loop-preserved c =
    let name = arc_value c.args.history.now in
    let actor = seat_is c.next_seat-actor.result c.loop.actors name c.loop.counter c.next_seat-actor.ensures.actor
    c.loop.invariant.name c.loop.invariant.seats in
    record {
      all =
          one_acts Seat name c.loop.counter c.loop.clerks.items _ c.new.result c.in_ok-push.ensures.items
          (c.new.ensures ∙ (c.new-member.ensures ∙ actor)) c.loop.invariant.all;
      name = ap (λ left. left.name) c.next_seat-actor.ensures.left ∙ c.loop.invariant.name;
      seats = ap (λ left. left.seats) c.next_seat-actor.ensures.left ∙ ap (λ n. n + 1) c.loop.invariant.seats;
    }
