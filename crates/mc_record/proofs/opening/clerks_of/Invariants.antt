-- The clerks of the first seats, and the rest of the actors.
use Rattle.std.proofs.Common.{◌≡◌}
use Rattle.std.specs.Arc.{arc_value}
use Rattle.mc_history.specs.declared.knowledge.Role.TheVariants.{Seat}
use Rattle.mc_record.specs.Opening.{ActInOrder}
use Rattle.mc_record.proofs.opening.clerks_of.Given as goal

abbrev pub invariant-loop : goal.invariant-loop
invariant-loop l = record {
  all : ActInOrder Seat (arc_value l.history) l.counter l.clerks.items;
  name : l.actors.name ≡ arc_value l.history;
  seats : l.actors.seats ≡ l.counter;
}
