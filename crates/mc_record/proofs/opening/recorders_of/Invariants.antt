-- The recorders of the first shards, and the rest of the actors.
use Rattle.std.proofs.Common.{◌≡◌}
use Rattle.std.specs.Arc.{arc_value}
use Rattle.mc_history.specs.declared.knowledge.Role.TheVariants.{Shard}
use Rattle.mc_record.specs.Opening.{ActInOrder}
use Rattle.mc_record.proofs.opening.recorders_of.Given as goal

abbrev pub invariant-loop : goal.invariant-loop
invariant-loop l = record {
  all : ActInOrder Shard (arc_value l.history) l.counter l.recorders.items;
  left : l.actors ≡ record { name = arc_value l.history; seats = 0; shards = l.counter };
}
