use Rattle.std.specs.Prelude.{◌≡◌, length}
use Rattle.std.specs.List.{AllByRecursion}
use Rattle.mc_sim.specs.Stands.{IsNewSeat}
use Rattle.mc_sim.proofs.sim.new_seats.Given as goal

abbrev pub invariant-loop : goal.invariant-loop
invariant-loop l = record {
  count : length l.seats.items ≡ l.counter;
  each : AllByRecursion (IsNewSeat l.fn.sizes) l.seats.items;
}
