-- A new simulator is in the initial world.
use Rattle.std.proofs.Common.{◌≡◌, None, Some, [], length, refl, sym, ap, subst}
use Rattle.std.specs.List.{AllByRecursion}
use Rattle.mc_sizes.specs.Sizes.{AreWithin}
use Rattle.mc_sizes.specs.declared.sizes.Sizes.{Sizes}
use Rattle.mc_sim.specs.declared.sim.Sim.{Sim}
use Rattle.mc_model.specs.World.{empty_world}
use Rattle.mc_sim.specs.Rings.{AreWired, new_wires}
use Rattle.mc_sim.specs.Stands.{IsNewSeat, IsWorld, SeatIs, Stands}
use Rattle.mc_model.proofs.Worlds.{at_begin}
use Rattle.mc_ring.proofs.Lists.{all_at}

-- A new simulator of valid sizes is in the initial world.
pub begins : (sizes : Sizes) (sim : Sim) → AreWithin sizes → length sim.seats.items ≡ sizes.seats
    → AllByRecursion (IsNewSeat sizes) sim.seats.items → sim.connections.items ≡ [] → sim.log.items ≡ []
    → AreWired sizes sim.rings (new_wires sizes) → Stands sizes sim empty_world
unfolding Stands
begins sizes sim within counted seats connections log wired =
    let world : IsWorld sizes sim empty_world = record {
      within = within;
      law = at_begin sizes;
      seat_count = counted;
      each_seat = λ c seat here.
          let is = all_at (IsNewSeat sizes) sim.seats.items c seat seats here in
          subst (λ o. SeatIs sizes empty_world c seat.conn o) (sym is.0) ((λ k link at same. cc), is.1);
      seated = λ k link here. absurd (cc);
      count = ap length connections;
      keeps = λ k link kept here found. absurd (cc);
      log = log;
      wires = new_wires sizes;
      wired = wired;
      mirrors = record {
        channels = λ c k link at s. let here : None ≡ Some link = at.here in absurd (cc);
        unused = λ c unused s. (refl, refl);
        hands = λ s below k link here. absurd (cc);
        left = λ s below. refl;
      };
    } in
    world
