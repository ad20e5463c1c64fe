-- A simulator is in the next world if one connection of its world changed, and the simulator with it.
use Rattle.std.proofs.Common.{◌≡◌, ◌≢◌, ℕ, inl, inr, Option, Some, None, List, length, refl, sym, ap, ◌∙◌, subst, arith}
use Rattle.std.proofs.Common.{slice_set}
use Rattle.std.specs.List.{slice_get}
use Rattle.std.proofs.lemmas.Bool.{cases_eq}
use Rattle.std.proofs.lemmas.List.{length-set}
use Rattle.mc_sizes.specs.declared.sizes.Sizes.{Sizes}
use Rattle.mc_ring.specs.EndsLaws.{get-set_other, get-set_same, length-slice_set}
use Rattle.mc_conn.specs.declared.conn.Conn.{Conn}
use Rattle.mc_sim.specs.declared.sim.Connection.{Connection}
use Rattle.mc_sim.specs.declared.sim.Seat.{Seat}
use Rattle.mc_sim.specs.declared.sim.Sim.{Sim}
use Rattle.mc_model.specs.Log.{of_asker}
use Rattle.mc_model.specs.World.{IsAt, Link, World, with_link}
use Rattle.mc_model.specs.Law.{Law}
use Rattle.mc_sim.specs.Rings.{AreWired, Wires}
use Rattle.mc_sim.specs.Stands.{IsServing, IsWorld, KeepsLink, Mirrors, SeatIs}
use Rattle.mc_model.proofs.Lists.{at_once, set_cases}
use Rattle.mc_sim.proofs.Changing.{at_apart, unused_on}

-- The seats are those of before, but for one.
pub record SeatsBut (sizes : Sizes) (w : World) (c : ℕ) (old new : List Seat) : Type 0 where
  pub count : length new ≡ length old
  pub here : (seat : Seat) → slice_get new c ≡ Some seat → SeatIs sizes w c seat.conn seat.current
  pub others : (d : ℕ) (seat : Seat) → d ≢ c → slice_get new d ≡ Some seat → slice_get old d ≡ Some seat

-- What is kept of the connections is as before, but for one.
pub record KeptBut (sizes : Sizes) (w : World) (k : ℕ) (link : Link) (old new : List Connection) : Type 0 where
  pub count : length new ≡ length old
  pub here : (kept : Connection) → slice_get new k ≡ Some kept → KeepsLink sizes w k link kept
  pub others : (j : ℕ) (kept : Connection) → j ≢ k → slice_get new j ≡ Some kept → slice_get old j ≡ Some kept

set_at : {X : Type 0} (P : X → Type 0) (xs ys : List X) (i : ℕ) (x y z : X) → slice_get xs i ≡ Some x → ys
    ≡ slice_set xs i y → P y → slice_get ys i ≡ Some z → P z
set_at P xs ys i x y z here is good found =
    subst P (at_once (slice_set xs i y) i i y z (get-set_same xs i x y here)
    (ap (λ zs. slice_get zs i) (sym is) ∙ found) refl) good

set_off : {X : Type 0} (xs ys : List X) (i : ℕ) (y : X) (j : ℕ) (z : X) → ys ≡ slice_set xs i y → j ≢ i → slice_get ys j
    ≡ Some z → slice_get xs j ≡ Some z
set_off xs ys i y j z is apart found = sym (get-set_other xs i j y apart) ∙ (ap (λ zs. slice_get zs j) (sym is) ∙ found)

-- If one seat was set to the world's, the other seats are unchanged.
pub seats_set : (sizes : Sizes) (w : World) (c : ℕ) (old new : List Seat) (before after : Seat) → slice_get old c
    ≡ Some before → new ≡ slice_set old c after → SeatIs sizes w c after.conn after.current → SeatsBut sizes w c old new
seats_set sizes w c old new before after here is good = record {
  count = ap length is ∙ length-slice_set old c after;
  here =
      λ seat found. set_at (λ (x : Seat). SeatIs sizes w c x.conn x.current) old new c before after seat here is good
      found;
  others = λ d seat apart found. set_off old new c after d seat is apart found;
}

-- If the history of one connection was set to the world's, all other histories are unchanged.
pub kept_set : (sizes : Sizes) (w : World) (k : ℕ) (link : Link) (old new : List Connection) (before after : Connection)
    → slice_get old k ≡ Some before → new ≡ slice_set old k after → KeepsLink sizes w k link after
    → KeptBut sizes w k link old new
kept_set sizes w k link old new before after here is good = record {
  count = ap length is ∙ length-slice_set old k after;
  here = λ kept found. set_at (λ x. KeepsLink sizes w k link x) old new k before after kept here is good found;
  others = λ j kept apart found. set_off old new k after j kept is apart found;
}

-- If all histories stay, and that of one connection is the world's, the others are unchanged.
pub kept_same : (sizes : Sizes) (w : World) (k : ℕ) (link : Link) (old new : List Connection) (kept : Connection)
    → slice_get old k ≡ Some kept → new ≡ old → KeepsLink sizes w k link kept → KeptBut sizes w k link old new
kept_same sizes w k link old new kept here is good = record {
  count = ap length is;
  here =
      λ x found. subst (λ y. KeepsLink sizes w k link y)
      (at_once old k k kept x here (ap (λ zs. slice_get zs k) (sym is) ∙ found) refl) good;
  others = λ j x apart found. ap (λ zs. slice_get zs j) (sym is) ∙ found;
}

-- another seat has what it had
seat_on : (sizes : Sizes) (w : World) (c k : ℕ) (link next : Link) (d : ℕ) (conn : Conn) (current : Option ℕ)
    → IsAt w c k link → next.seat ≡ link.seat → d ≢ c → SeatIs sizes w d conn current
    → SeatIs sizes (with_link w k next) d conn current
seat_on sizes w c k link next d conn None at seat apart is = (unused_on w d k link next at.here seat is.0, is.1)
seat_on sizes w c k link next d conn (Some j) at seat apart is =
    let other = is.1 in
    let far : j ≢ k = λ e. apart
    (sym other.seat_is ∙ (ap (λ (x : Link). x.seat) (at_once w.links j k is.0 link other.here at.here e) ∙ at.seat_is))
    in
    (is.0, at_apart w d j k is.0 link next other at.here seat far, is.2)

-- what is kept of a connection that did not change
kept_on : (sizes : Sizes) (w : World) (k : ℕ) (next : Link) (j : ℕ) (link : Link) (kept : Connection)
    → KeepsLink sizes w j link kept → KeepsLink sizes (with_link w k next) j link kept
kept_on sizes w k next j link kept h =
    record { seat = h.seat; ended = h.ended; broken = h.broken; fed = h.fed; handed = h.handed }

-- A simulator is in the world with the change of one connection if the law still holds, the log is
-- unchanged, and its seat, its connection and the rings show that change.
pub world_on : (sizes : Sizes) (w : World) (c k : ℕ) (link next : Link) (old new : Sim) (wires : Wires)
    → IsWorld sizes old w → IsAt w c k link → next.seat ≡ link.seat → Law sizes (with_link w k next) →
    SeatsBut sizes (with_link w k next) c old.seats.items new.seats.items
    → KeptBut sizes (with_link w k next) k next old.connections.items new.connections.items →
    new.log.items ≡ old.log.items → AreWired sizes new.rings wires → Mirrors sizes (with_link w k next) wires →
    IsWorld sizes new (with_link w k next)
world_on sizes w c k link next old new wires world at seat law seats connections log wired mirrors = record {
  within = world.within;
  law = law;
  seat_count = seats.count ∙ world.seat_count;
  each_seat = λ d place found. elim (cases_eq d c) [
    | inl same ↦ subst (λ e. SeatIs sizes (with_link w k next) e place.conn place.current) (sym same)
        (seats.here place (ap (λ e. slice_get new.seats.items e) (sym same) ∙ found))
    | inr apart ↦ seat_on sizes w c k link next d place.conn place.current at seat apart
        (world.each_seat d place (seats.others d place apart found))
  ];
  seated = λ j one at_j. elim (set_cases w.links k next j one at_j) [
    | inl this ↦
        let below = world.seated k link at.here in
        let same = ap (λ (x : Link). x.seat) this.1 in
        omega (arith, below, same, seat)
    | inr before ↦ world.seated j one before.1
  ];
  count = connections.count ∙ (world.count ∙ sym (length-set w.links k next));
  keeps = λ j one kept at_j found. elim (set_cases w.links k next j one at_j) [
    | inl this ↦
        let kept_k : KeepsLink sizes (with_link w k next) k next kept =
        connections.here kept (ap (λ n. slice_get new.connections.items n) (sym this.0) ∙ found) in
        subst (λ x. KeepsLink sizes (with_link w k next) j x kept) (sym this.1)
        (subst (λ n. KeepsLink sizes (with_link w k next) n next kept) (sym this.0) kept_k)
    | inr before ↦ kept_on sizes w k next j one kept
        (world.keeps j one kept before.1 (connections.others j kept before.0 found))
  ];
  log = log ∙ world.log;
  wires = wires;
  wired = wired;
  mirrors = mirrors;
}

-- the connection of a seat, by its number
pub found : (sizes : Sizes) (w : World) (sim : Sim) (c number : ℕ) (place : Seat) → IsWorld sizes sim w
    → slice_get sim.seats.items c ≡ Some place → place.current ≡ Some number → (link : Link) × IsAt w c number link
    × IsServing sizes (of_asker number w.log) link place.conn
found sizes w sim c number place world here current =
    subst (λ o. SeatIs sizes w c place.conn o) current (world.each_seat c place here)
