-- What stays of the places of connections, hands and rings where one connection of a world changes.
use Rattle.std.proofs.Common.{◌≡◌, ◌≢◌, ℕ, ◌<◌, ◌⊎◌, inl, inr, Option, Some, None, refl, sym, ap, ◌∙◌, subst, arith}
use Rattle.std.specs.List.{slice_get}
use Rattle.std.proofs.lemmas.Bool.{cases_eq, cases_lt}
use Rattle.mc_sizes.specs.declared.sizes.Sizes.{Sizes}
use Rattle.mc_ring.specs.Reply.{Shown}
use Rattle.mc_model.specs.Log.{Leaves, of_asker, on_shard, replies_in}
use Rattle.mc_model.specs.World.{IsAt, IsLink, Link, World, ran, with_link}
use Rattle.mc_model.specs.Events.{IsUnusedSeat}
use Rattle.mc_sim.specs.Rings.{Wires}
use Rattle.mc_sim.specs.Stands.{HandIs, Mirrors, unreceived, unrun}
use Rattle.mc_model.proofs.Lists.{at_once, set_cases}
use Rattle.mc_model.proofs.Growing.{set_here, set_other}

abbrev seat_of : Link → ℕ
seat_of link = link.seat

-- a seat has one connection
pub one_at : (w : World) (c k j : ℕ) (link one : Link) → IsAt w c k link → IsAt w c j one → (k ≡ j) × (link ≡ one)
one_at w c k j link one a b = elim (cases_eq k j) [
  | inl same ↦ (same, at_once w.links k j link one a.here b.here same)
  | inr apart ↦ elim (cases_lt k j) [
    | inl less ↦ absurd (a.last j one less b.here b.seat_is)
    | inr enough ↦ absurd (b.last k link (omega (arith, enough, apart)) a.here a.seat_is)
  ]
]

-- the changed connection has its seat
pub at_same : (w : World) (c k : ℕ) (link next : Link) → IsAt w c k link
    → next.seat ≡ link.seat → IsAt (with_link w k next) c k next
at_same w c k link next at seat = record {
  here = set_here w.links k next link at.here;
  seat_is = seat ∙ at.seat_is;
  last = λ j other less at_j. elim (set_cases w.links k next j other at_j) [
    | inl this ↦ let e = this.0 in absurd (omega (arith, less, e))
    | inr old ↦ at.last j other less old.1
  ];
}

-- and so has each other one
pub at_apart : (w : World) (c j k : ℕ) (one link next : Link) → IsAt w c j one → IsLink w k link
    → next.seat ≡ link.seat → j ≢ k → IsAt (with_link w k next) c j one
at_apart w c j k one link next at here seat apart = record {
  here = set_other w.links k next j apart ∙ at.here;
  seat_is = at.seat_is;
  last = λ i other less at_i. elim (set_cases w.links k next i other at_i) [
    | inl this ↦ λ e. at.last k link (let same = this.0 in omega (arith, less, same)) here
        (sym seat ∙ (ap seat_of (sym this.1) ∙ e))
    | inr old ↦ at.last i other less old.1
  ];
}

-- who has a seat after the change had it before
pub at_back : (w : World) (c j k : ℕ) (one link next : Link) → IsLink w k link
    → next.seat ≡ link.seat → IsAt (with_link w k next) c j one →
    ((j ≡ k) × (one ≡ next) × IsAt w c k link) ⊎ ((j ≢ k) × IsAt w c j one)
at_back w c j k one link next here seat at = elim (set_cases w.links k next j one at.here) [
  | inl this ↦ inl (
    this.0,
    this.1,
    record {
      here = here;
      seat_is = sym seat ∙ (ap seat_of (sym this.1) ∙ at.seat_is);
      last = λ i other less at_i.
          let same = this.0 in
          at.last i other (omega (arith, less, same))
          (set_other w.links k next i (λ e. absurd (omega (arith, e, less))) ∙ at_i);
    },
  )
  | inr old ↦ inr (
    old.0,
    record {
      here = old.1;
      seat_is = at.seat_is;
      last = λ i other less at_i. elim (cases_eq i k) [
        | inl same ↦ λ e. at.last k next (omega (arith, less, same)) (set_here w.links k next link here)
            (seat ∙ (ap seat_of (at_once w.links k i link other here at_i (sym same)) ∙ e))
        | inr apart ↦ at.last i other less (set_other w.links k next i apart ∙ at_i)
      ];
    },
  )
]

pub unused_back : (w : World) (c k : ℕ) (link next : Link) → IsLink w k link
    → next.seat ≡ link.seat → IsUnusedSeat (with_link w k next) c → IsUnusedSeat w c
unused_back w c k link next here seat unused j one at_j is = elim (cases_eq j k) [
  | inl same ↦ unused k next (set_here w.links k next link here)
      (seat ∙ (ap seat_of (at_once w.links k j link one here at_j (sym same)) ∙ is))
  | inr apart ↦ unused j one (set_other w.links k next j apart ∙ at_j) is
]

-- A seat that has had no connection still has had none once a connection changes that keeps its seat.
pub unused_on : (w : World) (c k : ℕ) (link next : Link) → IsLink w k link → next.seat ≡ link.seat → IsUnusedSeat w c
    → IsUnusedSeat (with_link w k next) c
unused_on w c k link next here seat unused j one at_j is = elim (set_cases w.links k next j one at_j) [
  | inl this ↦ unused k link here (sym seat ∙ (ap seat_of (sym this.1) ∙ is))
  | inr old ↦ unused j one old.1 is
]

-- a worker holds the same reply if no answer was sent
pub hand_on : (w : World) (s k : ℕ) (link next : Link) (hand : Option (ℕ × Shown)) → IsLink w k link
    → next.seat ≡ link.seat → next.given s ≡ link.given s → HandIs w s hand → HandIs (with_link w k next) s hand
hand_on w s k link next None here seat given empty = λ j one at_j. elim (set_cases w.links k next j one at_j) [
  | inl this ↦
      let number = ap (λ n. ran w n s) this.0 in
      let count = ap (λ (x : Link). x.given s) this.1 in
      let bound = empty k link here in
      omega (arith, number, count, given, bound)
  | inr old ↦ empty j one old.1
]
hand_on w s k link next (Some held) here seat given h = elim (cases_eq h.number k) [
  | inl same ↦
      let this : h.link ≡ link = at_once w.links h.number k h.link link h.at.here here same in
      let at_k : IsAt w held.0 k link =
      subst (λ x. IsAt w held.0 k x) this (subst (λ n. IsAt w held.0 n h.link) same h.at) in
      let count : next.given s ≡ h.link.given s = given ∙ ap (λ (x : Link). x.given s) (sym this) in
      let ungiven = h.ungiven in
      record {
        number = h.number;
        link = next;
        at = subst (λ n. IsAt (with_link w k next) held.0 n next) (sym same) (at_same w held.0 k link next at_k seat);
        ungiven = omega (arith, count, ungiven);
        reply_is = ap (λ n. slice_get (replies_in (on_shard s (of_asker h.number w.log))) n) count ∙ h.reply_is;
      }
  | inr apart ↦ record {
    number = h.number;
    link = h.link;
    at = at_apart w held.0 h.number k h.link link next h.at here seat apart;
    ungiven = h.ungiven;
    reply_is = h.reply_is;
  }
]

-- the rings hold what they are to hold, where they do for the changed connection
pub mirrors_on : (sizes : Sizes) (w : World) (wires wires' : Wires) (c k : ℕ) (link next : Link) → Mirrors sizes w wires
    → IsAt w c k link → next.seat ≡ link.seat →
    ((s : ℕ) → (wires'.pieces c s ≡ unrun sizes w k s next) × (wires'.replies c s ≡ unreceived w k s next)) →
    ((d s : ℕ) → d ≢ c → (wires'.pieces d s ≡ wires.pieces d s) × (wires'.replies d s ≡ wires.replies d s)) →
    ((s : ℕ) → s < sizes.shards → HandIs (with_link w k next) s (wires'.hand s)) →
    ((s : ℕ) → wires'.state s ≡ wires.state s) →
    Mirrors sizes (with_link w k next) wires'
mirrors_on sizes w wires wires' c k link next m at seat mine others hands states = record {
  channels = λ d j one at_j s. elim (at_back w d j k one link next at.here seat at_j) [
    | inl this ↦
        let same : d ≡ c = sym this.2.seat_is ∙ at.seat_is in (
          ap (λ e. wires'.pieces e s) same
              ∙ ((mine s).0 ∙ (ap (λ n. unrun sizes w n s next) (sym this.0)
              ∙ ap (λ x. unrun sizes w j s x) (sym this.1))),
          ap (λ e. wires'.replies e s) same
              ∙ ((mine s).1 ∙ (ap (λ n. unreceived w n s next) (sym this.0)
              ∙ ap (λ x. unreceived w j s x) (sym this.1))),
        )
    | inr old ↦
        let apart : d ≢ c = λ e. old.0 (sym (one_at w c k j link one at (subst (λ x. IsAt w x j one) e old.1)).0) in
        let kept = m.channels d j one old.1 s in
        let same = others d s apart in (same.0 ∙ kept.0, same.1 ∙ kept.1)
  ];
  unused = λ d unused s.
      let before = unused_back w d k link next at.here seat unused in
      let apart : d ≢ c = λ e. before k link at.here (at.seat_is ∙ sym e) in
      let none = m.unused d before s in
      let same = others d s apart in (same.0 ∙ none.0, same.1 ∙ none.1);
  hands = hands;
  left = λ s below. subst (λ state. Leaves sizes s w.log state) (sym (states s)) (m.left s below);
}

-- rings that stay as they are, where what was sent, given and received stays
pub mirrors_stay : (sizes : Sizes) (w : World) (wires : Wires) (c k : ℕ) (link next : Link) → Mirrors sizes w wires
    → IsAt w c k link → next.seat ≡ link.seat →
    ((s : ℕ) → unrun sizes w k s link ≡ unrun sizes w k s next) → next.given ≡ link.given → next.received
    ≡ link.received →
    Mirrors sizes (with_link w k next) wires
mirrors_stay sizes w wires c k link next m at seat same given received =
    let back : (s : ℕ) → unreceived w k s link ≡ unreceived w k s next =
    λ s. ap (λ g. unreceived w k s (record link { given = g })) (sym given)
    ∙ ap (λ r. unreceived w k s (record link { given = next.given; received = r })) (sym received) in
    mirrors_on sizes w wires wires c k link next m at seat
    (λ s. ((m.channels c k link at s).0 ∙ same s, (m.channels c k link at s).1 ∙ back s))
    (λ d s apart. (refl, refl))
    (λ s below. hand_on w s k link next (wires.hand s) at.here seat (ap (λ (g : ℕ → ℕ). g s) given) (m.hands s below))
    (λ s. refl)
