-- What each event keeps of the law of the world.
use Rattle.std.proofs.Common.{◌≡◌, ◌≢◌, ℕ, ◌<◌, ◌≤◌, ◌⊎◌, inl, inr, [], ◌∷◌, ◌++◌, length, Some, refl, sym, ap, ◌∙◌}
use Rattle.std.proofs.Common.{subst, arith, length-append}
use Rattle.std.specs.List.{slice_get, AllByRecursion}
use Rattle.std.proofs.lemmas.Bool.{cases_eq, cases_lt}
use Rattle.std.proofs.lemmas.Bool.Decides.{eqb_tells}
use Rattle.std.proofs.lemmas.List.{length-set}
use Rattle.std.proofs.lemmas.Option.{slice_get_within}
use Rattle.mc_sizes.specs.declared.sizes.Sizes.{Sizes}
use Rattle.mc_conn.specs.Due.{due}
use Rattle.mc_conn.proofs.Counting.{due_beyond}
use Rattle.mc_model.specs.Sized.{empty_shard}
use Rattle.mc_model.specs.Log.{Entry, Leaves, of_asker, on_shard}
use Rattle.mc_model.specs.World.{HoldsAnswerFor, IsAt, IsLink, Link, World, empty_world, new_link, ran, sent_to}
use Rattle.mc_model.specs.World.{with_entry, with_link}
use Rattle.mc_model.specs.Rest.{AtRest}
use Rattle.mc_model.specs.Events.{IsEmptyHand, IsRenewable, IsUnusedSeat, RunsNext}
use Rattle.mc_model.specs.Law.{Law, LinkLaw}
use Rattle.mc_model.proofs.Lists.{at_once, push_cases, set_cases}
use Rattle.mc_model.proofs.Logs.{none_of, of_asker-no, of_asker-yes, on_shard-no, on_shard-yes, ran_push, Run-push}
use Rattle.mc_model.proofs.Links.{all_received, new_kept, pop_kept}
use Rattle.mc_ring.proofs.Lists.{all_weaken, all_push}

-- The law holds of the world in which nothing has happened.
pub at_begin : (sizes : Sizes) → Law sizes empty_world
at_begin sizes = record {
  links = λ k link here. absurd (cc);
  one_ungiven = λ s k link here. absurd (cc);
  one_asker = λ s j k one other at_j at_k a b. absurd (cc);
  rested = λ j k earlier later less at_j at_k seat. absurd (cc);
  lawful = λ s below. (empty_shard sizes s, refl);
  owned = tt;
}

-- No later connection has the seat.
abbrev pub IsUnfollowed : World → ℕ → Link → Type 0
IsUnfollowed w k link = (j : ℕ) (other : Link) → k < j → IsLink w j other → other.seat ≢ link.seat

-- what a connection was before one of them changed
pub record Was (w : World) (j : ℕ) (now : Link) : Type 0 where
  pub old : Link
  pub here : IsLink w j old
  pub seat : old.seat ≡ now.seat
  pub grows : (s : ℕ) → old.given s ≤ now.given s

was : (w : World) (k : ℕ) (link new : Link) → IsLink w k link
    → new.seat ≡ link.seat → ((s : ℕ) → link.given s ≤ new.given s) → (j : ℕ) (now : Link)
    → IsLink (with_link w k new) j now → Was w j now
was w k link new here seat grows j now at = elim (set_cases w.links k new j now at) [
  | inl this ↦ record {
    old = link;
    here = ap (λ n. slice_get w.links n) this.0 ∙ here;
    seat = sym seat ∙ ap (λ (x : Link). x.seat) (sym this.1);
    grows = λ s. subst (λ (x : Link). link.given s ≤ x.given s) (sym this.1) (grows s);
  }
  | inr other ↦ record { old = now; here = other.1; seat = refl; grows = λ s. omega arith }
]

-- one connection changes, and keeps its own law
pub link_kept : (sizes : Sizes) (w : World) (k : ℕ) (link new : Link) → Law sizes w → IsLink w k link
    → LinkLaw sizes (of_asker k w.log) new → new.seat ≡ link.seat → ((s : ℕ) → link.given s ≤ new.given s)
    → IsUnfollowed w k link → Law sizes (with_link w k new)
link_kept sizes w k link new l here kept seat grows unfollowed =
    let before : (j : ℕ) (now : Link) → IsLink (with_link w k new) j now → Was w j now =
    was w k link new here seat grows in
    record {
      links = λ j now at. elim (set_cases w.links k new j now at) [
        | inl this ↦
            let mine : LinkLaw sizes (of_asker j w.log) new =
            subst (λ n. LinkLaw sizes (of_asker n w.log) new) (sym this.0) kept in
            subst (λ x. LinkLaw sizes (of_asker j w.log) x) (sym this.1) mine
        | inr other ↦ l.links j now other.1
      ];
      one_ungiven = λ s j now at.
          let old = before j now at in
          let a = l.one_ungiven s j old.old old.here in
          let b = old.grows s in
          omega (arith, a, b);
      one_asker = λ s i j one other at_i at_j one_waits other_waits.
          let a = before i one at_i in
          let b = before j other at_j in
          let more = a.grows s in
          let more' = b.grows s in
          l.one_asker s i j a.old b.old a.here b.here (omega (arith, more, one_waits))
          (omega (arith, more', other_waits));
      rested = λ i j earlier later less at_i at_j same.
          let b = before j later at_j in
          elim (set_cases w.links k new i earlier at_i) [
            | inl this ↦
                let after : k < j = let e = this.0 in omega (arith, less, e) in
                absurd (unfollowed j b.old after b.here
                (b.seat ∙ (sym same ∙ (ap (λ (x : Link). x.seat) this.1 ∙ seat))))
            | inr other ↦ l.rested i j earlier b.old less other.1 b.here (same ∙ sym b.seat)
          ];
      lawful = l.lawful;
      owned =
          subst (λ n. AllByRecursion (λ (e : Entry). (e.shard < sizes.shards) × (e.asker < n)) w.log)
          (sym (length-set w.links k new)) l.owned;
    }

-- the connection of a seat is followed by none
pub at_unfollowed : (w : World) (seat k : ℕ) (link : Link) → IsAt w seat k link → IsUnfollowed w k link
at_unfollowed w seat k link at j other after here same = at.last j other after here (same ∙ at.seat_is)

-- nor is one whose answer is in a hand: one that was followed is at rest
pub hand_unfollowed : (sizes : Sizes) (w : World) (shard k : ℕ) (link : Link) → Law sizes w → IsLink w k link
    → HoldsAnswerFor w shard k link → IsUnfollowed w k link
hand_unfollowed sizes w shard k link l at ungiven j other after here same =
    let own = l.links k link at in
    let rest = l.rested k j link other after at here (sym same) in
    let all = all_received sizes (of_asker k w.log) link own rest shard in
    let given = own.received shard in
    absurd (omega (arith, all, given, ungiven))

-- a shard runs a piece for the connection of a seat
pub entry_kept : (sizes : Sizes) (w : World) (shard seat k : ℕ) (link : Link) (entry : Entry) → 0 < sizes.shards
    → Law sizes w → IsAt w seat k link → IsEmptyHand w shard → ran w k shard < sent_to sizes shard link
    → RunsNext sizes w shard k link entry → Law sizes (with_entry w entry)
entry_kept sizes w shard seat k link entry some l at empty waiting runs =
    let here : entry.shard ≡ shard = runs.shard_is in
    let mine : entry.asker ≡ k = runs.asker_is in
    let next : slice_get (due sizes.shards entry.shard link.taken) (length (on_shard entry.shard (of_asker k w.log)))
    ≡ Some entry.piece =
    subst (λ s. slice_get (due sizes.shards s link.taken) (length (on_shard s (of_asker k w.log))) ≡ Some entry.piece)
    (sym here) runs.next in
    let waits : length (on_shard entry.shard (of_asker k w.log)) < sent_to sizes entry.shard link =
    subst (λ s. length (on_shard s (of_asker k w.log)) < sent_to sizes s link) (sym here) waiting in
    let popped = pop_kept sizes (of_asker k w.log) link entry (l.links k link at.here) next waits in
    -- where the entry is one of a connection's, the hand was empty
    let free : (s j : ℕ) (one : Link) → IsLink w j one → entry.shard ≡ s → ran w j s ≤ one.given s =
    λ s j one at_j same.
    subst (λ t. ran w j t ≤ one.given t) (sym here ∙ same) (empty j one at_j) in
    let there : entry.shard < sizes.shards = elim (cases_lt entry.shard sizes.shards) [
      | inl below ↦ below
      | inr beyond ↦
          let none = due_beyond sizes.shards entry.shard link.taken some beyond in
          let got = slice_get_within (due sizes.shards entry.shard link.taken)
          (length (on_shard entry.shard (of_asker k w.log))) entry.piece next in
          let e = ap length none in
          absurd (omega (arith, got, e))
    ] in
    let asked : entry.asker < length w.links = let below = slice_get_within w.links k link at.here in
    omega (arith, mine, below) in
    record {
      links = λ j one at_j. elim (eqb_tells entry.asker j) [
        | inl same ↦
            let place : k ≡ j = sym mine ∙ same.1 in
            let this : link ≡ one = at_once w.links k j link one at.here at_j place in
            let kept : LinkLaw sizes (of_asker j w.log ++ entry ∷ []) link =
            subst (λ n. LinkLaw sizes (of_asker n w.log ++ entry ∷ []) link) place popped in
            subst (λ es. LinkLaw sizes es one) (sym (of_asker-yes j w.log entry same.1))
            (subst (λ x. LinkLaw sizes (of_asker j w.log ++ entry ∷ []) x) this kept)
        | inr other ↦ subst (λ es. LinkLaw sizes es one) (sym (of_asker-no j w.log entry other.1)) (l.links j one at_j)
      ];
      one_ungiven = λ s j one at_j. elim (ran_push w.log entry j s) [
        | inl more ↦
            let e = more.2 in
            let bound = free s j one at_j more.1 in
            omega (arith, e, bound)
        | inr same ↦ let old = l.one_ungiven s j one at_j in omega (arith, same, old)
      ];
      one_asker = λ s i j one other at_i at_j one_waits other_waits. elim (ran_push w.log entry i s) [
        | inl more ↦ elim (ran_push w.log entry j s) [
          | inl more' ↦ sym more.0 ∙ more'.0
          | inr same' ↦ let bound = free s j other at_j more.1 in absurd (omega (arith, same', bound, other_waits))
        ]
        | inr same ↦ elim (ran_push w.log entry j s) [
          | inl more' ↦ let bound = free s i one at_i more'.1 in absurd (omega (arith, same, bound, one_waits))
          | inr same' ↦ l.one_asker s i j one other at_i at_j (omega (arith, same, one_waits))
              (omega (arith, same', other_waits))
        ]
      ];
      rested = l.rested;
      lawful = λ s below. elim (eqb_tells entry.shard s) [
        | inl same ↦
            let is : shard ≡ s = sym here ∙ same.1 in
            let left : Leaves sizes s w.log runs.before =
            subst (λ t. Leaves sizes t w.log runs.before) is runs.left in (
              runs.after,
              rw (on_shard-yes s w.log entry same.1)
                  (Run-push (empty_shard sizes s) (on_shard s w.log) runs.before runs.after entry left runs.step),
            )
        | inr other ↦ let old = l.lawful s below in (old.0, rw (on_shard-no s w.log entry other.1) old.1)
      ];
      owned =
          all_push (λ (e : Entry). (e.shard < sizes.shards) × (e.asker < length w.links)) w.log entry l.owned
          (there, asked);
    }

-- a new connection on a seat that has had none, or whose last one is at rest
pub open_kept : (sizes : Sizes) (w : World) (seat : ℕ) → Law sizes w
    → IsUnusedSeat w seat ⊎ IsRenewable sizes w seat → Law sizes (record w { links = w.links ++ new_link seat ∷ [] })
open_kept sizes w seat l free =
    let new = new_link seat in
    let long = length-append w.links (new ∷ []) in
    let nothing : of_asker (length w.links) w.log ≡ [] =
    none_of (λ (e : Entry). e.shard < sizes.shards) (length w.links) (length w.links) w.log l.owned (omega arith) in
    let nothing_ran : (j s : ℕ) → j ≡ length w.links → ran w j s ≡ 0 = λ j s at.
    ap (λ n. length (on_shard s (of_asker n w.log))) at ∙ ap (λ es. length (on_shard s es)) nothing in
    let before : (j : ℕ) (one : Link) → IsLink w j one → one.seat ≡ seat → AtRest sizes one =
    λ j one at_j same. elim free [
      | inl unused ↦ absurd (unused j one at_j same)
      | inr renews ↦
          let i = renews.0 in
          let old = renews.1 in
          let last = renews.2 in
          elim (cases_lt j i) [
            | inl less ↦ l.rested j i one old less at_j last.here (same ∙ sym last.seat_is)
            | inr enough ↦ elim (cases_eq i j) [
              | inl equal ↦ subst (λ x. AtRest sizes x) (at_once w.links i j old one last.here at_j equal) renews.3.0
              | inr apart ↦ absurd (last.last j one (omega (arith, enough, apart)) at_j same)
            ]
          ]
    ] in
    record {
      links = λ j one at. elim (push_cases w.links new j one at) [
        | inl old ↦ l.links j one old
        | inr this ↦
            let own : LinkLaw sizes (of_asker j w.log) new =
            subst (λ es. LinkLaw sizes es new) (sym (ap (λ n. of_asker n w.log) this.0 ∙ nothing)) (new_kept sizes seat)
            in
            subst (λ x. LinkLaw sizes (of_asker j w.log) x) (sym this.1) own
      ];
      one_ungiven = λ s j one at. elim (push_cases w.links new j one at) [
        | inl old ↦ l.one_ungiven s j one old
        | inr this ↦ let none = nothing_ran j s this.0 in omega (arith, none)
      ];
      one_asker = λ s i j one other at_i at_j one_waits other_waits. elim (push_cases w.links new i one at_i) [
        | inr this ↦ let none = nothing_ran i s this.0 in absurd (omega (arith, none, one_waits))
        | inl old ↦ elim (push_cases w.links new j other at_j) [
          | inr this ↦ let none = nothing_ran j s this.0 in absurd (omega (arith, none, other_waits))
          | inl old' ↦ l.one_asker s i j one other old old' one_waits other_waits
        ]
      ];
      rested = λ i j earlier later less at_i at_j same. elim (push_cases w.links new i earlier at_i) [
        | inr this ↦
            let at = this.0 in
            let below = slice_get_within (w.links ++ new ∷ []) j later at_j in
            absurd (omega (arith, at, below, long, less))
        | inl old ↦ elim (push_cases w.links new j later at_j) [
          | inl old' ↦ l.rested i j earlier later less old old' same
          | inr this ↦ before i earlier old (same ∙ ap (λ (x : Link). x.seat) this.1)
        ]
      ];
      lawful = l.lawful;
      owned =
          all_weaken (λ (e : Entry). (e.shard < sizes.shards) × (e.asker < length w.links))
          (λ (e : Entry). (e.shard < sizes.shards) × (e.asker < length (w.links ++ new ∷ [])))
          (λ e both. (both.0, let below = both.1 in omega (arith, below, long))) w.log l.owned;
    }
