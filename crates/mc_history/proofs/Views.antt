-- The rule where one token's knowledge changes, and where there is one token more.
use Rattle.std.proofs.Common.{◌≡◌, ◌≢◌, ℕ, zero, suc, ◌⊎◌, inl, inr, List, [], ◌∷◌, ◌++◌, length, slice_set, refl, sym}
use Rattle.std.proofs.Common.{ap, subst, ◌∙◌}
use mathlib.Core.Option.{some, some-injective, some-ne-none}
use lib.ListN.{get_elem?}
use Rattle.atomic_table.proofs.Lists.{at_set}
use Rattle.mc_history.specs.declared.event.Event.{Event}
use Rattle.mc_history.specs.declared.knowledge.Knowledge.{Knowledge}
use Rattle.mc_history.specs.Roles.{AreApart, IsWithin}
use Rattle.mc_history.specs.Rule.{AllApart, AllFit, Fits}
use Rattle.mc_history.proofs.Roles.{apart_swap, apart_within, within_apart}

-- One token knows something new that fits, and what the others know fits.
pub fit_set : (history : List Event) (views : List Knowledge) (id : ℕ) (w : Knowledge) → Fits history w
    → ((j : ℕ) (u : Knowledge) → j ≢ id → get_elem? views j ≡ some u → Fits history u)
    → AllFit history (slice_set views id w)
fit_set history views id w fits others j u at = elim (at_set views id j w u at) [
  | inl this ↦ subst (λ x. Fits history x) this.1 fits
  | inr other ↦ others j u other.0 other.1
]

-- A token of a list with one more is that one, or is of the list.
pub get_snoc : (views : List Knowledge) (w u : Knowledge) (j : ℕ) → get_elem? (views ++ w ∷ []) j ≡ some u
    → (get_elem? views j ≡ some u) ⊎ ((j ≡ length views) × (w ≡ u))
get_snoc [] w u zero at = inr (refl, some-injective w u at)
get_snoc [] w u (suc j) at = absurd (some-ne-none u (sym at))
get_snoc (v ∷ views) w u zero at = inl at
get_snoc (v ∷ views) w u (suc j) at = elim (get_snoc views w u j at) [
  | inl old ↦ inl old
  | inr new ↦ inr (ap suc new.0, new.1)
]

-- One token more knows something that fits.
pub fit_snoc : (history : List Event) (views : List Knowledge) (w : Knowledge) → AllFit history views → Fits history w
    → AllFit history (views ++ w ∷ [])
fit_snoc history views w all fits j u at = elim (get_snoc views w u j at) [
  | inl old ↦ all j u old
  | inr new ↦ subst (λ x. Fits history x) new.1 fits
]

-- One token may add no more than it could before.
pub apart_set : (views : List Knowledge) (id : ℕ) (v w : Knowledge) → AllApart views → get_elem? views id ≡ some v
    → IsWithin w.role v.role → AllApart (slice_set views id w)
apart_set views id v w all here inside i j a b other at_i at_j = elim (at_set views id i w a at_i) [
  | inl first ↦ elim (at_set views id j w b at_j) [
    | inl second ↦ absurd (other (first.0 ∙ sym second.0))
    | inr second ↦ subst (λ x. AreApart x.role b.role) first.1
        (within_apart w.role v.role b.role inside (all id j v b (λ same. second.0 (sym same)) here second.1))
  ]
  | inr first ↦ elim (at_set views id j w b at_j) [
    | inl second ↦ subst (λ x. AreApart a.role x.role) second.1
        (apart_within a.role v.role w.role (all i id a v first.0 first.1 here) inside)
    | inr second ↦ all i j a b other first.1 second.1
  ]
]

-- One token more may add what no other may.
pub apart_snoc : (views : List Knowledge) (w : Knowledge) → AllApart views
    → ((j : ℕ) (u : Knowledge) → get_elem? views j ≡ some u → AreApart u.role w.role) → AllApart (views ++ w ∷ [])
apart_snoc views w all new i j a b other at_i at_j = elim (get_snoc views w a i at_i) [
  | inl first ↦ elim (get_snoc views w b j at_j) [
    | inl second ↦ all i j a b other first second
    | inr second ↦ subst (λ x. AreApart a.role x.role) second.1 (new i a first)
  ]
  | inr first ↦ elim (get_snoc views w b j at_j) [
    | inl second ↦ subst (λ x. AreApart x.role b.role) first.1 (apart_swap b.role w.role (new j b second))
    | inr second ↦ absurd (other (first.0 ∙ sym second.0))
  ]
]
