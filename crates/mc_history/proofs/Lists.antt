-- Beginnings of lists, and what is picked from each element of them.
use Rattle.std.proofs.Common.{◌≡◌, ℕ, zero, suc, ◌⊎◌, inl, inr, Bool, true, false, cond, List, [], ◌∷◌, ◌++◌, length}
use Rattle.std.proofs.Common.{Some, refl, sym, ap, ◌∙◌, append-nil, append_assoc}
use Rattle.std.specs.List.{AllByRecursion, flat_map, filter, slice_get}
use Rattle.std.proofs.lemmas.Option.{same_Some}
use Rattle.std.proofs.lemmas.List.Concat.{flat_map-append}
use Rattle.std.proofs.lemmas.List.Elements.{filter-append}
use Rattle.mc_model.specs.Grows.{Lengthens}

-- What is picked from a beginning begins what is picked from the whole.
pub lengthens_picked : {X Y : Type 0} (pick : X → List Y) (xs ys : List X) → Lengthens xs ys
    → Lengthens (flat_map pick xs) (flat_map pick ys)
lengthens_picked pick xs ys more =
    (flat_map pick more.0, ap (λ zs. flat_map pick zs) more.1 ∙ flat_map-append pick xs more.0)

-- What is picked from one element more comes behind what was picked before.
pub picked_push : {X Y : Type 0} (pick : X → List Y) (xs : List X) (x : X) → flat_map pick (xs ++ x ∷ [])
    ≡ flat_map pick xs ++ pick x
picked_push pick xs x = flat_map-append pick xs (x ∷ []) ∙ ap (λ ys. flat_map pick xs ++ ys) (append-nil (pick x))

-- An element that passes a test comes last among those that pass it.
pub filter_yes : {X : Type 0} (p : X → Bool) (xs : List X) (x : X) → p x ≡ true → filter p (xs ++ x ∷ []) ≡ filter p xs
    ++ x ∷ []
filter_yes p xs x is = filter-append p xs (x ∷ []) ∙ ap (λ b. filter p xs ++ cond b (x ∷ []) []) is

-- An element that doesn't pass it changes nothing.
pub filter_no : {X : Type 0} (p : X → Bool) (xs : List X) (x : X) → p x ≡ false → filter p (xs ++ x ∷ []) ≡ filter p xs
filter_no p xs x is =
    filter-append p xs (x ∷ []) ∙ (ap (λ b. filter p xs ++ cond b (x ∷ []) []) is ∙ append-nil (filter p xs))

-- All pass a test.
pub filter_all : {X : Type 0} (p : X → Bool) (xs : List X) → AllByRecursion (λ x. p x ≡ true) xs → filter p xs ≡ xs
filter_all p [] all = refl
filter_all p (x ∷ xs) all =
    ap (λ b. cond b (x ∷ filter p xs) (filter p xs)) all.0 ∙ ap (λ ys. x ∷ ys) (filter_all p xs all.1)

-- None passes it.
pub filter_none : {X : Type 0} (p : X → Bool) (xs : List X) → AllByRecursion (λ x. p x ≡ false) xs → filter p xs ≡ []
filter_none p [] none = refl
filter_none p (x ∷ xs) none = ap (λ b. cond b (x ∷ filter p xs) (filter p xs)) none.0 ∙ filter_none p xs none.1

not_stricter : {X : Type 0} (p q : X → Bool) → ((x : X) → p x ≡ true → q x ≡ true) → (x : X) → q x ≡ false → p x ≡ false
not_stricter p q stricter x is = elim (p x) as (λ b. p x ≡ b → b ≡ false) [
  | true ↦ λ passes. absurd (cc (is, stricter x passes))
  | false ↦ λ fails. refl
] refl

-- Of those that pass a test the ones that pass a stricter one are those of the whole list that do.
pub filter_within : {X : Type 0} (p q : X → Bool) → ((x : X) → p x ≡ true → q x ≡ true) → (xs : List X)
    → filter p (filter q xs) ≡ filter p xs
filter_within p q stricter [] = refl
filter_within p q stricter (x ∷ xs) =
    elim (q x) as (λ b. q x ≡ b → filter p (cond b (x ∷ filter q xs) (filter q xs))
    ≡ cond (p x) (x ∷ filter p xs) (filter p xs)) [
      | true ↦ λ is. ap (λ ys. cond (p x) (x ∷ ys) ys) (filter_within p q stricter xs)
      | false ↦ λ is. filter_within p q stricter xs
          ∙ sym (ap (λ b. cond b (x ∷ filter p xs) (filter p xs)) (not_stricter p q stricter x is))
    ] refl

-- two tests of one element more
both_tests : {X : Type 0} (p q : X → Bool) (x : X) (ps qs : List X) → filter p qs ≡ filter q ps
    → filter p (cond (q x) (x ∷ qs) qs) ≡ filter q (cond (p x) (x ∷ ps) ps)
both_tests p q x ps qs rest =
    elim (q x) as (λ b. q x ≡ b → filter p (cond b (x ∷ qs) qs) ≡ filter q (cond (p x) (x ∷ ps) ps)) [
      | true ↦ λ yes. elim (p x) as (λ c. cond c (x ∷ filter p qs) (filter p qs) ≡ filter q (cond c (x ∷ ps) ps)) [
        | true ↦ ap (λ ys. x ∷ ys) rest ∙ sym (ap (λ b. cond b (x ∷ filter q ps) (filter q ps)) yes)
        | false ↦ rest
      ]
      | false ↦ λ no. elim (p x) as (λ c. filter p qs ≡ filter q (cond c (x ∷ ps) ps)) [
        | true ↦ rest ∙ sym (ap (λ b. cond b (x ∷ filter q ps) (filter q ps)) no)
        | false ↦ rest
      ]
    ] refl

-- Two tests may be made in either order.
pub filter_swap : {X : Type 0} (p q : X → Bool) (xs : List X) → filter p (filter q xs) ≡ filter q (filter p xs)
filter_swap p q [] = refl
filter_swap p q (x ∷ xs) = both_tests p q x (filter p xs) (filter q xs) (filter_swap p q xs)

-- What holds of all elements holds of those that pass a test.
pub all_filter : {X : Type 0} (p : X → Bool) (P : X → Type 0) (xs : List X) → AllByRecursion P xs
    → AllByRecursion P (filter p xs)
all_filter p P [] all = tt
all_filter p P (x ∷ xs) all = elim (p x) as (λ b. AllByRecursion P (cond b (x ∷ filter p xs) (filter p xs))) [
  | true ↦ (all.0, all_filter p P xs all.1)
  | false ↦ all_filter p P xs all.1
]

-- Two tests with the same answer on each element pass the same ones.
pub filter_same : {X : Type 0} (p q : X → Bool) (P : X → Type 0) → ((x : X) → P x → p x ≡ q x) → (xs : List X)
    → AllByRecursion P xs → filter p xs ≡ filter q xs
filter_same p q P same [] all = refl
filter_same p q P same (x ∷ xs) all =
    ap (λ b. cond b (x ∷ filter p xs) (filter p xs)) (same x all.0)
    ∙ ap (λ ys. cond (q x) (x ∷ ys) ys) (filter_same p q P same xs all.1)

-- What is picked from each element is the same.
pub flat_same : {X Y : Type 0} (f g : X → List Y) (P : X → Type 0) → ((x : X) → P x → f x ≡ g x) → (xs : List X)
    → AllByRecursion P xs → flat_map f xs ≡ flat_map g xs
flat_same f g P same [] all = refl
flat_same f g P same (x ∷ xs) all =
    ap (λ ys. ys ++ flat_map f xs) (same x all.0) ∙ ap (λ ys. g x ++ ys) (flat_same f g P same xs all.1)

-- An element of two lists in a row is one of the first or of the second.
pub get_either : {X : Type 0} (xs ys : List X) (i : ℕ) (x : X) → slice_get (xs ++ ys) i ≡ Some x
    → (slice_get xs i ≡ Some x) ⊎ ((j : ℕ) × (slice_get ys j ≡ Some x))
get_either [] ys i x here = inr (i, here)
get_either (y ∷ xs) ys zero x here = inl here
get_either (y ∷ xs) ys (suc i) x here = get_either xs ys i x here

-- so are those behind the first
rest_none : {X : Type 0} (b : Bool) (y : X) (ys : List X) → cond b (y ∷ ys) ys ≡ [] → ys ≡ []
rest_none true y ys none = absurd (cc none)
rest_none false y ys none = none

-- Where no element passes a test, none that is there does.
pub none_passes : {X : Type 0} (p : X → Bool) (xs : List X) (i : ℕ) (x : X) → filter p xs ≡ [] → slice_get xs i ≡ Some x
    → p x ≡ true → ⊥
none_passes p [] i x none here passes = absurd (cc here)
none_passes p (y ∷ xs) zero x none here passes =
    let at = same_Some y x here in
    absurd (cc (sym (ap (λ b. cond b (y ∷ filter p xs) (filter p xs)) (ap p at ∙ passes)) ∙ none))
none_passes p (y ∷ xs) (suc i) x none here passes =
    none_passes p xs i x (rest_none (p y) y (filter p xs) none) here passes

-- What is the same with more behind it has nothing behind it.
pub nothing_more : {X : Type 0} (xs ys : List X) → xs ++ ys ≡ xs → ys ≡ []
nothing_more [] ys same = same
nothing_more (x ∷ xs) ys same = nothing_more xs ys (cc same)

-- The first ones are the beginning of all.
abbrev pub Begins : {X : Type 0} → List X → List X → Type 0
Begins {X} some all = (rest : List X) × (some ++ rest ≡ all)

-- with the next element of a list, what begins the list still does
pub begins_next : {X : Type 0} (some all : List X) (x : X) → Begins some all → slice_get all (length some) ≡ Some x
    → Begins (some ++ x ∷ []) all
begins_next [] [] x b next = absurd (cc)
begins_next [] (p ∷ all) x b next = (all, ap (λ q. q ∷ all) (sym (same_Some p x next)))
begins_next (s ∷ some) [] x b next = absurd (cc (b.1))
begins_next (s ∷ some) (p ∷ all) x b next =
    let rest = begins_next some all x (b.0, cc (b.1)) next in (rest.0, cc (b.1, rest.1))

-- what begins a list begins a longer one
pub begins_longer : {X : Type 0} (some all more : List X) → Begins some all → Begins some (all ++ more)
begins_longer some all more b = (b.0 ++ more, sym (append_assoc some b.0 more) ∙ ap (λ ps. ps ++ more) b.1)
