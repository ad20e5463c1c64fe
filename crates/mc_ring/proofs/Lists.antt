-- Elements of lists by their index, and what holds of each of them.
use Rattle.std.proofs.Common.{◌≡◌, ◌<◌, ℕ, zero, suc, List, [], ◌∷◌, ◌++◌, length, map, take, Some, refl, ap, subst}
use Rattle.std.proofs.Common.{arith}
use Rattle.std.specs.List.{AllByRecursion, slice_get}
use Rattle.std.proofs.lemmas.Option.{same_Some}

-- A list has an element at each place below its length.
pub get_below : {X : Type 0} (xs : List X) (i : ℕ) → i < length xs → (x : X) × (slice_get xs i ≡ Some x)
get_below [] i below = absurd (omega (arith, below))
get_below (x ∷ xs) zero below = (x, refl)
get_below (x ∷ xs) (suc i) below = get_below xs i (omega (arith, below))

-- One element more is behind all others.
pub get_last : {X : Type 0} (xs : List X) (x : X) → slice_get (xs ++ x ∷ []) (length xs) ≡ Some x
get_last [] x = refl
get_last (y ∷ xs) x = get_last xs x

-- Where an element is in a list, the function's value of it is in the list that the function makes.
pub get_map : {A B : Type 0} (f : A → B) (xs : List A) (i : ℕ) (x : A) → slice_get xs i ≡ Some x
    → slice_get (map f xs) i ≡ Some (f x)
get_map f [] i x here = absurd (cc)
get_map f (y ∷ xs) zero x here = ap (λ z. Some (f z)) (same_Some y x here)
get_map f (y ∷ xs) (suc i) x here = get_map f xs i x here

-- What holds of all elements of a list holds of the one at a place.
pub all_at : {X : Type 0} (P : X → Type 0) (xs : List X) (i : ℕ) (x : X) → AllByRecursion P xs → slice_get xs i ≡ Some x
    → P x
all_at P [] i x all here = absurd (cc)
all_at P (y ∷ xs) zero x all here = subst P (same_Some y x here) all.0
all_at P (y ∷ xs) (suc i) x all here = all_at P xs i x all.1 here

-- Where one property follows from another, all elements of a list that have the other have the one.
pub all_weaken : {X : Type 0} (P Q : X → Type 0) → ((x : X) → P x → Q x) → (xs : List X) → AllByRecursion P xs
    → AllByRecursion Q xs
all_weaken P Q weaker [] all = tt
all_weaken P Q weaker (x ∷ xs) all = (weaker x all.0, all_weaken P Q weaker xs all.1)

-- What holds of each element of two lists holds of each where they are joined.
pub all_append : {X : Type 0} (P : X → Type 0) (xs ys : List X) → AllByRecursion P xs → AllByRecursion P ys
    → AllByRecursion P (xs ++ ys)
all_append P [] ys one two = two
all_append P (x ∷ xs) ys one two = (one.0, all_append P xs ys one.1 two)

-- What holds of each element of a list and of one more holds of each where that one comes at the end.
pub all_push : {X : Type 0} (P : X → Type 0) (xs : List X) (x : X) → AllByRecursion P xs → P x
    → AllByRecursion P (xs ++ x ∷ [])
all_push P xs x all this = all_append P xs (x ∷ []) all (this, tt)

-- What holds of all elements of a list holds of its first ones.
pub all_take : {X : Type 0} (P : X → Type 0) (n : ℕ) (xs : List X) → AllByRecursion P xs → AllByRecursion P (take n xs)
all_take P zero xs all = tt
all_take P (suc n) [] all = tt
all_take P (suc n) (x ∷ xs) all = (all.0, all_take P n xs all.1)
