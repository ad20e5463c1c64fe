-- Lists that are related pair by pair, and facts about lists and results.
use Rattle.std.proofs.Common.{◌≡◌, ℕ, zero, suc, List, [], ◌∷◌, ◌++◌, length, map, Some, refl, sym, ap, subst}
use Rattle.std.proofs.Common.{slice_set, arith}
use Rattle.std.specs.List.{AllByRecursion, slice_get}
use Rattle.std.specs.Prelude.{IfOk, Result, Ok, Err}
use Rattle.std.proofs.lemmas.Option.{same_Some}
use Rattle.mc_poll.specs.Zips.{Zips}

-- Two lists that are related pair by pair have the same length.
pub zips_length : {A B : Type 0} (R : A → B → Type 0) (xs : List A) (ys : List B) → Zips R xs ys → length ys ≡ length xs
zips_length R [] [] zips = refl
zips_length R [] (y ∷ ys) zips = absurd zips
zips_length R (x ∷ xs) [] zips = absurd zips
zips_length R (x ∷ xs) (y ∷ ys) zips = ap suc (zips_length R xs ys zips.1)

-- Lists that are related pair by pair are so by any relation that follows from theirs.
pub zips_follow : {A B : Type 0} (xs : List A) (ys : List B) (P : A → Type 0) (R S : A → B → Type 0)
    → ((x : A) (y : B) → P x → R x y → S x y) → AllByRecursion P xs → Zips R xs ys → Zips S xs ys
zips_follow [] [] P R S follows all zips = tt
zips_follow [] (y ∷ ys) P R S follows all zips = absurd zips
zips_follow (x ∷ xs) [] P R S follows all zips = absurd zips
zips_follow (x ∷ xs) (y ∷ ys) P R S follows all zips =
    (follows x y all.0 zips.0, zips_follow xs ys P R S follows all.1 zips.1)

-- If they are mapped by two functions, they are so by any relation of the values that follows.
pub zips_map : {A B C D : Type 0} (xs : List A) (ys : List B) (P : A → Type 0) (R : A → B → Type 0) (S : C → D → Type 0)
    (f : A → C) (g : B → D) → ((x : A) (y : B) → P x → R x y → S (f x) (g y)) → AllByRecursion P xs → Zips R xs ys
    → Zips S (map f xs) (map g ys)
zips_map [] [] P R S f g follows all zips = tt
zips_map [] (y ∷ ys) P R S f g follows all zips = absurd zips
zips_map (x ∷ xs) [] P R S f g follows all zips = absurd zips
zips_map (x ∷ xs) (y ∷ ys) P R S f g follows all zips =
    (follows x y all.0 zips.0, zips_map xs ys P R S f g follows all.1 zips.1)

-- If the values of two functions on two lists are related pair by pair, so are the mapped lists.
pub zips_seen : {A B C D : Type 0} (xs : List A) (ys : List B) (S : C → D → Type 0) (f : A → C) (g : B → D)
    → Zips (λ x y. S (f x) (g y)) xs ys → Zips S (map f xs) (map g ys)
zips_seen [] [] S f g zips = tt
zips_seen [] (y ∷ ys) S f g zips = absurd zips
zips_seen (x ∷ xs) [] S f g zips = absurd zips
zips_seen (x ∷ xs) (y ∷ ys) S f g zips = (zips.0, zips_seen xs ys S f g zips.1)

-- Lists that are related pair by pair are so by another relation if that follows at each index.
pub zips_each : {A B : Type 0} (R S : A → B → Type 0) (xs : List A) (ys : List B) → Zips R xs ys
    → ((i : ℕ) (x : A) (y : B) → slice_get xs i ≡ Some x → slice_get ys i ≡ Some y → R x y → S x y) → Zips S xs ys
zips_each R S [] [] zips follows = tt
zips_each R S [] (y ∷ ys) zips follows = absurd zips
zips_each R S (x ∷ xs) [] zips follows = absurd zips
zips_each R S (x ∷ xs) (y ∷ ys) zips follows =
    (follows 0 x y refl refl zips.0, zips_each R S xs ys zips.1 (λ i a b here there. follows (suc i) a b here there))

-- Lists of the same length are related pair by pair if their elements are at each index.
pub zips_from : {A B : Type 0} (R : A → B → Type 0) (xs : List A) (ys : List B) → length ys ≡ length xs
    → ((i : ℕ) (x : A) (y : B) → slice_get xs i ≡ Some x → slice_get ys i ≡ Some y → R x y) → Zips R xs ys
zips_from R [] [] same each = tt
zips_from R [] (y ∷ ys) same each = absurd (omega (arith, same))
zips_from R (x ∷ xs) [] same each = absurd (omega (arith, same))
zips_from R (x ∷ xs) (y ∷ ys) same each =
    (each 0 x y refl refl, zips_from R xs ys (omega (arith, same)) (λ i a b here there. each (suc i) a b here there))

-- The element of one list at an index, from the related one of the other.
pub record IsMet {A B : Type 0} (R : A → B → Type 0) (xs : List A) (ys : List B) (i : ℕ) (y : B) : Type 0 where
  pub one : A
  pub here : slice_get xs i ≡ Some one
  pub met : R one y

-- In lists that are related pair by pair, an element of the second is related to the one at its index in the first.
pub met_at : {A B : Type 0} (R : A → B → Type 0) (xs : List A) (ys : List B) (i : ℕ) (y : B) → Zips R xs ys
    → slice_get ys i ≡ Some y → IsMet R xs ys i y
met_at R [] [] i y zips here = absurd (cc)
met_at R [] (z ∷ ys) i y zips here = absurd zips
met_at R (x ∷ xs) [] i y zips here = absurd zips
met_at R (x ∷ xs) (z ∷ ys) zero y zips here =
    record { one = x; here = refl; met = let P : _ → Type 0 = λ w. R x w in subst P (same_Some z y here) zips.0 }
met_at R (x ∷ xs) (z ∷ ys) (suc i) y zips here = let rest =
    met_at R xs ys i y zips.1 here in record { one = rest.one; here = rest.here; met = rest.met }

-- What is true of a function's value at each element of a list is true of all elements of the mapped list.
pub all_map : {A B : Type 0} (P : B → Type 0) (f : A → B) (xs : List A) → AllByRecursion (λ x. P (f x)) xs
    → AllByRecursion P (map f xs)
all_map P f [] all = tt
all_map P f (x ∷ xs) all = (all.0, all_map P f xs all.1)

-- Lists stay related pair by pair if one element changes and the relation at its index is kept.
pub zips_set : {A B : Type 0} (R : A → B → Type 0) (xs : List A) (ys : List B) (i : ℕ) (old new : B) → slice_get ys i
    ≡ Some old → ((x : A) → R x old → R x new) → Zips R xs ys → Zips R xs (slice_set ys i new)
zips_set R xs [] i old new here keeps zips = zips
zips_set R [] (y ∷ ys) i old new here keeps zips = absurd zips
zips_set {A} {B} R (x ∷ xs) (y ∷ ys) zero old new here keeps zips =
    let P : B → Type 0 = λ b. R x b in
    (keeps x (subst P (same_Some y old here) zips.0), zips.1)
zips_set R (x ∷ xs) (y ∷ ys) (suc i) old new here keeps zips = (zips.0, zips_set R xs ys i old new here keeps zips.1)

-- If two pairs of lists are related pair by pair, so are they appended.
pub zips_append : {A B : Type 0} (R : A → B → Type 0) (xs : List A) (ys : List B) (more : List A) (more' : List B)
    → Zips R xs ys → Zips R more more' → Zips R (xs ++ more) (ys ++ more')
zips_append R [] [] more more' zips rest = rest
zips_append R [] (y ∷ ys) more more' zips rest = absurd zips
zips_append R (x ∷ xs) [] more more' zips rest = absurd zips
zips_append R (x ∷ xs) (y ∷ ys) more more' zips rest = (zips.0, zips_append R xs ys more more' zips.1 rest)

zips_last : {A B : Type 0} (R : A → B → Type 0) (xs : List A) (ys : List B) (x : A) (y : B) → Zips R xs ys → R x y
    → Zips R (xs ++ x ∷ []) (ys ++ y ∷ [])
zips_last R [] [] x y zips this = (this, tt)
zips_last R [] (z ∷ ys) x y zips this = absurd zips
zips_last R (w ∷ xs) [] x y zips this = absurd zips
zips_last R (w ∷ xs) (z ∷ ys) x y zips this = (zips.0, zips_last R xs ys x y zips.1 this)

-- Lists that are related pair by pair still are after a related pair is appended.
pub zips_push : {A B : Type 0} (R : A → B → Type 0) (xs : List A) (ys ys' : List B) (x : A) (y : B) → ys' ≡ ys ++ y ∷ []
    → Zips R xs ys → R x y → Zips R (xs ++ x ∷ []) ys'
zips_push R xs ys ys' x y grown zips this = let P : List _ → Type 0 =
    λ zs. Zips R (xs ++ x ∷ []) zs in subst P (sym grown) (zips_last R xs ys x y zips this)

-- What follows from the fact about an `Ok` is a fact about it too.
pub if_ok : {T E : Type 0} (r : Result T E) (P Q : T → Type 0) → ((x : T) → P x → Q x) → IfOk r P → IfOk r Q
if_ok (Ok x) P Q follows p = follows x p
if_ok (Err e) P Q follows p = tt

-- A list of length zero is empty.
pub empty_when : {A : Type 0} (xs : List A) → length xs ≡ 0 → xs ≡ []
empty_when [] none = refl
empty_when (x ∷ xs) none = absurd (omega arith)

-- Lists that are related pair by pair still are if the first is replaced by an equal one.
pub zips_are : {A B : Type 0} (R : A → B → Type 0) (xs ys : List A) (zs : List B) → xs ≡ ys → Zips R xs zs
    → Zips R ys zs
zips_are R xs ys zs same zips = let P : List _ → Type 0 = λ ws. Zips R ws zs in subst P same zips

-- To map a composition is to map the one function and then the other.
pub map_map : {A B C : Type 0} (f : A → B) (g : B → C) (xs : List A) → map (λ x. g (f x)) xs ≡ map g (map f xs)
map_map f g [] = refl
map_map f g (x ∷ xs) = ap (λ ys. g (f x) ∷ ys) (map_map f g xs)
