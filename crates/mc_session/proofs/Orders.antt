-- Lists of which the first are done, and the others are left.
use Rattle.std.proofs.Common.{◌≡◌, List, [], ◌∷◌, ◌++◌, length, map, refl, sym, ap, subst, ◌∙◌, arith, append_assoc}
use Rattle.std.proofs.Common.{append-nil, Result, Ok, Err}
use Rattle.std.specs.Prelude.{IfOk}
use Rattle.std.specs.List.{AllByRecursion}
use Rattle.mc_ring.proofs.Lists.{all_append}
use Rattle.mc_poll.specs.Zips.{Zips}

-- One element more at the end of a list is one more at the end of what the list is mapped to.
pub map_one : {A B : Type 0} (f : A → B) (xs : List A) (x : A) → map f (xs ++ x ∷ []) ≡ map f xs ++ f x ∷ []
map_one f [] x = refl
map_one f (y ∷ xs) x = ap (λ ys. f y ∷ ys) (map_one f xs x)

-- One more is done, and seen as what was left first.
pub order_more : {A B : Type 0} (f : A → B) (done done' : List A) (x : A) (y : B) (left all : List B) → done' ≡ done
    ++ x ∷ [] → f x ≡ y → map f done ++ y ∷ left ≡ all → map f done' ++ left ≡ all
order_more f done done' x y left all grown same order =
    ap (λ xs. map f xs ++ left) grown
    ∙ (ap (λ ys. ys ++ left) (map_one f done x)
    ∙ (append_assoc (map f done) (f x ∷ []) left ∙ (ap (λ z. map f done ++ z ∷ left) same ∙ order)))

-- Nothing is left.
pub order_all : {B : Type 0} (done left all : List B) → length left ≡ 0 → done ++ left ≡ all → done ≡ all
order_all done [] all none order = sym (append-nil done) ∙ order
order_all done (x ∷ left) all none order = absurd (omega (arith, none))

-- What holds of each that was done, and of one that is done next, holds of each that is done then.
pub all_more : {A : Type 0} (P : A → Type 0) (done done' : List A) (x : A) → done' ≡ done ++ x ∷ []
    → AllByRecursion P done → P x → AllByRecursion P done'
all_more P done done' x grown all this = rw grown (all_append P done (x ∷ []) all (this, tt))

-- What holds of each element of a list holds of the first.
pub all_first : {A : Type 0} (P : A → Type 0) (all : List A) (x : A) (rest : List A) → all ≡ x ∷ rest
    → AllByRecursion P all → P x
all_first P all x rest is holds = (subst (λ (xs : List _). AllByRecursion P xs) is holds).0

-- What holds of each element of a list holds of each behind the first.
pub all_rest : {A : Type 0} (P : A → Type 0) (all : List A) (x : A) (rest : List A) → all ≡ x ∷ rest
    → AllByRecursion P all → AllByRecursion P rest
all_rest P all x rest is holds = (subst (λ (xs : List _). AllByRecursion P xs) is holds).1

-- What holds of the first element of a list and of each behind it holds of each.
pub all_join : {A : Type 0} (P : A → Type 0) (all : List A) (x : A) (rest : List A) → all ≡ x ∷ rest → P x
    → AllByRecursion P rest → AllByRecursion P all
all_join P all x rest is this others = subst (λ (xs : List _). AllByRecursion P xs) (sym is) (this, others)

-- Two facts of a value, where there is one.
pub both : {T E : Type 0} (r : Result T E) (P Q R : T → Type 0) → ((x : T) → P x → Q x → R x) → IfOk r P → IfOk r Q
    → IfOk r R
both (Ok x) P Q R follows p q = follows x p q
both (Err e) P Q R follows p q = tt

-- What relates two lists element by element relates the first of each.
pub zips_first : {A B : Type 0} (R : A → B → Type 0) (xs xs' : List A) (ys ys' : List B) (x : A) (y : B) → xs ≡ x ∷ xs'
    → ys ≡ y ∷ ys' → Zips R xs ys → R x y
zips_first R xs xs' ys ys' x y first first' zips =
    (subst (λ (ws : List _). Zips R (x ∷ xs') ws) first' (subst (λ (ws : List _). Zips R ws ys) first zips)).0

-- What relates two lists element by element relates those behind the first.
pub zips_rest : {A B : Type 0} (R : A → B → Type 0) (xs xs' : List A) (ys ys' : List B) (x : A) (y : B) → xs ≡ x ∷ xs'
    → ys ≡ y ∷ ys' → Zips R xs ys → Zips R xs' ys'
zips_rest R xs xs' ys ys' x y first first' zips =
    (subst (λ (ws : List _). Zips R (x ∷ xs') ws) first' (subst (λ (ws : List _). Zips R ws ys) first zips)).1
