-- Threads are joined one after another.
use Rattle.std.proofs.Common.{◌≡◌, List, [], ◌∷◌, ◌++◌, length, map, refl, sym, ◌∙◌, arith, append_assoc, append-nil}
use Rattle.std.proofs.Common.{Result, Ok, Err}
use Rattle.std.specs.Prelude.{OnOk}
use Rattle.mc_poll.specs.Zips.{Zips}

-- Of these tasks, `left` are not joined yet; the others are done, if all went well.
pub record Joins {A E : Type 0} (does : A → A → Type 0) (tasks done left : List A) (all : Result (Unit {0}) E) : Type 0
  where
    pub before : List A
    pub joined : before ++ left ≡ tasks
    pub each : OnOk all (Zips does before done)

zips_more : {A : Type 0} (does : A → A → Type 0) (xs ys : List A) (x y : A) → Zips does xs ys → does x y
    → Zips does (xs ++ x ∷ []) (ys ++ y ∷ [])
zips_more does [] [] x y zips said = (said, tt)
zips_more does [] (b ∷ ys) x y zips said = absurd zips
zips_more does (a ∷ xs) [] x y zips said = absurd zips
zips_more does (a ∷ xs) (b ∷ ys) x y zips said = (zips.0, zips_more does xs ys x y zips.1 said)

-- none is joined yet
pub joins_none : {A E : Type 0} (does : A → A → Type 0) (tasks : List A) → Joins {E = E} does tasks [] tasks (Ok tt)
joins_none does tasks = record { before = []; joined = refl; each = tt }

-- one more is done
pub joins_more : {A E : Type 0} (does : A → A → Type 0) (tasks done left : List A) (x y : A) (all : Result (Unit {0}) E)
    → Joins does tasks done (x ∷ left) all → does x y → Joins does tasks (done ++ y ∷ []) left all
joins_more does tasks done left x y (Ok tt') so_far said =
    record {
      before = so_far.before ++ x ∷ [];
      joined = append_assoc so_far.before (x ∷ []) left ∙ so_far.joined;
      each = zips_more does so_far.before done x y so_far.each said;
    }
joins_more does tasks done left x y (Err fault) so_far said =
    record {
      before = so_far.before ++ x ∷ [];
      joined = append_assoc so_far.before (x ∷ []) left ∙ so_far.joined;
      each = tt;
    }

-- one is lost
pub joins_less : {A E : Type 0} (does : A → A → Type 0) (tasks done done' left : List A) (x : A)
    (all : Result (Unit {0}) E) (fault : E)
    → Joins does tasks done (x ∷ left) all → Joins does tasks done' left (Err fault)
joins_less does tasks done done' left x all fault so_far =
    record {
      before = so_far.before ++ x ∷ [];
      joined = append_assoc so_far.before (x ∷ []) left ∙ so_far.joined;
      each = tt;
    }

none_left : {A B : Type 0} (f : A → B) (left : List A) → length left ≡ 0 → map f left ≡ []
none_left f [] h = refl
none_left f (x ∷ left) h = absurd (omega arith)

-- all are joined
pub joins_all : {A B E : Type 0} (does : B → B → Type 0) (f : A → B) (tasks done : List B) (left : List A)
    (all : Result (Unit {0}) E)
    → length left ≡ 0 → Joins does tasks done (map f left) all → OnOk all (Zips does tasks done)
joins_all does f tasks done left (Ok tt') h so_far =
    let e : so_far.before ≡ tasks = sym (append-nil so_far.before) ∙ (rw (none_left f left h) at so_far.joined) in
    rw (← e) so_far.each
joins_all does f tasks done left (Err fault) h so_far = tt
