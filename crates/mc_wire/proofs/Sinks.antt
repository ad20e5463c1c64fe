-- Bytes taken one piece after another.
use Rattle.std.proofs.Common.{◌≡◌, ℕ, ◌+◌, ◌<◌, ◌≤◌, length, arith, List, [], ◌++◌, take, drop, refl, sym, ap, ◌∙◌}
use Rattle.std.proofs.Common.{append_assoc, append-nil, Result, Ok, Err, length-append, get_or}
use Rattle.std.specs.Result.{IsErr}
use Rattle.std.proofs.lemmas.List.{take-append-le, take-append-drop, at_drop_more}
use Rattle.std.proofs.lemmas.Grind.{flat_map-append}
use Rattle.std.specs.List.{flat_map}
use Rattle.std.proofs.Math.Seq.{take-add, take-append-add}
use Rattle.mc_wire.specs.Sink.{BreaksOff, Sight, Trace, Unlisted, Counted, Listed, Writes, broke, took, with_bytes}

-- The history of two pieces written in turn is that of both at once.
pub with_bytes-append : (trace : Trace) (a b : List ℕ) → with_bytes (with_bytes trace a) b ≡ with_bytes trace (a ++ b)
with_bytes-append Unlisted a b = refl
with_bytes-append (Counted count) a b = ap (λ n. Counted n) (omega (arith, length-append a b))
with_bytes-append (Listed before) a b = ap (λ xs. Listed xs) (append_assoc before a b)

-- The history is unchanged if no bytes come.
pub with_bytes-nil : (trace : Trace) → with_bytes trace [] ≡ trace
with_bytes-nil Unlisted = refl
with_bytes-nil (Counted count) = ap (λ n. Counted n) (omega arith)
with_bytes-nil (Listed before) = ap (λ xs. Listed xs) (append-nil before)

-- Nothing was read, and a front of the bytes was taken.
pub record TookFront (bytes : List ℕ) (old new : Sight) : Type 0 where
  pub count : ℕ
  pub within : count ≤ length bytes
  pub sight : new ≡ took (take count bytes) old

-- To take two pieces of bytes, one after the other, is to take both at once.
pub took-append : (old : Sight) (a b : List ℕ) → took b (took a old) ≡ took (a ++ b) old
took-append old a b = ap (λ t. record old { taken = t }) (with_bytes-append old.taken a b)

-- To take no bytes changes nothing.
pub took-nil : (old : Sight) → took [] old ≡ old
took-nil old = ap (λ t. record old { taken = t }) (with_bytes-nil old.taken)

-- and a further piece of them
pub took_more : (old mid new : Sight) (bytes : List ℕ) (i n : ℕ) → mid ≡ took (take i bytes) old → new
    ≡ took (take n (drop i bytes)) mid → new ≡ took (take (i + n) bytes) old
took_more old mid new bytes i n first more =
    more ∙ (ap (took (take n (drop i bytes))) first
    ∙ (took-append old (take i bytes) (take n (drop i bytes)) ∙ ap (λ xs. took xs old) (sym (take-add i n bytes))))

-- one text, and then another
pub writes_on : (old mid new : Sight) (a b : List ℕ) → mid ≡ took a old → new ≡ took b mid → new ≡ took (a ++ b) old
writes_on old mid new a b first more = more ∙ (ap (took b) first ∙ took-append old a b)

-- a call that hands on a fault
pub breaks : {X E : Type 0} (text : List ℕ) (result : Result X E) (old new : Sight) → IsErr result
    → BreaksOff text old new → Writes text result old new
breaks text (Ok done) old new failed off = absurd cc
breaks text (Err fault) old new failed off = off

-- a text that breaks off at its first part
pub breaks_first : (old new : Sight) (a b : List ℕ) → BreaksOff a old new → BreaksOff (a ++ b) old new
breaks_first old new a b off =
    let within = off.within in
    record {
      count = off.count;
      within = omega (arith, within, length-append a b);
      sight = off.sight ∙ ap (λ xs. broke (took xs old)) (sym (take-append-le off.count a b within));
    }

-- and one that does so behind it
pub breaks_later : (old mid new : Sight) (a b : List ℕ) → mid ≡ took a old → BreaksOff b mid new
    → BreaksOff (a ++ b) old new
breaks_later old mid new a b first off =
    let within = off.within in
    record {
      count = length a + off.count;
      within = omega (arith, within, length-append a b);
      sight =
          off.sight ∙ ap broke (ap (took (take off.count b)) first
          ∙ (took-append old a (take off.count b) ∙ ap (λ xs. took xs old) (sym (take-append-add a b off.count))));
    }

-- the texts of some parts, around one of them
pub flat_map-around : {X : Type 0} (f : X → List ℕ) (xs : List X) (i : ℕ) (d : X) → i < length xs → flat_map f xs
    ≡ flat_map f (take i xs) ++ (f (get_or xs i d) ++ flat_map f (drop (i + 1) xs))
flat_map-around f xs i d below =
    ap (λ ys. flat_map f ys) (sym (take-append-drop i xs))
    ∙ (flat_map-append f (take i xs) (drop i xs)
    ∙ ap (λ ys. flat_map f (take i xs) ++ ys) (at_drop_more (λ ys. flat_map f ys) xs i d below))
