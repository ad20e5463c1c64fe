-- There is space for each returned flag: no letter occurs twice, and eight flags can be returned.
use Rattle.std.proofs.Common.{◌≡◌, ℕ, ◌+◌, ◌<◌, ◌≤◌, ◌==◌, Bool, true, false, ◌&&◌, ◌||◌, cond, not, nat_lt, List, []}
use Rattle.std.proofs.Common.{◌∷◌, ◌++◌, length, Option, Some, None, is_some, codes, refl, sym, ap, ◌∙◌, arith, inl}
use Rattle.std.proofs.Common.{inr, get_or, set, get_or-set_other, get_or-set_same, length-append}
use Rattle.std.proofs.lemmas.Bool.{and_parts, cond_both, eqb-false, eqb-true, ltb-true, not-true, or_cases, or_parts}
use Rattle.std.proofs.lemmas.Bool.Decides.{eqb_tells, nat_tests}
use Rattle.std.specs.List.{list_all}
use Rattle.std.proofs.Math.ListN.{length-set}
use Rattle.std.proofs.lemmas.List.{length-replicate}
use Rattle.mc_command.specs.declared.meta.ReturnFlag.{ReturnFlag}
use Rattle.mc_command.specs.declared.meta_flags.FlagsRead.{FlagsRead}
use Rattle.mc_command.specs.declared.meta_flags.Flag.{Flag}
use Rattle.mc_command.specs.declared.meta_flags.Flag.TheVariants as flag
use Rattle.mc_command.specs.declared.meta_flags.FlagReader.{FlagReader}
use Rattle.mc_command.specs.declared.rules.Profile.{Profile}
use Rattle.mc_command.specs.Meta.{is_among, return_flag}
use Rattle.mc_command.specs.internal.FlagReading.{CountsFlags, seen_count, shown_count, with_flag, with_shown, unseen}
use Rattle.mc_command.specs.internal.FlagReading.{nothing_asked}

seen_count-other : (seen : List Bool) (letter : ℕ) (letters : List ℕ) → is_among letters letter ≡ false
    → seen_count (set seen letter true) letters ≡ seen_count seen letters
seen_count-other seen letter [] absent = refl
seen_count-other seen letter (first ∷ letters) absent =
    let parts = or_parts (first == letter) (is_among letters letter) absent in
    rw (
      get_or-set_other seen letter first true false (eqb-false first letter parts.0),
      seen_count-other seen letter letters parts.1,
    )

-- no letter occurs twice
abbrev is_distinct : List ℕ → Bool
is_distinct [] = true
is_distinct (letter ∷ letters) = not (is_among letters letter) && is_distinct letters

seen_count-new : (seen : List Bool) (letter : ℕ) (letters : List ℕ) → is_distinct letters ≡ true
    → is_among letters letter ≡ true → letter < length seen → get_or seen letter false ≡ false
    → seen_count (set seen letter true) letters ≡ seen_count seen letters + 1
seen_count-new seen letter [] distinct among within fresh = absurd cc
seen_count-new seen letter (first ∷ letters) distinct among within fresh =
    let parts = and_parts (not (is_among letters first)) (is_distinct letters) distinct in
    elim (eqb_tells first letter) [
      | inl w ↦
          let absent : is_among letters letter ≡ false = rw (← w.1) (not-true (is_among letters first) parts.0) in
          rw (w.1, get_or-set_same seen letter true false within, fresh, seen_count-other seen letter letters absent)
          (omega arith)
      | inr w ↦
          let rest : is_among letters letter ≡ true = rw w.0 at among in
          rw (get_or-set_other seen letter first true false w.1)
          (omega (arith, seen_count-new seen letter letters parts.1 rest within fresh))
    ]

seen_count-most : (seen : List Bool) (letters : List ℕ) → seen_count seen letters ≤ length letters
seen_count-most seen [] = omega arith
seen_count-most seen (letter ∷ letters) =
    let bit = cond_both {A = ℕ} (get_or seen letter false) 1 0 (λ n. n ≤ 1) (λ _. omega arith) (λ _. omega arith) in
    omega (arith, bit, seen_count-most seen letters)

-- letters of a command's flags are bytes
pub small_among : (letter : ℕ) (letters : List ℕ) → list_all (λ other. nat_lt other 256) letters ≡ true
    → is_among letters letter ≡ true → letter < 256
small_among letter [] small among = absurd cc
small_among letter (first ∷ letters) small among =
    let parts = and_parts (nat_lt first 256) (list_all (λ other. nat_lt other 256) letters) small in
    elim (or_cases (first == letter) (is_among letters letter) among) [
      | inl is ↦ omega (arith, eqb-true first letter is, ltb-true first 256 parts.0)
      | inr rest ↦ small_among letter letters parts.1 rest
    ]

-- Whether two numbers are equal does not depend on which of them comes first.
pub eq_comm : (a b : ℕ) → (a == b) ≡ (b == a)
eq_comm a b = grind (arith, nat_tests)

some_if : (a : Bool) (shown : ReturnFlag) (rest : Option ReturnFlag) (b : Bool) → is_some rest ≡ b
    → is_some (cond a (Some shown) rest) ≡ (a || b)
some_if true shown rest b h = refl
some_if false shown rest b h = h

shown_among : (letter : ℕ) → is_some (return_flag letter) ≡ is_among (codes "cfhklOst") letter
shown_among letter =
    rw (
      eq_comm 99 letter,
      eq_comm 102 letter,
      eq_comm 104 letter,
      eq_comm 107 letter,
      eq_comm 108 letter,
      eq_comm 79 letter,
      eq_comm 115 letter,
      eq_comm 116 letter,
    )
    (some_if (letter == 99) _ _ _
    (some_if (letter == 102) _ _ _ (some_if (letter == 104) _ _ _ (some_if (letter == 107) _ _ _
    (some_if (letter == 108) _ _ _
    (some_if (letter == 79) _ _ _ (some_if (letter == 115) _ _ _ (some_if (letter == 116) _ _ _ refl))))))))

with_flag-returned : (asked : FlagsRead) (said : Flag) → (with_flag asked said).flags.returned ≡ asked.flags.returned
with_flag-returned asked flag.Base64 = refl
with_flag-returned asked any = refl

-- there is room for the flag of a letter that was not seen
pub room : (reader : FlagReader) (letter : ℕ) (said : Flag) (shown : ReturnFlag) → CountsFlags reader
    → get_or reader.seen letter false ≡ false → return_flag letter ≡ Some shown
    → length (with_flag reader.asked said).flags.returned < 8
unfolding shown_count
room reader letter said shown counted fresh is =
    let among : is_among (codes "cfhklOst") letter ≡ true = sym (shown_among letter) ∙ ap is_some is in
    let within = small_among letter (codes "cfhklOst") refl among in
    let wide = counted.wide in
    let more = seen_count-new reader.seen letter (codes "cfhklOst") refl among (omega arith) fresh in
    rw (with_flag-returned reader.asked said)
    (omega (arith, counted.shown, more, seen_count-most (set reader.seen letter true) (codes "cfhklOst")))

counted_by : (seen : List Bool) (letter : ℕ) (asked : FlagsRead) (shown : Option ReturnFlag)
    → is_among (codes "cfhklOst") letter ≡ is_some shown → letter < length seen → get_or seen letter false ≡ false
    → length asked.flags.returned ≡ seen_count seen (codes "cfhklOst") → length (with_shown asked shown).flags.returned
    ≡ seen_count (set seen letter true) (codes "cfhklOst")
counted_by seen letter asked None among within fresh was =
    was ∙ sym (seen_count-other seen letter (codes "cfhklOst") among)
counted_by seen letter asked (Some shown) among within fresh was =
    rw (seen_count-new seen letter (codes "cfhklOst") refl among within fresh)
    (omega (arith, length-append asked.flags.returned (shown ∷ []), was))

-- the count still holds with one flag more
pub counted_more : (reader : FlagReader) (letter : ℕ) (said : Flag) → CountsFlags reader → letter < 256
    → get_or reader.seen letter false ≡ false →
    CountsFlags (record {
      seen = set reader.seen letter true;
      asked = with_shown (with_flag reader.asked said) (return_flag letter);
    })
unfolding shown_count
counted_more reader letter said counted within fresh =
    let wide = counted.wide in
    let below : letter < length reader.seen = omega arith in
    record {
      wide = length-set reader.seen letter true ∙ wide;
      shown =
          counted_by reader.seen letter (with_flag reader.asked said) (return_flag letter) (sym (shown_among letter))
          below fresh (ap length (with_flag-returned reader.asked said) ∙ counted.shown);
    }

-- The count still holds where a letter that was not seen before adds a flag that is given back.
pub counted_shown : (reader : FlagReader) (letter : ℕ) (said : Flag) (asked : FlagsRead) (shown : ReturnFlag)
    (returned : List ReturnFlag) → CountsFlags reader → letter < 256 → get_or reader.seen letter false ≡ false →
    asked ≡ with_flag reader.asked said → Some shown ≡ return_flag letter → returned ≡ asked.flags.returned
    ++ shown ∷ [] →
    CountsFlags (record {
      seen = set reader.seen letter true;
      asked = record asked { flags = record asked.flags { returned = returned } };
    })
counted_shown reader letter said asked shown returned counted within fresh is shows more =
    rw (more, is) (rw (← shows) at (counted_more reader letter said counted within fresh))

-- The count still holds where a letter that was not seen before is of no flag that is given back.
pub counted_bare : (reader : FlagReader) (letter : ℕ) (said : Flag) (asked : FlagsRead) → CountsFlags reader
    → letter < 256 → get_or reader.seen letter false ≡ false →
    asked ≡ with_flag reader.asked said → None ≡ return_flag letter
    → CountsFlags (record { seen = set reader.seen letter true; asked = asked })
counted_bare reader letter said asked counted within fresh is shows =
    rw is (rw (← shows) at (counted_more reader letter said counted within fresh))

-- Before the first flag is read no letter was seen and no flag is given back, so the count holds.
pub counted_first : (profile : Profile) (reader : FlagReader) → reader.seen ≡ unseen → reader.asked
    ≡ nothing_asked profile → CountsFlags reader
unfolding shown_count
counted_first profile reader seen asked = record {
  wide = rw seen (length-replicate 256 false);
  shown = rw (seen, asked) refl;
}
