-- What the front of a stream spells, when more bytes come.
use Rattle.std.proofs.Common.{◌≡◌, ℕ, ◌+◌, ◌<◌, ◌≤◌, ◌^◌, inl, inr, Bool, true, false, ◌==◌, List, [], ◌∷◌, ◌++◌}
use Rattle.std.proofs.Common.{length, MatchBool, ap, ◌∙◌, arith, append_assoc, lit<}
use Rattle.std.proofs.lemmas.Bool.{cases_Bool, eqb-false, or_parts}
use Rattle.mc_command.specs.declared.command.Command.{Command}
use Rattle.mc_reader.specs.Spelling.{SpellsFront, BeginCommands, AreCommands, closes, is_closed, is_last}
use Rattle.mc_command.specs.declared.rules.Rules.{Rules}

match_bool : {P Q R S : Type 0} (b : Bool) → (P → R) → (Q → S) → MatchBool b P Q → MatchBool b R S
match_bool true f g h = f h
match_bool false f g h = g h

pub SpellsFront-more : (rules : Rules) (before : ℕ) (input more : List ℕ) (entries : List Command) (rest : List ℕ)
    → SpellsFront rules before input entries rest → SpellsFront rules before (input ++ more) entries (rest ++ more)
SpellsFront-more rules before input more [] rest h = ap (λ xs. xs ++ more) h
SpellsFront-more rules before input more (entry ∷ entries) rest h = (
  h.0,
  h.1 ++ more,
  ap (λ xs. xs ++ more) h.2 ∙ append_assoc h.0 h.1 more,
  h.3,
  match_bool (is_last before entry) (λ l. (l.0, ap (λ xs. xs ++ more) l.1))
      (λ l. SpellsFront-more rules (before + 1) h.1 more entries rest l) h.4,
)

-- bytes behind the last command change nothing
pub closed_more : (rules : Rules) (fed more : List ℕ) (entries : List Command) → is_closed entries ≡ true
    → BeginCommands rules fed entries → AreCommands rules (fed ++ more) entries
closed_more rules fed more entries closed h =
    (h.0 ++ more, SpellsFront-more rules 0 fed more entries h.0 h.1, rw closed tt)

-- no more commands are spelled than a connection may have
pub SpellsFront-length : (rules : Rules) (before : ℕ) (input : List ℕ) (entries : List Command) (rest : List ℕ)
    → before < 2 ^ 63 → SpellsFront rules before input entries rest → before + length entries ≤ 2 ^ 63
SpellsFront-length rules before input [] rest below h = omega arith
SpellsFront-length rules before input (entry ∷ entries) rest below h = elim (cases_Bool (is_last before entry)) [
  | inl last ↦ let none = rw last at h.4 in rw none.0 (omega arith)
  | inr goes ↦
      let apart = eqb-false (before + 1) (2 ^ 63) (or_parts (closes entry) (before + 1 == 2 ^ 63) goes).1 in
      let bound = SpellsFront-length rules (before + 1) h.1 entries rest (omega arith) (rw goes at h.4) in
      omega arith
]

-- A stream begins with no more commands than a connection may have, which are 2^63.
pub begins_length : (rules : Rules) (fed : List ℕ) (entries : List Command) → BeginCommands rules fed entries
    → length entries ≤ 2 ^ 63
begins_length rules fed entries h = let n = SpellsFront-length rules 0 fed entries h.0 (lit< tt) h.1 in omega arith
