-- The commands of a stream: what follows from the commands of its front.
use Rattle.std.proofs.Common.{◌≡◌, ℕ, zero, suc, ◌+◌, ◌<◌, ◌≤◌, Bool, true, false, List, [], ◌∷◌, ◌++◌, length, refl}
use Rattle.std.proofs.Common.{sym, ap, ◌∙◌, arith, append_assoc, append-nil, length-append, length-take, MatchBool, ◌⊎◌}
use Rattle.std.proofs.Common.{inl, inr, ◌==◌, take, drop}
use Rattle.std.proofs.lemmas.List.{take-append-drop}
use Rattle.std.proofs.lemmas.Bool.{cases_Bool, cases_lt, false≢true, or_parts}
use Rattle.std.proofs.lemmas.Bool.Decides.{nat_tests}
use Rattle.mc_command.specs.declared.command.Command.{Command}
use Rattle.mc_command.specs.declared.command.Command.TheVariants as command
use Rattle.mc_command.specs.declared.error.CommandError.TheVariants.{LineTooLong}
use Rattle.mc_command.specs.Line.{bytes_behind}
use Rattle.mc_reader.specs.Spelling.{HasNoEnd, line_says, Spells, SpellsNothing, SpellsFront, BeginCommands}
use Rattle.mc_reader.specs.Spelling.{AreCommands, Begins, closes, is_last, is_closed_after, is_closed, most_commands}
use Rattle.mc_reader.specs.internal.State.{SpellsSomething}
use Rattle.mc_reader.proofs.Texts.{Reads, nothing_without_end, nothing_yet, reads, same_spelled, something}
use Rattle.mc_reader.proofs.Texts.{spelled_behind}
use Rattle.mc_command.specs.declared.rules.Rules.{Rules}

-- What more bytes come behind is left over.
pub front_more : (rules : Rules) (entries : List Command) (before : ℕ) (input rest more : List ℕ)
    → SpellsFront rules before input entries rest → SpellsFront rules before (input ++ more) entries (rest ++ more)
front_more rules [] before input rest more front = ap (λ xs. xs ++ more) front
front_more rules (entry ∷ entries) before input rest more front = (
  front.0,
  front.1 ++ more,
  ap (λ xs. xs ++ more) front.2 ∙ append_assoc front.0 front.1 more,
  front.3,
  elim (cases_Bool (is_last before entry)) [
    | inl last ↦ let h = rw last at front.4 in rw last (h.0, ap (λ xs. xs ++ more) h.1)
    | inr goes ↦ rw goes (front_more rules entries (before + 1) front.1 rest more (rw goes at front.4))
  ],
)

-- One more command behind the others.
pub front_last : (rules : Rules) (entries : List Command) (before : ℕ) (input text after : List ℕ) (entry : Command)
    → SpellsFront rules before input entries (text ++ after) → is_closed_after before entries ≡ false
    → Spells rules text entry → SpellsFront rules before input (entries ++ entry ∷ []) after
front_last rules [] before input text after entry front goes_on spelled = (
  text,
  after,
  front,
  spelled,
  elim (cases_Bool (is_last before entry)) [ inl last ↦ rw last (refl, refl) | inr goes ↦ rw goes refl ],
)
front_last rules (first ∷ entries) before input text after entry front goes_on spelled =
    let still = or_parts (is_last before first) (is_closed_after (before + 1) entries) goes_on in
    let later = front_last rules entries (before + 1) front.1 text after entry (rw still.0 at front.4) still.1 spelled
    in
    (front.0, front.1, front.2, front.3, rw still.0 later)

-- Equal commands at the front of one input leave equal rests.
pub same_rest : (rules : Rules) (entries : List Command) (before : ℕ) (input rest rest' : List ℕ)
    → SpellsFront rules before input entries rest → SpellsFront rules before input entries rest' → rest ≡ rest'
same_rest rules [] before input rest rest' front front' = sym front ∙ front'
same_rest rules (entry ∷ entries) before input rest rest' front front' =
    let same = same_spelled rules front.0 front'.0 front.1 front'.1 entry entry front.3 front'.3
    (sym front.2 ∙ front'.2) in
    elim (cases_Bool (is_last before entry)) [
      | inl last ↦
          let h = rw last at front.4 in
          let h' = rw last at front'.4 in
          sym h.1 ∙ (same.rest ∙ h'.1)
      | inr goes ↦ same_rest rules entries (before + 1) front.1 rest rest' (rw goes at front.4)
          (rw same.rest (rw goes at front'.4))
    ]

-- the last of the commands, and what was unread before it
pub record LastOf (rules : Rules) (before : ℕ) (input : List ℕ) (entries : List Command) (entry : Command)
    (rest : List ℕ) : Type 0 where
  pub text : List ℕ
  pub front : SpellsFront rules before input entries (text ++ rest)
  pub goes_on : is_closed_after before entries ≡ false
  pub spelled : Spells rules text entry

-- The last of some commands is spelled by the text behind the others, and none of these closes the stream.
pub last_of : (rules : Rules) (entries : List Command) (before : ℕ) (input : List ℕ) (entry : Command) (rest : List ℕ)
    → SpellsFront rules before input (entries ++ entry ∷ []) rest → LastOf rules before input entries entry rest
last_of rules [] before input entry rest front =
    let after : front.1 ≡ rest =
    elim (cases_Bool (is_last before entry))
    [ inl last ↦ let h = rw last at front.4 in h.1 | inr goes ↦ rw goes at front.4 ] in
    record { text = front.0; front = rw (← after) front.2; goes_on = refl; spelled = front.3 }
last_of rules (first ∷ entries) before input entry rest front = elim (cases_Bool (is_last before first)) [
  | inl last ↦ let h = rw last at front.4 in absurd (omega (arith, ap length h.0, length-append entries (entry ∷ [])))
  | inr goes ↦
      let later = last_of rules entries (before + 1) front.1 entry rest (rw goes at front.4) in
      record {
        text = later.text;
        front = (front.0, front.1, front.2, front.3, rw goes later.front);
        goes_on = rw goes later.goes_on;
        spelled = later.spelled;
      }
]

-- the rest has no command, or a command closed the stream
abbrev pub IsAll : Rules → ℕ → List Command → List ℕ → Type 0
IsAll rules before entries rest = MatchBool (is_closed_after before entries) (Unit {0}) (SpellsNothing rules rest)

-- the commands of a prefix are a prefix of those of the whole input, if the latter are all of them
pub begins : (rules : Rules) (entries others : List Command) (before : ℕ) (input more rest rest' : List ℕ)
    → SpellsFront rules before input entries rest → SpellsFront rules before (input ++ more) others rest'
    → IsAll rules before others rest' → Begins entries others
begins rules [] others before input more rest rest' front front' all = (others, refl)
begins rules (entry ∷ entries) [] before input more rest rest' front front' all =
    absurd (something rules front.0 (front.1 ++ more) entry front.3
    (rw (← append_assoc front.0 front.1 more, ← front.2, front') all))
begins rules (entry ∷ entries) (other ∷ others) before input more rest rest' front front' all =
    let e = sym (append_assoc front.0 front.1 more) ∙ (ap (λ xs. xs ++ more) (sym front.2) ∙ front'.2) in
    let same = same_spelled rules front.0 front'.0 (front.1 ++ more) front'.1 entry other front.3 front'.3 e in
    elim (cases_Bool (is_last before other)) [
      | inl last ↦
          let h = rw (same.entry, last) at front.4 in
          let h' = rw last at front'.4 in
          ([], rw (h.0, h'.0, same.entry) refl)
      | inr goes ↦
          let later = begins rules entries others (before + 1) front.1 more rest rest'
          (rw (same.entry, goes) at front.4) (rw same.rest (rw goes at front'.4)) (rw goes at all) in
          (later.0, (λ i. same.entry i ∷ later.1 i))
    ]

-- The commands of a prefix are a prefix of those of the whole input.
pub commands_begin : (rules : Rules) (input more : List ℕ) (entries others : List Command)
    → BeginCommands rules input entries → AreCommands rules (input ++ more) others → Begins entries others
commands_begin rules input more entries others some all =
    begins rules entries others 0 input more some.0 all.0 some.1 all.1 all.2

-- A prefix of the commands of a prefix of the input is a prefix of those of the whole input.
pub begin_more : (rules : Rules) (input more : List ℕ) (entries : List Command) → BeginCommands rules input entries
    → BeginCommands rules (input ++ more) entries
begin_more rules input more entries some = (some.0 ++ more, front_more rules entries 0 input some.0 more some.1)

-- All commands of an input are a prefix of its commands.
pub all_begin : (rules : Rules) (input : List ℕ) (entries : List Command) → AreCommands rules input entries
    → BeginCommands rules input entries
all_begin rules input entries all = (all.0, all.1)

begins_both : (entries others : List Command) → Begins entries others → Begins others entries → entries ≡ others
begins_both entries others one two = go one.0 one.1 two.0 two.1 where
  go : (more : List Command) → entries ++ more ≡ others → (less : List Command) → others ++ less ≡ entries → entries
      ≡ others
  go [] e less e' = sym (append-nil entries) ∙ e
  go (first ∷ more) e less e' =
      absurd (omega (arith, ap length e, ap length e', length-append entries (first ∷ more), length-append others less))

-- The commands of an input are one list.
pub one_list : (rules : Rules) (input : List ℕ) (entries others : List Command) → AreCommands rules input entries
    → AreCommands rules input others → entries ≡ others
one_list rules input entries others all all' =
    begins_both entries others
    (commands_begin rules input [] entries others (all_begin rules input entries all) (rw append-nil all'))
    (commands_begin rules input [] others entries (all_begin rules input others all') (rw append-nil all))

-- Nothing comes behind a last command.
pub closed_more : (rules : Rules) (input more : List ℕ) (entries : List Command) → AreCommands rules input entries
    → is_closed entries ≡ true → AreCommands rules (input ++ more) entries
closed_more rules input more entries all closed =
    (all.0 ++ more, front_more rules entries 0 input all.0 more all.1, rw closed tt)

-- whether some bytes contain a line feed, and where the first one is
data FirstEnd (bytes : List ℕ) : Type 0 where
  ended : (line rest : List ℕ) → bytes ≡ line ++ 10 ∷ rest → HasNoEnd line → FirstEnd bytes
  endless : HasNoEnd bytes → FirstEnd bytes

first_end : (bytes : List ℕ) → FirstEnd bytes
first_end [] = endless tt
first_end (byte ∷ bytes) = by_byte (byte == 10) refl (first_end bytes) where
  by_byte : (test : Bool) → (byte == 10) ≡ test → FirstEnd bytes → FirstEnd (byte ∷ bytes)
  by_byte true t later = let ten : byte ≡ 10 = grind (arith, nat_tests) in ended [] bytes (λ i. ten i ∷ bytes) tt
  by_byte false t (ended line rest is none) = ended (byte ∷ line) rest (λ i. byte ∷ is i) (t, none)
  by_byte false t (endless none) = endless (t, none)

no_end_take : (n : ℕ) (bytes : List ℕ) → HasNoEnd bytes → HasNoEnd (take n bytes)
no_end_take zero bytes none = tt
no_end_take (suc n) [] none = tt
no_end_take (suc n) (byte ∷ bytes) none = (none.0, no_end_take n bytes none.1)

too_long : (rules : Rules) (bytes line rest : List ℕ) → bytes ≡ line ++ rest → HasNoEnd line
    → rules.line_limit ≤ length line → SpellsSomething rules bytes
too_long rules bytes line rest is none full = (
  take rules.line_limit line,
  drop rules.line_limit line ++ rest,
  command.Refused LineTooLong,
  is ∙ (ap (λ xs. xs ++ rest) (sym (take-append-drop rules.line_limit line))
      ∙ append_assoc (take rules.line_limit line) (drop rules.line_limit line) rest),
  Spells.long (omega (arith, length-take rules.line_limit line)) (no_end_take rules.line_limit line none) refl,
)

-- Either a prefix of the input denotes a command, or none does.
first_spelled : (rules : Rules) (input : List ℕ) → SpellsSomething rules input ⊎ SpellsNothing rules input
first_spelled rules input = elim (first_end input) [
  | ended line tail is none ↦ elim (cases_lt (length line) rules.line_limit) [
    | inl short ↦ elim (cases_lt (length tail) (bytes_behind (line_says rules line))) [
      | inl few ↦ inr (rw is (nothing_yet rules line tail none short few))
      | inr enough ↦ inl (spelled_behind rules line tail input is none short enough)
    ]
    | inr full ↦ inl (too_long rules input line (10 ∷ tail) is none full)
  ]
  | endless none ↦ elim (cases_lt (length input) rules.line_limit) [
    | inl short ↦ inr (nothing_without_end rules input none short)
    | inr full ↦ inl (too_long rules input input [] (sym (append-nil input)) none full)
  ]
]

-- the text of a command that closes nothing has at least one byte
some_byte : (rules : Rules) (text : List ℕ) (entry : Command) → Reads rules text entry → closes entry ≡ false
    → 0 < length text
some_byte rules text entry (Reads.lined line tail is) goes =
    omega (arith, ap length is.text_is, length-append line (10 ∷ tail))
some_byte rules text entry (Reads.endless full none e) goes = absurd (false≢true (sym goes ∙ ap closes e))

-- Every input has its commands.
pub some_commands : (rules : Rules) (fuel before : ℕ) (input : List ℕ) → length input ≤ fuel → (entries : List Command)
    × (rest : List ℕ) × SpellsFront rules before input entries rest × IsAll rules before entries rest
some_commands rules zero before input few = elim (first_spelled rules input) [
  | inr nothing ↦ ([], input, refl, nothing)
  | inl one ↦ elim (cases_Bool (is_last before one.2)) [
    | inl last ↦ (one.2 ∷ [], one.1, (one.0, one.1, one.3, one.4, rw last (refl, refl)), rw last tt)
    | inr goes ↦
        let some = some_byte rules one.0 one.2 (reads rules one.0 one.2 one.4)
        (or_parts (closes one.2) (before + 1 == most_commands) goes).0 in
        absurd (omega (arith, ap length one.3, length-append one.0 one.1))
  ]
]
some_commands rules (suc fuel) before input few = elim (first_spelled rules input) [
  | inr nothing ↦ ([], input, refl, nothing)
  | inl one ↦ elim (cases_Bool (is_last before one.2)) [
    | inl last ↦ (one.2 ∷ [], one.1, (one.0, one.1, one.3, one.4, rw last (refl, refl)), rw last tt)
    | inr goes ↦
        let some = some_byte rules one.0 one.2 (reads rules one.0 one.2 one.4)
        (or_parts (closes one.2) (before + 1 == most_commands) goes).0 in
        let next = some_commands rules fuel (before + 1) one.1
        (omega (arith, ap length one.3, length-append one.0 one.1)) in
        (one.2 ∷ next.0, next.1, (one.0, one.1, one.3, one.4, rw goes next.2), rw goes next.3)
  ]
]

-- Every input has its commands, up to the first that closes the stream.
pub every_input : (rules : Rules) (input : List ℕ) → (entries : List Command) × AreCommands rules input entries
every_input rules input = let some =
    some_commands rules (length input) 0 input (omega arith) in (some.0, (some.1, some.2, some.3))
