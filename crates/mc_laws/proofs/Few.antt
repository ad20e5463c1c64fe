-- How much the bytes of a connection ask for at most: 2 ^ 63 commands, and 8,388,608 pieces each.
use Rattle.std.proofs.Common.{◌≡◌, ◌==◌, ℕ, zero, suc, ◌+◌, ◌-◌, ◌*◌, ◌<◌, ◌≤◌, true, false, List, [], ◌∷◌, length, map}
use Rattle.std.proofs.Common.{take, sym, ap, ◌∙◌, subst, arith, inl, inr, length-append, slice_index, Option, Some}
use Rattle.std.proofs.Common.{None}
use Rattle.std.specs.List.{slice_split}
use Rattle.std.proofs.lemmas.Bool.{cases_Bool, cases_lt, or_parts}
use Rattle.std.proofs.lemmas.Bool.Decides.{eqb_tells}
use Rattle.std.proofs.lemmas.List.{length-map}
use Rattle.std.proofs.lemmas.List.FromFn.{length-map-range_with_len}
use Rattle.std.proofs.lemmas.List.Splits.{length-slice_split}
use Rattle.std.proofs.lemmas.List.Sums.{count_by-le-length, length-filter}
use Rattle.mc_wire.specs.Words.{is_filled, is_space, words_of}
use Rattle.mc_command.specs.declared.command.Command.{Command}
use Rattle.mc_command.specs.declared.command.Command.TheVariants as command
use Rattle.mc_command.specs.declared.command.StatsRequest.TheVariants as request
use Rattle.mc_command.specs.Command.{with_block}
use Rattle.mc_command.specs.declared.error.CommandError.{CommandError}
use Rattle.mc_command.proofs.Few.{AsksFew, FewLine, few_line}
use Rattle.mc_sizes.specs.Sizes.{rules_of}
use Rattle.mc_sizes.specs.declared.sizes.Sizes.{Sizes}
use Rattle.mc_reader.specs.Spelling.{IsLine, Spells, SpellsFront, closes, is_last, line_says, most_commands, skip_entry}
use Rattle.mc_reader.specs.Spelling.{without_return}
use Rattle.mc_reader.specs.Spelling.Spells.{line as of_line, refused as of_refused, block as of_block}
use Rattle.mc_reader.specs.Spelling.Spells.{bad_block as of_bad_block, skipped as of_skipped, long as of_long}
use Rattle.mc_reader.proofs.Fronts.{every_input}
use Rattle.mc_item.specs.declared.op.Op.{Op}
use Rattle.mc_item.specs.declared.op.Op.TheVariants as op
use Rattle.mc_split.specs.Pieces.{asked_of_all, pieces_of}
use Rattle.mc_model.specs.World.{Link}
use Rattle.mc_laws.specs.Progress.{steps_of, steps_of_all}
use Rattle.mc_laws.proofs.Measure.{spelled_by}
use Rattle.mc_command.specs.declared.rules.Rules.{Rules}

-- Each word of a line has a byte of its own, but for one.
words_few : (text : List ℕ) → length (words_of text) ≤ length text + 1
unfolding words_of
words_few text =
    let filled = length-filter is_filled (slice_split is_space text) in
    let some = count_by-le-length is_filled (slice_split is_space text) in
    let parts = length-slice_split is_space text in
    let spaces = count_by-le-length is_space text in
    omega (arith, filled, some, parts, spaces)

take_length : (n : ℕ) (xs : List ℕ) → length (take n xs) ≤ length xs
take_length zero xs = omega arith
take_length (suc n) [] = omega arith
take_length (suc n) (x ∷ xs) = let rest = take_length n xs in omega (arith, rest)

shorter : (line : List ℕ) → length (without_return line) ≤ length line
shorter line = elim (cases_Bool (slice_index line (length line - 1) == 13)) [
  | inl ends ↦ rw ends (let cut = take_length (length line - 1) line in cut)
  | inr other ↦ rw other (omega arith)
]

-- the command of a line has few keys
says_few : (rules : Rules) (text line : List ℕ) → IsLine rules text line
    → FewLine rules.line_limit (line_says rules line)
says_few rules text line is =
    let words = words_few (without_return line) in
    let cut = shorter line in
    let long = ap length is.text_is ∙ length-append line (10 ∷ []) in
    let short : length text ≤ rules.line_limit = is.short in
    few_line rules.line_limit rules (words_of (without_return line)) (omega (arith, words, cut, long, short))

with_few : (most : ℕ) (asked : Command) (data_block : List ℕ) → AsksFew most asked
    → AsksFew most (with_block asked data_block)
with_few most (command.Store storage) data_block few = tt
with_few most (command.MetaSet set) data_block few = tt
with_few most (command.Get retrieval) data_block few = few
with_few most other data_block few = tt

skip_few : (most : ℕ) (discarded : Option (List ℕ)) (refusal : CommandError)
    → AsksFew most (skip_entry discarded refusal)
skip_few most None refusal = tt
skip_few most (Some key) refusal = tt

-- What is spelled asks for few keys.
spells_few : (rules : Rules) (text : List ℕ) (entry : Command) → Spells rules text entry
    → AsksFew rules.line_limit entry
spells_few rules text entry (of_line line is said) = subst (FewLine rules.line_limit) said (says_few rules text line is)
spells_few rules text entry (of_refused line refusal is said entry_is) =
    subst (AsksFew rules.line_limit) (sym entry_is) tt
spells_few rules text entry (of_block head line data_block asked is text_is said entry_is) =
    subst (AsksFew rules.line_limit) (sym entry_is)
    (with_few rules.line_limit asked data_block (subst (FewLine rules.line_limit) said (says_few rules head line is)))
spells_few rules text entry (of_bad_block head line chunk ends asked is text_is two bad said entry_is) =
    subst (AsksFew rules.line_limit) (sym entry_is) tt
spells_few rules text entry (of_skipped head line skipped discarded refusal is text_is said entry_is) =
    subst (AsksFew rules.line_limit) (sym entry_is) (skip_few rules.line_limit discarded refusal)
spells_few rules text entry (of_long is no_end entry_is) = subst (AsksFew rules.line_limit) (sym entry_is) tt

shards_few : (shards : ℕ) (op : Op) → shards ≤ 64 → length (asked_of_all shards op) ≤ 8388608
shards_few shards op small =
    let long : length (asked_of_all shards op) ≡ shards = length-map-range_with_len _ 0 shards in
    omega (arith, long, small)

-- So it has few pieces: one a key, or one a shard.
pieces_few : (most shards : ℕ) (asked : Command) → shards ≤ 64 → most ≤ 8388608 → AsksFew most asked
    → length (pieces_of shards asked) ≤ 8388608
unfolding pieces_of
pieces_few most shards (command.Get retrieval) small room few =
    let long : length (pieces_of shards (command.Get retrieval)) ≡ length retrieval.keys =
    length-map retrieval.keys _ in omega (arith, long, few, room)
pieces_few most shards (command.FlushAll delay noreply) small room few = shards_few shards (op.Flush delay) small
pieces_few most shards (command.Stats request.General) small room few = shards_few shards op.Stats small
pieces_few most shards (command.Stats request.Reset) small room few = shards_few shards op.ResetStats small
pieces_few most shards other small room few = omega arith

-- Behind a command that isn't a last one there is room for another.
not_yet : (before : ℕ) (entry : Command) → before < most_commands → is_last before entry ≡ false
    → before + 1 < most_commands
not_yet before entry room goes = elim (eqb_tells (before + 1) most_commands) [
  | inl here ↦ let never =
      (or_parts (closes entry) (before + 1 == most_commands) goes).1 in
      absurd (let e : true ≡ false = sym here.0 ∙ never in cc)
  | inr other ↦ elim (cases_lt (before + 1) most_commands) [
    | inl less ↦ less
    | inr past ↦ absurd (other.1 (omega (arith, room, past)))
  ]
]

-- The commands of a stream have few steps, and they are not more than a connection takes.
pub front_few : (rules : Rules) (shards before : ℕ) (input : List ℕ) (commands : List Command) (rest : List ℕ)
    → shards ≤ 64 → rules.line_limit ≤ 8388608 → before < most_commands → SpellsFront rules before input commands rest →
    (steps_of shards commands ≤ length commands * 33554434) × (before + length commands ≤ most_commands)
front_few rules shards before input [] rest small short room front = (omega arith, omega (arith, room))
front_few rules shards before input (entry ∷ commands) rest small short room front =
    let pieces = pieces_few rules.line_limit shards entry small short (spells_few rules front.0 entry front.3) in
    elim (cases_Bool (is_last before entry)) [
      | inl last ↦
          let none = (rw last at front.4).0 in
          rw none (omega (arith, pieces), omega (arith, room))
      | inr goes ↦
          let more = rw goes at front.4 in
          let next : before + 1 < most_commands = not_yet before entry room goes in
          let later = front_few rules shards (before + 1) front.1 commands rest small short next more in
          let steps = later.0 in
          let count = later.1 in
          (omega (arith, pieces, steps), omega (arith, count))
    ]

-- The connections have at most 2 ^ 88 + 2 ^ 64 + 2 steps each: no more than 2 ^ 63 commands, of no more than
-- 8,388,608 pieces.
pub all_few : (sizes : Sizes) (links : List Link) → sizes.shards ≤ 64 → sizes.line ≤ 8388608
    → steps_of_all sizes.shards (map (spelled_by sizes) links) ≤ length links * 309485028268089142434332674
all_few sizes [] small short = omega arith
all_few sizes (link ∷ links) small short =
    let all = every_input (rules_of sizes) link.fed in
    let own = front_few (rules_of sizes) sizes.shards 0 link.fed all.0 all.1.0 small short (omega arith) all.1.1 in
    let steps = own.0 in
    let count = own.1 in
    let rest = all_few sizes links small short in
    omega (arith, steps, count, rest)
