-- The rows before the one that is read have other words, so what the word finds in the table it finds in that
-- row or behind it.
use Rattle.std.proofs.Common.{◌≡◌, ℕ, ◌+◌, ◌<◌, cond, List, ◌∷◌, length, get_or, drop, Option, Some, Bor, sym, ap, ◌∙◌}
use Rattle.std.proofs.lemmas.List.{at_drop_all, at_drop_more}
use Rattle.std.specs.Map.{lookup}
use Rattle.std.specs.Str.{bytes_eq}
use Rattle.mc_command.specs.internal.WordTable.{rows_of}
use Rattle.mc_command.proofs.table.find_word.Goals as goal

-- what a word finds in rows
abbrev found_in : {X : Type 0} → List ℕ → List (Bor (List ℕ) × X) → Option X
found_in word rows = lookup (bytes_eq word) (rows_of rows)

-- What a word finds in the rows from some place on is in the row there, where that has this word, or in the
-- rows behind it.
found_from : {X : Type 0} (word : List ℕ) (table : List (Bor (List ℕ) × X)) (i : ℕ) (row : Bor (List ℕ) × X) →
    found_in word table ≡ found_in word (drop i table) → i < length table → row ≡ get_or table i row →
    found_in word table ≡ cond (bytes_eq word row.0.now) (Some row.1) (found_in word (drop (i + 1) table))
found_from {X} word table i row so_far within is =
    so_far ∙ (at_drop_more (found_in word) table i row within
    ∙ ap (λ (first : Bor (List ℕ) × X). found_in word (first ∷ drop (i + 1) table)) (sym is))

pub returns-then-eq : goal.returns-then-eq
returns-then-eq g c =
    let row = c.loop-name-item.result in
    let found = found_from c.args.word.now c.args.table.now c.loop-name.name-index row c.loop-name.invariant
    c.loop-name-test.true c.loop-name-item.is in
    rw (found, ← c.if-eq.ensures)

pub loop-name-preserved : goal.loop-name-preserved
loop-name-preserved g c =
    let row = c.loop-name-item.result in
    let found = found_from c.args.word.now c.args.table.now c.loop-name.name-index row c.loop-name.invariant
    c.loop-name-test.true c.loop-name-item.is in
    rw (← c.if-eq.ensures) at found

pub returns : goal.returns
returns g c =
    rw (
      c.loop-name.invariant,
      at_drop_all (found_in c.args.word.now) c.args.table.now c.loop-name.name-index c.loop-name-test.false,
    )
