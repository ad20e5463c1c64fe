-- The rows up to here have other words.
use Rattle.std.proofs.Common.{◌≡◌}
use Rattle.std.specs.Prelude.{drop}
use Rattle.std.specs.Map.{lookup}
use Rattle.std.specs.Str.{bytes_eq}
use Rattle.mc_command.specs.internal.WordTable.{rows_of}
use Rattle.mc_command.proofs.table.find_word.Given as goal

abbrev pub invariant-loop-name : goal.invariant-loop-name
invariant-loop-name g l =
    lookup (bytes_eq l.word) (rows_of l.table) ≡ lookup (bytes_eq l.word) (rows_of (drop l.name-index l.table))
