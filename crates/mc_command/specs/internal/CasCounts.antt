-- The length of the block of `cas`, by its word and the unique behind it.
use Rattle.std.specs.Prelude.{ℕ, List, Option, None, is_none, ◌&&◌, if◌then◌else◌}
use Rattle.std.specs.Option.{option_and_then}
use Rattle.mc_command.specs.declared.rules.Rules.{Rules}
use Rattle.mc_command.specs.Blocks.{block_count}
use Rattle.mc_command.specs.Rules.{is_drop_in}

-- the length of the block of `cas`, by its word and the unique behind it
abbrev pub count_before : Rules → Option (List ℕ) → Option (List ℕ) → Option ℕ
count_before rules count unique =
    if is_none unique && is_drop_in rules then None else option_and_then (block_count rules) count
