-- The parts that an iterator has not returned yet.
use Rattle.std.specs.Prelude.{ℕ, List, []}
use Rattle.std.specs.Option.{option_map_or}
use Rattle.mc_replay.specs.Text.{parts_of}
use Rattle.mc_replay.specs.declared.parts.PartWalk.{PartWalk}

abbrev pub parts_left : PartWalk → List (List ℕ)
parts_left walk = option_map_or (λ rest. parts_of walk.separator rest.now) walk.rest []
