-- Storage of a key's bytes.
use Rattle.std.specs.Prelude.{ℕ, ◌≤◌, List, take}
use Rattle.mc_wire.specs.declared.key.KeptBytes.{KeptBytes}
use Rattle.mc_wire.specs.declared.key.KeptBytes.TheVariants.{Short, Long}
use Rattle.mc_wire.specs.declared.key.TheConstants.{SHORT_KEY}

-- the bytes of a key
abbrev pub kept_bytes : KeptBytes → List ℕ
kept_bytes (Short len room) = take len room
kept_bytes (Long bytes) = bytes.items

-- the length of a short key is within its buffer
abbrev pub FitsItsRoom : KeptBytes → Type 0
FitsItsRoom (Short len room) = len ≤ SHORT_KEY
FitsItsRoom (Long bytes) = Unit {0}
