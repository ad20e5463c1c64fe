-- What contracts see of the items of a shard.
use Rattle.std.specs.Prelude.{ℕ, List}
use Rattle.mc_item.specs.declared.item.Item.{Item}

pub record Shelf : Type 0 where
  -- each item with its key, the most recently used first
  pub entries : List (List ℕ × Item)
  -- what they may cost together, in bytes
  pub budget : ℕ
  -- how many went to make room for others, modulo 2^64
  pub evicted : ℕ
