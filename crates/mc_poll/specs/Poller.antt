-- What contracts see of a thread's poller.
use Rattle.std.specs.Prelude.{ℕ}

pub record ThreadSize : Type 0 where
  -- number of the server's slots, any of which may notify the thread's shards
  pub callers : ℕ
  -- number of slots that the thread serves
  pub places : ℕ
  -- number of shards that the thread serves
  pub workers : ℕ
