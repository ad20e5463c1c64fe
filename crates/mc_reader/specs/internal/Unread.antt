-- What contracts see of a buffer.
use Rattle.std.specs.Prelude.{ℕ, List}

-- the unread bytes of a stream, and their maximum number
pub record Unread : Type 0 where
  pub bytes : List ℕ
  pub limit : ℕ
