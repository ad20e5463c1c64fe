-- The rule of the total of all leases.
use Rattle.std.specs.Prelude.{ℕ, ◌≡◌, ◌+◌, ◌≤◌, ◌==◌, List, [], ◌∷◌, MatchBool}
use Rattle.atomic_table.specs.Table.{Me, State}
use Rattle.atomic_table.specs.Seated.{TableId}

-- the sum of what the leases hold
abbrev pub total : List ℕ → ℕ
total [] = 0
total (bytes ∷ others) = bytes + total others

-- The word is the sum of what the leases hold, and at most the limit.
pub record IsWithin (limit : ℕ) (s : State ℕ ℕ) : Type 0 where
  pub word : s.words ≡ total s.views ∷ []
  pub within : total s.views ≤ limit

-- A lease took the bytes between two values of the word, if the word was the first one.
abbrev pub HasTaken : ℕ → ℕ → Me ℕ ℕ → ℕ → Me ℕ ℕ → Type 0
HasTaken before after me found new =
    (new.1 ≡ me.1) × MatchBool (found == before) (new.0 + before ≡ me.0 + after) (new.0 ≡ me.0)

-- A lease returned so many bytes.
abbrev pub HasReturned : ℕ → Me ℕ ℕ → Me ℕ ℕ → Type 0
HasReturned bytes me new = (new.1 ≡ me.1) × (new.0 + bytes ≡ me.0)

-- Which total it is, and its limit in bytes.
pub record Name : Type 0 where
  pub table : TableId
  pub limit : ℕ
