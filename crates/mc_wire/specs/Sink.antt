-- The history of a sink: the bytes written to it, and for one that is read too, the bytes read from it.
use Rattle.std.specs.Prelude.{ℕ, ◌≡◌, ◌+◌, ◌≤◌, ◌==◌, Bool, true, false, List, [], ◌∷◌, ◌++◌, length, take, Option}
use Rattle.std.specs.Prelude.{Some, None, Result, Ok, Err}

-- the history of one direction: unknown, the number of bytes, or the bytes
pub data Trace : Type 0 where
  Unlisted : Trace
  Counted : ℕ → Trace
  Listed : List ℕ → Trace

-- the history with these bytes appended
abbrev pub with_bytes : Trace → List ℕ → Trace
with_bytes Unlisted bytes = Unlisted
with_bytes (Counted count) bytes = Counted (count + length bytes)
with_bytes (Listed before) bytes = Listed (before ++ bytes)

-- a read: the histories of both directions just before it
pub record Read : Type 0 where
  pub given : Trace
  pub taken : Trace

-- what contracts see of a sink
pub record Sight : Type 0 where
  -- the bytes read from it, and whether the end of input was
  pub given : Trace
  pub ended : Bool
  -- each read so far, if that is known
  pub reads : Option (List Read)
  -- the bytes written to it
  pub taken : Trace
  -- whether it has failed
  pub failed : Bool

-- a sink that isn't read from
abbrev pub sight_out : Trace → Bool → Sight
sight_out taken failed = record { given = Unlisted; ended = false; reads = None; taken = taken; failed = failed }

-- the history after a write of these bytes
abbrev pub took : List ℕ → Sight → Sight
took bytes sight = record sight { taken = with_bytes sight.taken bytes }

-- the reads with these appended
abbrev pub with_reads : Option (List Read) → List Read → Option (List Read)
with_reads None reads = None
with_reads (Some before) reads = Some (before ++ reads)

-- the history after one more request for bytes
abbrev pub asked : Sight → Sight
asked sight = record sight { reads = with_reads sight.reads (record { given = sight.given; taken = sight.taken } ∷ []) }

-- the history after a read that returned these bytes; none is the end of input
abbrev pub gave : List ℕ → Sight → Sight
gave bytes sight = record sight { given = with_bytes sight.given bytes; ended = length bytes == 0 }

-- the history after a failure
abbrev pub broke : Sight → Sight
broke sight = record sight { failed = true }

-- A prefix of the text was written, and the sink failed.
pub record BreaksOff (text : List ℕ) (old new : Sight) : Type 0 where
  pub count : ℕ
  pub within : count ≤ length text
  pub sight : new ≡ broke (took (take count text) old)

-- The text was written: completely on success, otherwise a prefix of it.
abbrev pub Writes : {X E : Type 0} → List ℕ → Result X E → Sight → Sight → Type 0
Writes text (Ok done) old new = new ≡ took text old
Writes text (Err fault) old new = BreaksOff text old new

-- A read: the first count bytes of the buffer are the result, or it failed and returned none.
abbrev pub ReadsIntoRoom : {E : Type 0} → List ℕ → Result ℕ E → Sight → Sight → Type 0
ReadsIntoRoom room (Ok count) old new = new ≡ gave (take count room) (asked old)
ReadsIntoRoom room (Err fault) old new = new ≡ broke (asked old)
