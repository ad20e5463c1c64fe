-- Which seats a worker marks: those whose threads are to be woken.
use Rattle.std.specs.Prelude.{ℕ, ◌≡◌, ◌≢◌, ◌<◌, ◌⊎◌, Bool, true, Some, List, length, slice_get}
use Rattle.std.specs.Option.{option_map}
use Rattle.mc_ring.specs.Ends.{sent_on}
use Rattle.mc_worker.specs.WorkerState.{WorkerState}

-- Of each seat: nothing was sent to it and its mark is as before, or something was sent to it and it is marked.
abbrev pub Marks : WorkerState → WorkerState → List Bool → List Bool → Type 0
Marks old new before after = (seat : ℕ) →
    ((sent_on new.ends seat ≡ sent_on old.ends seat) × (slice_get after seat ≡ slice_get before seat))
    ⊎ ((length (sent_on old.ends seat) < length (sent_on new.ends seat)) × (slice_get after seat ≡ Some true))

-- The marks of all other seats are as before: those but of the seat that was served, and of the one whose reply was
-- pending.
abbrev pub MarksNoOther : WorkerState → ℕ → List Bool → List Bool → Type 0
MarksNoOther old seat before after =
    (other : ℕ) → other ≢ seat → option_map (λ held. held.0) old.hand ≢ Some other → slice_get after other
    ≡ slice_get before other
