-- What the parts of an operation do, at the shard's own time and before a dead item under the key is removed.
use Rattle.std.specs.Prelude.{◌≡◌, List, Some, Result, Ok, Err, ◌⊎◌, ℕ}
use Rattle.mc_item.specs.declared.op.Op.{Op}
use Rattle.mc_item.specs.declared.answer.Answer.{Answer}
use Rattle.mc_item.specs.declared.answer.Answer.TheVariants.{NoMemory}
use Rattle.mc_item.specs.Kind.{key_of}
use Rattle.mc_item.specs.declared.answer.Answer.TheVariants as answers
use Rattle.mc_store.specs.declared.shard.Shard.{Shard}
use Rattle.mc_store.specs.declared.shard.write_error.WriteError.{WriteError}
use Rattle.mc_store.specs.declared.shard.write_error.WriteError.TheVariants.{NoCas}
use Rattle.mc_store.specs.declared.shard.write_error.WriteError.TheVariants as error
use Rattle.mc_store.specs.State.{State, without_dead}
use Rattle.mc_store.specs.Step.{Outcome, Answers}
use Rattle.mc_store.specs.Shard.{IsShard}

-- The answer and the state are this outcome, or memory was refused and nothing changed.
abbrev pub IsOutcome : State → Outcome → Answer → State → Type 0
IsOutcome settled outcome answer new = ((answer ≡ NoMemory) × (new ≡ settled)) ⊎ ◌≡◌ {A = Outcome} (answer, new) outcome

-- What the shard did at its own time is the outcome of the settled state.
abbrev pub Does : Shard → List ℕ → (State → Outcome) → Answer → Shard → Type 0
Does old key outcome answer new =
    (state : State) → IsShard old state → (after : State)
    × IsOutcome (without_dead state (Some key)) (outcome (without_dead state (Some key))) answer after
    × IsShard new after

-- the answer of a part of an operation that was done, or refused
abbrev pub answered : {A : Type 0} → (A → Answer) → Result A Answer → Answer
answered reply (Ok done) = reply done
answered reply (Err answer) = answer

-- the answer that reports why an item wasn't written
abbrev pub refusal : WriteError → Answer
refusal NoCas = answers.NoCas
refusal error.NoMemory = NoMemory

-- the answer of an item that was written with a unique, or refused
abbrev pub written : (ℕ → Answer) → Result ℕ WriteError → Answer
written reply (Ok unique) = reply unique
written reply (Err refused) = refusal refused

-- The shard did the operation, and is still to count it.
abbrev pub Acts : Shard → Op → Answer → Shard → Type 0
Acts old op answer new =
    (state : State) → IsShard old state → (after : State) × Answers (without_dead state (key_of op)) op answer after
    × IsShard new after
