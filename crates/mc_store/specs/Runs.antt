-- Operations that a shard did one after another, each at its moment.
use Rattle.std.specs.Prelude.{ℕ, ◌≡◌, ◌≤◌, ◌==◌, true, List, [], ◌∷◌, map, All, if◌then◌else◌}
use Rattle.std.specs.List.{AllZip}
use Rattle.std.specs.List.Sorted.{IsStrictlyIncreasing, IsNonDecreasing}
use Rattle.mc_item.specs.declared.op.Op.{Op}
use Rattle.mc_item.specs.declared.answer.Answer.{Answer}
use Rattle.mc_item.specs.Kind.{kind_of, is_lawful}
use Rattle.mc_store.specs.declared.shard.Shard.{Shard}
use Rattle.mc_store.specs.State.{State, costs, next_unique}
use Rattle.mc_store.specs.Step.{IsStep}
use Rattle.mc_store.specs.Shard.{IsShard}

-- an operation, and the moment at which it is done
abbrev pub TimedOp : Type 0
TimedOp = Op × ℕ

-- Each operation has its answer and the state after it, and each is a step from the state before it.
abbrev pub StepsInOrder : State → List TimedOp → List Answer → List State → Type 0
StepsInOrder old [] [] [] = Unit {0}
StepsInOrder old [] [] (new ∷ states) = ⊥
StepsInOrder old [] (answer ∷ answers) states = ⊥
StepsInOrder old (asked ∷ rest) [] states = ⊥
StepsInOrder old (asked ∷ rest) (answer ∷ answers) [] = ⊥
StepsInOrder old (asked ∷ rest) (answer ∷ answers) (new ∷ states) =
    IsStep old asked.0 asked.1 answer new × StepsInOrder new rest answers states

-- the state after the last operation
abbrev pub last_of : State → List State → State
last_of old [] = old
last_of old (new ∷ states) = last_of new states

-- the uniques that were given, in order: each by a step that gave one
abbrev pub uniques_of : State → List State → List ℕ
uniques_of old [] = []
uniques_of old (new ∷ states) =
    if new.given == old.given then uniques_of new states else next_unique old ∷ uniques_of new states

abbrev pub times_of : List State → List ℕ
times_of states = map (λ state. state.time) states

pub record IsOrderly (old : State) (asked : List TimedOp) (answers : List Answer) (states : List State) : Type 0 where
  -- each answer is lawful for the kind of its operation
  pub lawful : AllZip (λ (ask : TimedOp) (answer : Answer). is_lawful (kind_of ask.0) answer ≡ true) asked answers
  -- the uniques rise
  pub uniques : IsStrictlyIncreasing (uniques_of old states)
  -- the time never goes back
  pub time : IsNonDecreasing (times_of (old ∷ states))

-- The items never cost more than the shard's budget.
abbrev pub KeepsBudget : State → List State → Type 0
KeepsBudget old states = All (λ (state : State). costs state.items ≤ old.budget) states

-- From whatever state the shard showed, the answers are those of an orderly run within its budget, whose last state it
-- shows then.
abbrev pub RunsThrough : Shard → List TimedOp → List Answer → Shard → Type 0
RunsThrough old asked answers new =
    (state : State) → IsShard old state → (states : List State) × StepsInOrder state asked answers states
    × IsOrderly state asked answers states × KeepsBudget state states × IsShard new (last_of state states)
