-- A run grows by one operation.
use Rattle.std.proofs.Common.{◌≡◌, ◌<◌, ◌≤◌, List, [], ◌∷◌, ◌++◌, refl, ◌∙◌, arith, subst}
use Rattle.std.proofs.lemmas.List.Elements.{All-push}
use Rattle.mc_item.specs.declared.answer.Answer.{Answer}
use Rattle.mc_store.specs.declared.shard.Shard.{Shard}
use Rattle.mc_store.specs.State.{State, costs}
use Rattle.mc_store.specs.Step.{IsStep}
use Rattle.mc_store.specs.Shard.{IsShard, Steps}
use Rattle.mc_store.specs.Runs.{TimedOp, StepsInOrder, last_of, KeepsBudget, RunsThrough}
use Rattle.mc_store.proofs.StepLaws.{same_place}
use Rattle.mc_store.proofs.RunLaws.{runs_are_orderly, same_budget}

runs_more : (old : State) (asked : List TimedOp) (answers : List Answer) (states : List State) (more : TimedOp)
    (answer : Answer) (new : State) → StepsInOrder old asked answers states
    → IsStep (last_of old states) more.0 more.1 answer new
    → StepsInOrder old (asked ++ more ∷ []) (answers ++ answer ∷ []) (states ++ new ∷ [])
runs_more old [] [] [] more answer new runs step = (step, tt)
runs_more old (asked ∷ rest) (other ∷ answers) (next ∷ states) more answer new runs step =
    (runs.0, runs_more next rest answers states more answer new runs.1 step)
runs_more old asked answers states more answer new runs step = absurd runs

last_more : (old : State) (states : List State) (new : State) → last_of old (states ++ new ∷ []) ≡ new
last_more old [] new = refl
last_more old (next ∷ states) new = last_more next states new

-- From whatever state the shard showed, the answers are those of a run, whose last state it shows then.
abbrev pub Ran : Shard → List TimedOp → List Answer → Shard → Type 0
Ran old asked answers new =
    (state : State) → IsShard old state → (states : List State) × StepsInOrder state asked answers states
    × KeepsBudget state states × IsShard new (last_of state states)

-- what a shard shows costs no more than its budget
fits : (shard : Shard) (state : State) → IsShard shard state → costs state.items ≤ state.budget
unfolding IsShard
fits shard state h = h.fits

some_shards : (shard : Shard) (state : State) → IsShard shard state → 0 < state.shards
unfolding IsShard
some_shards shard state h = let place = h.place in omega arith

-- A shard that ran some operations and then does one more has run them all.
pub ran_more : (old mid new : Shard) (asked : List TimedOp) (answers : List Answer) (more : TimedOp) (answer : Answer)
    → Ran old asked answers mid → Steps mid more.0 more.1 answer new
    → Ran old (asked ++ more ∷ []) (answers ++ answer ∷ []) new
ran_more old mid new asked answers more answer ran steps = λ state h.
    let before = ran state h in
    let step = steps (last_of state before.0) before.3 in
    let budget = (same_place (last_of state before.0) step.0 more.0 more.1 answer step.1).budget
    ∙ same_budget state asked answers before.0 before.1 in (
      before.0 ++ step.0 ∷ [],
      runs_more state asked answers before.0 more answer step.0 before.1 step.1,
      All-push (λ (s : State). costs s.items ≤ state.budget) before.0 step.0 before.2
          (subst (λ b. costs step.0.items ≤ b) budget (fits new step.0 step.2)),
      rw (last_more state before.0 step.0) step.2,
    )

-- Whatever a shard ran, it ran in an orderly way.
pub ran_through : (old new : Shard) (asked : List TimedOp) (answers : List Answer) → Ran old asked answers new
    → RunsThrough old asked answers new
ran_through old new asked answers ran = λ state h.
    let all = ran state h in
    (all.0, all.1, runs_are_orderly state asked answers all.0 (some_shards old state h) all.1, all.2, all.3)
