-- What a shard counted and holds, by the state that it shows.
use Rattle.std.specs.Prelude.{◌==◌}
use Rattle.std.proofs.Common.{◌≡◌, ℕ, List, Option, Some, None, length, refl, ap, inl, inr}
use Rattle.std.proofs.lemmas.Bool.{cases_Bool}
use Rattle.std.specs.FinMap.{get}
use Rattle.mc_item.specs.declared.op.Op.{Op}
use Rattle.mc_item.specs.declared.op.Op.TheVariants as op
use Rattle.mc_item.specs.declared.answer.Answer.{Answer}
use Rattle.mc_item.specs.declared.answer.Answer.TheVariants.{NoMemory, Reset}
use Rattle.mc_item.specs.declared.answer.Answer.TheVariants as answer
use Rattle.mc_item.specs.declared.stats.Stats.{Stats}
use Rattle.mc_item.specs.Kind.{kind_of, is_lawful}
use Rattle.mc_item.specs.declared.op_stats.Counting.{Counting}
use Rattle.mc_item.specs.OpStats.{counted_in, counting_of, no_counts, status_of}
use Rattle.mc_store.specs.State.{State, is_dead_at, without_dead}
use Rattle.mc_store.specs.Step.{Answers, makes, noted_in, stats_of, step_of}
use Rattle.mc_store.specs.Shard.{ShardContents, Keeps}
use Rattle.mc_store.specs.internal.Listed.{listed_cost}
use Rattle.mc_store.proofs.Lists.{len-Shows}
use Rattle.mc_store.proofs.Costs.{costs_shown}
use Rattle.mc_store.proofs.Outcomes.{Ends}

-- what is held, as stats shows it
abbrev pub stats_held : ShardContents → Stats
stats_held held =
    record {
      op_stats = held.op_stats;
      evicted = held.evicted;
      items = length held.entries;
      bytes = listed_cost held.entries;
      budget = held.budget;
    }

-- `stats` shows what the shard counted and holds, and changes nothing.
pub stats_there : (held : ShardContents) (state : State) (stats : Stats) → Keeps held state → stats ≡ stats_held held
    → Ends state op.Stats (answer.Stats stats) held
unfolding Answers step_of
stats_there held state stats h is =
    let there : stats ≡ stats_of state =
    rw (
      h.op_stats,
      h.evicted,
      h.budget,
      len-Shows held.entries state.items h.order,
      costs_shown held.entries state.items h.order,
    ) is in
    (state, inr (ap (λ s. (answer.Stats s, state)) there), h)

-- `stats` that finds no memory changes nothing.
pub stats_lack : (held : ShardContents) (state : State) → Keeps held state → Ends state op.Stats NoMemory held
unfolding Answers kind_of is_lawful
stats_lack held state h = (state, inl (refl, refl, refl), h)

-- `stats reset` sets all counts to 0 and leaves the items.
pub stats_reset : (held : ShardContents) (state : State) → Keeps held state
    → Ends state op.ResetStats Reset (record held { op_stats = no_counts; evicted = 0 })
unfolding Answers step_of
stats_reset held state h = (record state { op_stats = no_counts; evicted = 0 }, inr refl, assumption)

-- one more is counted
pub noted_keeps : (held : ShardContents) (settled state : State) (asked : Op) (said : Answer) (counting : Counting)
    → counting ≡ counting_of (settled.index == 0) (makes settled asked) asked → Keeps held state →
    Keeps (record held { op_stats = counted_in held.op_stats counting (status_of said) })
    (noted_in settled state asked said)
noted_keeps held settled state asked said counting is h =
    let op_stats : counted_in state.op_stats (counting_of (settled.index == 0) (makes settled asked) asked)
    (status_of said) ≡ counted_in held.op_stats counting (status_of said) = rw (is, h.op_stats) in
    assumption

-- Where a dead item is removed, the shard stays the one that it was.
pub settled_index : (state : State) (key : Option (List ℕ)) → (without_dead state key).index ≡ state.index
settled_index state None = refl
settled_index state (Some key) = elim (cases_Bool (is_dead_at state.time (get state.items key))) [
  | inl dead ↦ rw dead refl
  | inr alive ↦ rw alive refl
]
