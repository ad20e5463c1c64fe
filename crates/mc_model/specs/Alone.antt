-- The replies to a connection whose commands are run alone: each command's pieces at once, in order, by the
-- protocol's step, without refused memory.
use Rattle.std.specs.Prelude.{ℕ, ◌≡◌, ◌≢◌, ◌==◌, false, List, [], ◌∷◌, ◌++◌, if◌then◌else◌}
use Rattle.std.specs.List.{AllByRecursion}
use Rattle.mc_sizes.specs.declared.sizes.Sizes.{Sizes}
use Rattle.mc_item.specs.declared.op.Op.{Op}
use Rattle.mc_item.specs.declared.answer.Answer.{Answer}
use Rattle.mc_item.specs.declared.answer.Answer.TheVariants.{NoMemory}
use Rattle.mc_item.specs.Kind.{key_of}
use Rattle.mc_split.specs.Pieces.{ShardOp, pieces_of}
use Rattle.mc_reply.specs.Text.{text_of}
use Rattle.mc_store.specs.State.{State, settle}
use Rattle.mc_store.specs.Step.{Outcome, noted_in, step_of}
use Rattle.mc_conn.specs.History.{AnsweredCommand, Taken}
use Rattle.mc_model.specs.Sized.{empty_shard}
use Rattle.mc_model.specs.World.{Link, World}

-- the state of each shard, by its index
abbrev pub States : Type 0
States = ℕ → State

abbrev pub empty_shards : Sizes → States
empty_shards sizes = λ index. empty_shard sizes index

abbrev pub with_state : States → ℕ → State → States
with_state states shard state = λ index. if shard == index then state else states index

-- the answer of a shard at this time without refused memory, and its state then, in which the operation is
-- counted
abbrev pub outcome_at : State → Op → ℕ → Outcome
outcome_at state op moment =
    let settled = settle state (key_of op) moment in
    let outcome = step_of settled op in
    (outcome.0, noted_in settled outcome.1 op outcome.0)

-- answers, and the states after them
pub record Ended : Type 0 where
  pub answers : List Answer
  pub states : States

-- the answers to these pieces, run one after another at this time
abbrev pub ended : States → ℕ → List ShardOp → Ended
ended states moment [] = record { answers = []; states = states }
ended states moment (asked ∷ pieces) =
    let outcome = outcome_at (states asked.shard) asked.op moment in
    let rest = ended (with_state states asked.shard outcome.1) moment pieces in
    record { answers = outcome.0 ∷ rest.answers; states = rest.states }

-- the replies to these commands, from these states on
abbrev pub alone_from : ℕ → States → List Taken → List ℕ
alone_from shards states [] = []
alone_from shards states (taken ∷ later) =
    let now = ended states taken.moment (pieces_of shards taken.entry) in
    text_of taken.server taken.entry now.answers ++ alone_from shards now.states later

-- the replies to these commands, from empty shards on
abbrev pub alone : Sizes → List Taken → List ℕ
alone sizes commands = alone_from sizes.shards (empty_shards sizes) commands

-- The shards ran nothing for other connections, and no memory was refused.
pub record IsAlone (w : World) (k : ℕ) (link : Link) : Type 0 where
  pub mine : AllByRecursion (λ entry. entry.asker ≡ k) w.log
  pub kept : AllByRecursion (λ one. one.given_up ≡ false) link.taken
  pub had : AllByRecursion (λ entry. entry.answer ≢ NoMemory) w.log

-- The command was not given up, and no shard was refused memory for it.
pub record HadMemory (done : AnsweredCommand) : Type 0 where
  pub kept : done.given_up ≡ false
  pub answered : AllByRecursion (λ answer. answer ≢ NoMemory) done.answers
