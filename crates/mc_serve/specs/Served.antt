-- The theorem about all sources, once all threads are joined.
use Rattle.std.specs.Prelude.{ℕ, ◌≡◌, ◌<◌, List, [], ◌∷◌, length, map, Some}
use Rattle.std.specs.List.{AllByRecursion, flat_map, slice_get}
use Rattle.mc_sizes.specs.Sizes.{rules_of}
use Rattle.mc_sizes.specs.declared.sizes.Sizes.{Sizes}
use Rattle.mc_conn.specs.History.{AnsweredCommand, IsAnswered, entries_of, taken_of, text_done}
use Rattle.mc_model.specs.Log.{Entry, of_asker, on_shard}
use Rattle.mc_history.specs.declared.event.Event.{Event}
use Rattle.mc_history.specs.Lawful.{IsHistory}
use Rattle.mc_history.specs.Tokens.{Sight as Shown}
use Rattle.mc_history.specs.Worlds.{ran_in, seats_in}
use Rattle.mc_record.specs.Recorder.{seated}
use Rattle.mc_poll.specs.Zips.{Zips}
use Rattle.mc_transport.specs.Story.{Story}
use Rattle.mc_transport.specs.Reads.{ReadsOwingNothing}
use Rattle.mc_transport.specs.Explains.{IsLogOfLines, LineFlow, log_of}
use Rattle.mc_net.specs.Flow.{SourceFlow, IsDone, Passes, closed}

-- The commands, each with its moment and answers, explain what was read from the connection and what was written to it.
pub record ExplainsHistory (sizes : Sizes) (may_answer : ℕ → Type 0) (line : LineFlow)
    (history : List AnsweredCommand) : Type 0 where
  -- The commands are those of the bytes read, and the texts of their replies were written.
  pub story : Story (rules_of sizes) line.begin line.now line.broke (map taken_of history) (map text_done history)
  -- Each read came after all replies to the bytes read before it were written.
  pub reads : ReadsOwingNothing (rules_of sizes) line.begin line.now (entries_of history) (map text_done history)
  pub answered : AllByRecursion (IsAnswered sizes.shards) history
  pub moments : AllByRecursion (λ done. may_answer done.moment) history
  pub counted : line.commands ≡ length history

-- The log explains each connection of a slot by a list of commands.
pub record ExplainsSeat (sizes : Sizes) (may_answer : ℕ → Type 0) (log : List Entry) (seat : ℕ)
    (lines : List LineFlow) : Type 0 where
  pub histories : List (List AnsweredCommand)
  pub each : Zips (ExplainsHistory sizes may_answer) lines histories
  -- A shard ran for the slot exactly the operations of the first connection, then of the second, and so on.
  pub ran : (shard : ℕ) → shard < sizes.shards → of_asker seat (on_shard shard log)
      ≡ flat_map (λ history. on_shard shard (log_of sizes.shards seat history)) histories

-- One source accepted these connections and took them back, until it returned that no more will come.
pub record PassesAll (before : SourceFlow) (lines : List LineFlow) (after : SourceFlow) : Type 0 where
  pub passed : SourceFlow
  pub passes : Passes before lines passed
  pub done : IsDone passed
  pub over : after ≡ closed passed

-- Each source did so with its connections.
abbrev pub PassEach : List SourceFlow → List (List LineFlow) → List SourceFlow → Type 0
PassEach [] [] [] = Unit {0}
PassEach [] [] (after ∷ afters) = ⊥
PassEach [] (lines ∷ seats) afters = ⊥
PassEach (before ∷ befores) [] afters = ⊥
PassEach (before ∷ befores) (lines ∷ seats) [] = ⊥
PassEach (before ∷ befores) (lines ∷ seats) (after ∷ afters) =
    PassesAll before lines after × PassEach befores seats afters

-- what the shards ran in a history, each entry with its slot in place of its connection
abbrev pub log_by : List Event → List Entry
log_by events = map (seated (seats_in events)) (ran_in events)

-- The log is what the shards ran in the lawful history that the evidence shows. Its entries have slots in place of
-- connections.
pub record IsOfHistory (sizes : Sizes) (shown : Shown) (log : List Entry) : Type 0 where
  pub lawful : IsHistory sizes shown.events
  pub log_is : log ≡ log_by shown.events

-- Each source accepted its connections and took them back, until it returned that no more will come. One log, of the
-- history that the evidence shows, explains them all.
pub record ServesSources (sizes : Sizes) (may_answer : ℕ → Type 0) (before after : List SourceFlow) (shown : Shown) :
    Type 0 where
  pub seats : List (List LineFlow)
  pub back : PassEach before seats after
  pub log : List Entry
  pub log_is : IsLogOfLines sizes (length seats) log
  pub history : IsOfHistory sizes shown log
  pub each : (seat : ℕ) (lines : List LineFlow) → slice_get seats seat ≡ Some lines
      → ExplainsSeat sizes may_answer log seat lines
