-- When one log explains what was read of the lines, what they took and what the shards did.
use Rattle.std.specs.Prelude.{ℕ, ◌≡◌, ◌<◌, Bool, false, List, length, map, Some}
use Rattle.std.specs.List.{AllByRecursion, slice_get}
use Rattle.mc_wire.specs.Sink.{Sight}
use Rattle.mc_sizes.specs.Sizes.{rules_of}
use Rattle.mc_sizes.specs.declared.sizes.Sizes.{Sizes}
use Rattle.mc_conn.specs.History.{AnsweredCommand, IsAnswered, entries_of, taken_of, text_done}
use Rattle.mc_conn.specs.Due.{Ran}
use Rattle.mc_conn.specs.Due as due
use Rattle.mc_model.specs.Log.{Entry, IsLawful, of_asker, on_shard}
use Rattle.mc_model.specs.Alone.{HadMemory, alone}
use Rattle.mc_transport.specs.Story.{Story}
use Rattle.mc_transport.specs.Reads.{ReadsOwingNothing}

-- what is reported of a line that was served: what was seen of it before and after, how many commands it took, and
-- whether it failed
pub record LineFlow : Type 0 where
  pub begin : Sight
  pub now : Sight
  pub commands : ℕ
  pub broke : Bool

-- what a shard ran for a line
abbrev pub entry_of : ℕ → Ran → Entry
entry_of asker ran = record { shard = ran.shard; asker = asker; piece = ran.piece; answer = ran.answer }

-- what was run for the commands of a line's history, in their order
abbrev pub log_of : ℕ → ℕ → List AnsweredCommand → List Entry
log_of shards asker history = map (entry_of asker) (due.log_of shards history)

-- Each shard's entries are one run of the protocol's step, and each entry was asked by a line whose number is below
-- lines.
pub record IsLogOfLines (sizes : Sizes) (lines : ℕ) (log : List Entry) : Type 0 where
  pub lawful : IsLawful sizes log
  pub owned : AllByRecursion (λ entry. (entry.shard < sizes.shards) × (entry.asker < lines)) log

-- The log explains the line of this number by one history: its commands, each with its moment and answers.
pub record ExplainsLine (sizes : Sizes) (may_answer : ℕ → Type 0) (log : List Entry) (number : ℕ) (line : LineFlow) :
    Type 0 where
  pub history : List AnsweredCommand
  -- The commands are those of the bytes read, and the line took the texts of their replies.
  pub story : Story (rules_of sizes) line.begin line.now line.broke (map taken_of history) (map text_done history)
  -- It was read only where all replies to the bytes read so far were written out.
  pub reads : ReadsOwingNothing (rules_of sizes) line.begin line.now (entries_of history) (map text_done history)
  pub answered : AllByRecursion (IsAnswered sizes.shards) history
  pub moments : AllByRecursion (λ done. may_answer done.moment) history
  pub counted : line.commands ≡ length history
  -- What a shard ran for the line is just what was due there, in order, with these answers.
  pub ran : (shard : ℕ) → shard < sizes.shards → of_asker number (on_shard shard log)
      ≡ on_shard shard (log_of sizes.shards number history)

-- One log explains all these lines.
pub record Explains (sizes : Sizes) (may_answer : ℕ → Type 0) (lines : List LineFlow) : Type 0 where
  pub log : List Entry
  pub log_is : IsLogOfLines sizes (length lines) log
  pub each : (number : ℕ) (line : LineFlow) → slice_get lines number ≡ Some line
      → ExplainsLine sizes may_answer log number line

-- One log explains a line that is served by itself.
pub record IsExplained (sizes : Sizes) (may_answer : ℕ → Type 0) (line : LineFlow) : Type 0 where
  pub log : List Entry
  pub log_is : IsLogOfLines sizes 1 log
  pub explained : ExplainsLine sizes may_answer log 0 line
  -- Where no allocation failed, it took just what its commands get alone.
  pub alone_is : line.broke ≡ false → AllByRecursion HadMemory explained.history → explained.story.written
      ≡ alone sizes (map taken_of explained.history)
