-- The content of a replay file: its header, then one event per line; or the number of its first invalid line.
use Rattle.std.specs.Prelude.{ℕ, ◌≡◌, ◌+◌, List, [], ◌∷◌, ◌++◌, length, map, drop, Option, Some, None, MatchOption}
use Rattle.std.specs.Prelude.{Result, Ok, Err, Vec}
use Rattle.std.specs.declared.alloc.Global.{Global}
use Rattle.mc_sizes.specs.declared.sizes.Sizes.{Sizes}
use Rattle.mc_model.specs.Events.{Event}
use Rattle.mc_sim.specs.Asked.{event_of as shown}
use Rattle.mc_model.specs.declared.event.Event as code
use Rattle.mc_replay.specs.Text.{lines_of, words_in}
use Rattle.mc_replay.specs.Header.{header_of}
use Rattle.mc_replay.specs.Event.{event_of}
use Rattle.mc_replay.specs.declared.schedule.Schedule as schedule
use Rattle.mc_replay.specs.declared.schedule.ScheduleError.{ScheduleError}
use Rattle.mc_replay.specs.declared.schedule.ScheduleError.TheVariants.{Bad, Memory}

-- the events of a schedule
abbrev pub events_of : schedule.Schedule → List Event
events_of plan = map shown plan.events.items

-- the header on the first of these lines
abbrev pub header_in : List (List ℕ) → Option Sizes
header_in [] = None
header_in (line ∷ lines) = header_of (words_in line)

-- the event on each of these lines
abbrev pub events_in : Sizes → List (List ℕ) → List (Option Event)
events_in sizes lines = map (λ line. event_of sizes (words_in line)) lines

-- The line of this number is the first that is no event: the lines from 2 up to it are these events.
pub record IsFirstBad (sizes : Sizes) (lines : List (List ℕ)) (number : ℕ) : Type 0 where
  pub before : List Event
  pub behind : List (Option Event)
  pub spelled : events_in sizes lines ≡ map Some before ++ None ∷ behind
  pub number_is : number ≡ length before + 2

-- The result is the events of the lines behind the header, or the first invalid line, unless memory was
-- refused.
abbrev pub SpellsEvents : Sizes → List (List ℕ) → Result (Vec code.Event Global) ScheduleError → Type 0
SpellsEvents sizes lines (Ok events) = events_in sizes lines ≡ map Some (map shown events.items)
SpellsEvents sizes lines (Err (Bad number)) = IsFirstBad sizes lines number
SpellsEvents sizes lines (Err Memory) = Unit {0}

-- The result is the schedule in the file, or its first invalid line, unless memory was refused.
abbrev pub SpellsSchedule : List ℕ → Result schedule.Schedule ScheduleError → Type 0
SpellsSchedule text (Ok plan) =
    (header_in (lines_of text) ≡ Some plan.sizes)
    × (events_in plan.sizes (drop 1 (lines_of text)) ≡ map Some (events_of plan))
SpellsSchedule text (Err (Bad number)) =
    MatchOption (header_in (lines_of text)) (number ≡ 1) (λ sizes. IsFirstBad sizes (drop 1 (lines_of text)) number)
SpellsSchedule text (Err Memory) = Unit {0}
