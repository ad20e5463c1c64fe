-- The report of a schedule: the world that its events lead to, line by line.
use Rattle.std.specs.Prelude.{ℕ, ◌≡◌, ◌+◌, List, [], ◌∷◌, ◌++◌, length, Result, Ok, Err, Vec}
use Rattle.std.specs.List.{flat_map}
use Rattle.std.specs.declared.alloc.Global.{Global}
use Rattle.mc_wire.specs.Sink.{BreaksOff, Sight, took}
use Rattle.mc_sizes.specs.Sizes.{AreWithin, IsFirstOut}
use Rattle.mc_sizes.specs.declared.sizes.Sizes.{Sizes}
use Rattle.mc_model.specs.World.{Link, World, empty_world}
use Rattle.mc_model.specs.Events.{Event}
use Rattle.mc_model.specs.Log.{Entry}
use Rattle.mc_model.specs.Schedule.{Schedule}
use Rattle.mc_sim.specs.Runs.{FoundMemory, done_in}
use Rattle.mc_model.specs.Headline.{handed_bytes}
use Rattle.mc_sim.specs.Stands.{line_of}
use Rattle.mc_replay.specs.Report.{connection_line, counts_line, entry_line}
use Rattle.mc_replay.specs.Schedule.{events_of}
use Rattle.mc_replay.specs.declared.schedule.Schedule as schedule
use Rattle.mc_replay.specs.declared.run.ReplayError.{ReplayError}
use Rattle.mc_replay.specs.declared.run.ReplayError.TheVariants.{Gone, Memory, Size}

-- the lines of these connections of a world, the first of which has this number
abbrev pub connection_lines : Sizes → World → ℕ → List Link → List ℕ
connection_lines sizes w number [] = []
connection_lines sizes w number (link ∷ links) =
    connection_line number link.seat (handed_bytes sizes w number link) ++ connection_lines sizes w (number + 1) links

-- the line of a piece that a shard ran
abbrev pub log_line : Entry → List ℕ
log_line entry = entry_line (line_of entry)

-- the report of a reachable world, with the numbers of events done and idle
abbrev pub report : Sizes → World → ℕ → ℕ → List ℕ
report sizes w done idle = connection_lines sizes w 0 w.links ++ (flat_map log_line w.log ++ counts_line done idle)

-- The text is the report of a world to which all of the events lead, none of which was refused memory.
pub record IsReport (sizes : Sizes) (events : List Event) (text : List ℕ) : Type 0 where
  pub w : World
  pub led : Schedule sizes events w
  pub memory : FoundMemory sizes empty_world events w led
  pub done : ℕ
  pub idle : ℕ
  pub done_is : done ≡ done_in sizes empty_world events w led
  pub all : done + idle ≡ length events
  pub text_is : text ≡ report sizes w done idle

-- For a server of valid sizes, the text is a report; otherwise the schedule is refused, or memory was.
abbrev pub GivesReport : schedule.Schedule → Result (Vec ℕ Global) ReplayError → Type 0
GivesReport plan (Ok text) = IsReport plan.sizes (events_of plan) text.items
GivesReport plan (Err (Size fault)) = IsFirstOut plan.sizes fault
GivesReport plan (Err Memory) = AreWithin plan.sizes
GivesReport plan (Err Gone) = ⊥

-- The whole report was written, or a prefix of it if the sink failed; nothing if the schedule was refused.
abbrev pub Replays : {X : Type 0} → schedule.Schedule → Result X ReplayError → Sight → Sight → Type 0
Replays plan (Ok all) old new = (text : List ℕ) × IsReport plan.sizes (events_of plan) text × (new ≡ took text old)
Replays plan (Err Gone) old new = (text : List ℕ) × IsReport plan.sizes (events_of plan) text × BreaksOff text old new
Replays plan (Err (Size fault)) old new = IsFirstOut plan.sizes fault × (new ≡ old)
Replays plan (Err Memory) old new = AreWithin plan.sizes × (new ≡ old)
