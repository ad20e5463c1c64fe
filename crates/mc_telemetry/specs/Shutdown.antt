-- The shutdown stage, of which only the returned values are known.
use Rattle.std.specs.Prelude.{ℕ, ◌≡◌, ◌≤◌, ◌↔◌, Bool, false, Option, Some, None, IsTrue, option_map}
use Rattle.std.specs.Arc.{arc_value}
use Rattle.mc_telemetry.specs.declared.shutdown.Drain.{Drain}
use Rattle.mc_telemetry.specs.declared.shutdown.Shutdown.{Shutdown}

-- the counter of the stage
abbrev pub stage_of : {C : Type 0} → Shutdown C → C
stage_of shutdown = (arc_value shutdown.progress).stage

-- the counter of requests by clients
abbrev pub request_of : {C : Type 0} → Shutdown C → C
request_of shutdown = (arc_value shutdown.progress).request

-- the shared stage, if the server may be asked to end
abbrev pub drain_stage : {C : Type 0} → Option (Drain C) → Option C
drain_stage drain = option_map (λ one. stage_of one.shutdown) drain

module _ {C : Type 0} (told : C → ℕ → Type 0) where
  -- whether the stage that was read is this one or a later one
  pub record IsPast (least : ℕ) (shutdown : Shutdown C) (answer : Bool) : Type 0 where
    pub stage : ℕ
    pub is_told : told (stage_of shutdown) stage
    pub past : IsTrue answer ↔ (least ≤ stage)

  -- whether the stage is reached, if the server may be asked to end; else `false`
  abbrev pub MayBePast : ℕ → Option (Shutdown C) → Bool → Type 0
  MayBePast least None answer = answer ≡ false
  MayBePast least (Some shutdown) answer = IsPast least shutdown answer

  -- whether the counter of requests that was read is past 0
  pub record IsRequested (shutdown : Shutdown C) (answer : Bool) : Type 0 where
    pub count : ℕ
    pub is_told : told (request_of shutdown) count
    pub past : IsTrue answer ↔ (1 ≤ count)
