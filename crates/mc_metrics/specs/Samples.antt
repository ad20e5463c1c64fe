-- The samples of the last minutes.
use Rattle.std.specs.Prelude.{◌≡◌, ◌++◌, ℕ, List, [], ◌∷◌, drop, length, nat_lt, if◌then◌else◌}
use Rattle.mc_telemetry.specs.Counts.{AreTotals}
use Rattle.mc_telemetry.specs.declared.counts.Counts.{Counts}
use Rattle.mc_telemetry.specs.declared.counts.Totals.{Totals}
use Rattle.mc_metrics.specs.declared.history.TheConstants.{KEPT}

-- the samples with one appended; the oldest one is dropped if the history is full
abbrev pub with_sample : List Totals → Totals → List Totals
with_sample samples sample = (if nat_lt (length samples) KEPT then samples else drop 1 samples) ++ (sample ∷ [])

-- the values read from the counters are appended as a sample
pub record Samples {C : Type 0} (told : C → ℕ → Type 0) (counts : Counts C) (old new : List Totals) : Type 0 where
  pub sample : Totals
  pub are_totals : AreTotals told counts sample
  pub is_kept : new ≡ with_sample old sample
