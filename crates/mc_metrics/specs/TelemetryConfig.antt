-- Telemetry as the operator's options request it.
use Rattle.std.specs.Prelude.{ℕ, ◌≡◌, ◌+◌, ◌-◌, ◌^◌, ◌||◌, Bool, IfSome, Option, Some, None, is_some, length, min}
use Rattle.std.specs.Prelude.{option_map, if◌then◌else◌}
use Rattle.mc_command.specs.Rules.{is_drop_in}
use Rattle.mc_sizes.specs.Sizes.{rules_of}
use Rattle.mc_sizes.specs.declared.sizes.Sizes.{Sizes}
use Rattle.mc_telemetry.specs.Counts.{shard_count, threads_of}
use Rattle.mc_telemetry.specs.declared.counter.Counter.{Counter}
use Rattle.mc_telemetry.specs.declared.counts.Counts.{Counts}
use Rattle.mc_telemetry.specs.declared.telemetry.Telemetry.{Telemetry}
use Rattle.mc_metrics.specs.declared.telemetry.TelemetryConfig.{TelemetryConfig}

-- the number of reporters if connections are logged: one for each slot, and one for the accepting thread
abbrev pub reporter_count : Bool → ℕ → ℕ
reporter_count is_told seats = if is_told then min (seats + 1) (2 ^ 64 - 1) else 0

-- Each shard's thread has counters if metrics are served, and by memcached's rules, whose `stats` shows some of them.
-- If metrics are served, each shard publishes its contents and statistics. No clause states that these are the counters
-- that are served, since contracts can't distinguish one `Counter` from another.
pub record AreCounted (has_metrics : Bool) (sizes : Sizes) (counts : Option (Counts Counter)) : Type 0 where
  pub threads : option_map (λ all. length (threads_of all)) counts
      ≡ (if has_metrics || is_drop_in (rules_of sizes) then Some sizes.shards else None)
  pub shards : option_map (λ all. shard_count all) counts
      ≡ (if has_metrics then Some sizes.shards else if is_drop_in (rules_of sizes) then Some 0 else None)

-- A server of these sizes has the requested telemetry.
pub record AreFollowed (telemetry_config : TelemetryConfig) (sizes : Sizes) (telemetry : Telemetry Counter) : Type 0
  where
    -- Connections have the requested idle timeout, or none.
    pub idle : option_map (λ idle_limit. idle_limit.limit) telemetry.idle_limit ≡ telemetry_config.idle_timeout
    -- Connections are logged, or not.
    pub told : length telemetry.reporters.items ≡ reporter_count telemetry_config.verbose sizes.seats
    pub counted : AreCounted (is_some telemetry_config.metrics) sizes telemetry.counts
    -- If a signal or a client may end the server, its connections have the requested time for it.
    pub drained : IfSome telemetry.drain (λ drain. drain.limit ≡ telemetry_config.drain)
