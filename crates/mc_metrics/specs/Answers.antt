-- Answers to HTTP requests.
use Rattle.std.specs.Prelude.{ℕ, ◌≡◌, ◌||◌, ◌++◌, Bool, true, List, [], ◌∷◌, bytes_eq, codes, if◌then◌else◌}
use Rattle.mc_telemetry.specs.Counts.{AreTotals, EachIsShown, shards_of}
use Rattle.mc_telemetry.specs.declared.counts.Counts.{Counts}
use Rattle.mc_telemetry.specs.declared.counts.Totals.{Totals}
use Rattle.mc_telemetry.specs.declared.shard_counts.ShardTotals.{ShardTotals}
use Rattle.mc_metrics.specs.declared.pages.Target.{Target}
use Rattle.mc_metrics.specs.declared.process.Process.{Process}
use Rattle.mc_metrics.specs.declared.pages.Target.TheVariants.{Metrics, Health, Page, Nothing}
use Rattle.mc_metrics.specs.declared.reading.Facts.{Facts}
use Rattle.mc_metrics.specs.Backlog.{AreWaiting}
use Rattle.mc_metrics.specs.Metrics.{metrics_text}
use Rattle.mc_metrics.specs.Shards.{shards_text}
use Rattle.http.specs.declared.request.Request.{Request}
use Rattle.http.specs.Request.{head_of}
use Rattle.http_uri.specs.Uri.{uri_path}
use Rattle.http_server.specs.declared.response.Response.{Response}

-- the resource at a path
abbrev pub target_of : List ℕ → Target
target_of path =
    if bytes_eq path (codes "/metrics") then Metrics
    else if bytes_eq path (codes "/healthz") then Health
    else if bytes_eq path (codes "/") then Page else Nothing

-- the request only reads
abbrev pub is_read : List ℕ → Bool
is_read method = bytes_eq method (codes "GET") || bytes_eq method (codes "HEAD")

abbrev pub status_at : Target → ℕ
status_at Metrics = 200
status_at Health = 200
status_at Page = 200
status_at Nothing = 404

-- the HTTP status for a method and a path
abbrev pub status_of : List ℕ → List ℕ → ℕ
status_of method path = if is_read method then status_at (target_of path) else 405

module _ {C : Type 0} (told : C → ℕ → Type 0) where
  -- the metrics of a server with this configuration, these counters and this uptime in seconds. Values are
  -- those read from the counters; the backlog is by the tables that were read, and the process's resources
  -- are as the system reports them.
  abbrev pub AreMetrics : Facts → Counts C → ℕ → List ℕ → Type 0
  AreMetrics facts counts uptime text =
      (totals : Totals) × (waiting : ℕ) × (process : Process) × AreTotals told counts totals
      × AreWaiting facts.ports.now waiting
      × (text ≡ metrics_text (record {
        facts = facts;
        totals = totals;
        waiting = waiting;
        uptime = uptime;
        process = process;
      }))

  -- the text of the resource: the metrics, followed by those of each shard from its own counters. No clause
  -- describes the page.
  abbrev pub IsTextAt : Target → Facts → Counts C → ℕ → List ℕ → Type 0
  IsTextAt Metrics facts counts uptime text =
      (metrics : List ℕ) × (shards : List ShardTotals) × AreMetrics facts counts uptime metrics
      × EachIsShown told (shards_of counts) shards × (text ≡ metrics ++ shards_text shards)
  IsTextAt Health facts counts uptime text = text ≡ codes "ok" ++ (10 ∷ [])
  IsTextAt Page facts counts uptime text = Unit {0}
  IsTextAt Nothing facts counts uptime text = text ≡ codes "not found: see /, /metrics and /healthz" ++ (10 ∷ [])

  -- the response to a request, of a server with this configuration and these counters that has run for uptime
  -- seconds
  pub record IsAnswer (facts : Facts) (counts : Counts C) (uptime : ℕ) (request : Request (List ℕ))
      (response : Response) : Type 0 where
    pub status : response.status ≡ status_of (head_of request).method (uri_path (head_of request).uri)
    pub text : is_read (head_of request).method ≡ true
        → IsTextAt (target_of (uri_path (head_of request).uri)) facts counts uptime response.body.items
