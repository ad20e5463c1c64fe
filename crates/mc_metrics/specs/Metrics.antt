-- The text of the metrics in Prometheus' format.
use Rattle.std.specs.Prelude.{ℕ, List, [], ◌∷◌, ◌++◌, ◌-◌, ◌/◌, ◌%◌, codes}
use Rattle.std.specs.Fmt.{decimal}
use Rattle.std.specs.List.{concat}
use Rattle.mc_telemetry.specs.declared.counts.EndTotals.{EndTotals}
use Rattle.mc_telemetry.specs.declared.shard_counts.CommandTotals.{CommandTotals}
use Rattle.mc_telemetry.specs.declared.shard_counts.ShardTotals.{ShardTotals}
use Rattle.mc_metrics.specs.declared.reading.Reading.{Reading}
use Rattle.mc_metrics.specs.declared.text.CommandKind.{CommandKind}
use Rattle.mc_metrics.specs.declared.text.CommandKind.TheVariants.{Get, Set, Cas, Touch, Delete, Incr, Decr, Flush}
use Rattle.mc_metrics.specs.declared.text.EndReason.{EndReason}
use Rattle.mc_metrics.specs.declared.text.EndReason.TheVariants as reason
use Rattle.mc_metrics.specs.declared.text.Metric.{Metric}
use Rattle.mc_metrics.specs.declared.text.Number.{Number}
use Rattle.mc_metrics.specs.declared.text.Number.TheVariants.{Up, Uptime, LimitBytes, Shards, Seats, Open, Waiting}
use Rattle.mc_metrics.specs.declared.text.Number.TheVariants.{Accepted, Broken, Failed, Rejected, Commands, Read}
use Rattle.mc_metrics.specs.declared.text.Number.TheVariants.{Written, Items, Bytes, Evicted, Expired, TooLarge}
use Rattle.mc_metrics.specs.declared.text.Number.TheVariants.{OutOfMemory, Resident, Started, OpenFiles, MostFiles}

-- a metric of this type, with its name, its HELP text and its value: three lines, each ended by byte 10
unfoldable pub metric_text : (kind name help : List ℕ) (value : ℕ) → List ℕ
metric_text kind name help value =
    codes "# HELP " ++ (name
    ++ (codes " " ++ (help ++
    ((10 ∷ codes "# TYPE ") ++
    (name ++ (codes " " ++ (kind ++ ((10 ∷ []) ++ (name ++ (codes " " ++ (decimal value ++ (10 ∷ []))))))))))))

abbrev pub gauge_text : (name help : List ℕ) (value : ℕ) → List ℕ
gauge_text name help value = metric_text (codes "gauge") name help value

abbrev pub counter_text : (name help : List ℕ) (value : ℕ) → List ℕ
counter_text name help value = metric_text (codes "counter") name help value

-- the metrics with one sample; open connections are those accepted and not ended
abbrev pub numbers_text : Reading → List ℕ
numbers_text reading =
    concat (gauge_text (codes "memcached_up") (codes "Always 1 while the server runs.") 1
    ∷ gauge_text (codes "memcached_uptime_seconds") (codes "Seconds since the server started.") reading.uptime
    ∷ gauge_text (codes "memcached_limit_bytes") (codes "Memory budget of all items, in bytes.")
    reading.facts.limit_bytes
    ∷ gauge_text (codes "mcd_shards") (codes "Number of shards, each with a thread of its own.") reading.facts.shards
    ∷ gauge_text (codes "memcached_max_connections") (codes "Maximum number of connections served at a time.")
    reading.facts.seats
    ∷ gauge_text (codes "memcached_current_connections") (codes "Number of open connections.")
    (reading.totals.accepted - reading.totals.ended)
    ∷ gauge_text (codes "mcd_connections_waiting") (codes "Connections in the listen backlog.") reading.waiting
    ∷ counter_text (codes "memcached_connections_total") (codes "Connections accepted.") reading.totals.accepted
    ∷ counter_text (codes "mcd_connections_broken_total")
    (codes "Connections that failed or exceeded the idle timeout.") reading.totals.broken
    ∷ counter_text (codes "mcd_accepts_failed_total") (codes "Failed attempts to accept a connection.")
    reading.totals.failed
    ∷ counter_text (codes "mcd_connections_rejected_total") (codes "Connections refused because all seats were taken.")
    reading.totals.rejected
    ∷ counter_text (codes "mcd_commands_total") (codes "Commands received.") reading.totals.commands
    ∷ counter_text (codes "memcached_read_bytes_total") (codes "Bytes read from clients.") reading.totals.read
    ∷ counter_text (codes "memcached_written_bytes_total") (codes "Bytes written to clients.") reading.totals.written
    ∷ gauge_text (codes "memcached_current_items") (codes "Number of items.") reading.totals.shards.items
    ∷ gauge_text (codes "memcached_current_bytes")
    (codes "Cost of all items in bytes: key, value and 64 for each item.") reading.totals.shards.bytes
    ∷ counter_text (codes "memcached_items_evicted_total") (codes "Items evicted to make room.")
    reading.totals.shards.evicted
    ∷ counter_text (codes "mcd_items_expired_total") (codes "Expired items removed as others were stored.")
    reading.totals.shards.reclaimed
    ∷ counter_text (codes "mcd_values_too_large_total")
    (codes "Values of set and ms above the value limit, with --drop-in.") reading.totals.shards.too_large
    ∷ counter_text (codes "mcd_out_of_memory_total") (codes "Commands refused because the system had no memory.")
    reading.totals.shards.out_of_memory
    ∷ gauge_text (codes "process_resident_memory_bytes") (codes "Resident memory of the process, in bytes.")
    reading.process.resident
    ∷ gauge_text (codes "process_start_time_seconds") (codes "Start time of the process, in seconds since 1970.")
    reading.facts.started
    ∷ gauge_text (codes "process_open_fds") (codes "Number of open file descriptors of the process.")
    reading.process.open_files
    ∷ gauge_text (codes "process_max_fds") (codes "Maximum number of open file descriptors of the process.")
    reading.process.most_files
    ∷ [])

-- CPU time in seconds with two decimals, from hundredths
unfoldable pub cpu_text : ℕ → List ℕ
cpu_text hundredths =
    codes "# HELP process_cpu_seconds_total CPU time used by the process, in seconds."
    ++ ((10 ∷ codes "# TYPE process_cpu_seconds_total counter") ++ ((10 ∷ codes "process_cpu_seconds_total ")
    ++ (decimal (hundredths / 100)
    ++ (codes "." ++ (decimal (hundredths / 10 % 10) ++ (decimal (hundredths % 10) ++ (10 ∷ [])))))))

-- the number of connections that ended for this reason; 34 is the quotation mark
unfoldable pub end_text : (name : List ℕ) (count : ℕ) → List ℕ
end_text name count =
    (codes "mcd_connections_ended_total{reason=" ++ (34 ∷ []))
    ++ (name ++ ((34 ∷ codes "} ") ++ (decimal count ++ (10 ∷ []))))

-- the HELP and TYPE lines of the reasons
abbrev pub before_ends : List ℕ
before_ends =
    codes "# HELP mcd_connections_ended_total Connections closed because of an error or a limit, by reason."
    ++ ((10 ∷ codes "# TYPE mcd_connections_ended_total counter") ++ (10 ∷ []))

-- the reasons
abbrev pub ends_each : EndTotals → List ℕ
ends_each ends =
    concat (end_text (codes "binary") ends.binary
    ∷ end_text (codes "http") ends.http
    ∷ end_text (codes "tls") ends.tls
    ∷ end_text (codes "line_too_long") ends.line_too_long
    ∷ end_text (codes "idle") ends.idle
    ∷ end_text (codes "failed") ends.failed
    ∷ end_text (codes "refused_memory") ends.refused_memory
    ∷ [])

abbrev pub ends_text : EndTotals → List ℕ
ends_text ends = before_ends ++ ends_each ends

-- the number of commands of a kind with this outcome; 34 is the quotation mark
unfoldable pub status_text : (name status : List ℕ) (count : ℕ) → List ℕ
status_text name status count =
    (codes "memcached_commands_total{command=" ++ (34 ∷ []))
    ++ (name ++ ((34 ∷ codes ",status=") ++ ((34 ∷ status) ++ ((34 ∷ codes "} ") ++ (decimal count ++ (10 ∷ []))))))

abbrev pub command_text : (name : List ℕ) → CommandTotals → List ℕ
command_text name totals =
    status_text name (codes "hit") totals.hits
    ++ (status_text name (codes "miss") totals.misses ++ status_text name (codes "badval") totals.bad_values)

-- the HELP and TYPE lines of the kinds of commands
abbrev pub before_commands : List ℕ
before_commands =
    codes "# HELP memcached_commands_total Commands executed by the shards, by command and outcome."
    ++ ((10 ∷ codes "# TYPE memcached_commands_total counter") ++ (10 ∷ []))

-- the kinds of commands
abbrev pub commands_each : ShardTotals → List ℕ
commands_each totals =
    concat (command_text (codes "get") totals.get
    ∷ command_text (codes "set") totals.set
    ∷ command_text (codes "cas") totals.cas
    ∷ command_text (codes "touch") totals.touch
    ∷ command_text (codes "delete") totals.delete
    ∷ command_text (codes "incr") totals.incr
    ∷ command_text (codes "decr") totals.decr
    ∷ command_text (codes "flush") totals.flush
    ∷ [])

abbrev pub commands_text : ShardTotals → List ℕ
commands_text totals = before_commands ++ commands_each totals

-- the version is a label of a metric that is always 1; 34 is the quotation mark
abbrev pub before_version : List ℕ
before_version =
    codes "# HELP memcached_version Version of the server."
    ++ ((10 ∷ codes "# TYPE memcached_version gauge") ++ ((10 ∷ codes "memcached_version{version=") ++ (34 ∷ [])))

abbrev pub behind_version : List ℕ
behind_version = (34 ∷ codes "} 1") ++ (10 ∷ [])

abbrev pub version_text : (version : List ℕ) → List ℕ
version_text version = before_version ++ (version ++ behind_version)

abbrev pub metrics_text : Reading → List ℕ
metrics_text reading =
    version_text reading.facts.version.now
    ++ (numbers_text reading
    ++ (cpu_text reading.process.cpu ++ (ends_text reading.totals.ends ++ commands_text reading.totals.shards)))

-- the value of this name
abbrev pub number_of : Number → Reading → ℕ
number_of Up reading = 1
number_of Uptime reading = reading.uptime
number_of LimitBytes reading = reading.facts.limit_bytes
number_of Shards reading = reading.facts.shards
number_of Seats reading = reading.facts.seats
number_of Open reading = reading.totals.accepted - reading.totals.ended
number_of Waiting reading = reading.waiting
number_of Accepted reading = reading.totals.accepted
number_of Broken reading = reading.totals.broken
number_of Failed reading = reading.totals.failed
number_of Rejected reading = reading.totals.rejected
number_of Commands reading = reading.totals.commands
number_of Read reading = reading.totals.read
number_of Written reading = reading.totals.written
number_of Items reading = reading.totals.shards.items
number_of Bytes reading = reading.totals.shards.bytes
number_of Evicted reading = reading.totals.shards.evicted
number_of Expired reading = reading.totals.shards.reclaimed
number_of TooLarge reading = reading.totals.shards.too_large
number_of OutOfMemory reading = reading.totals.shards.out_of_memory
number_of Resident reading = reading.process.resident
number_of Started reading = reading.facts.started
number_of OpenFiles reading = reading.process.open_files
number_of MostFiles reading = reading.process.most_files

abbrev pub reason_name : EndReason → List ℕ
reason_name reason.Binary = codes "binary"
reason_name reason.Http = codes "http"
reason_name reason.Tls = codes "tls"
reason_name reason.LineTooLong = codes "line_too_long"
reason_name reason.Idle = codes "idle"
reason_name reason.Failed = codes "failed"
reason_name reason.RefusedMemory = codes "refused_memory"

abbrev pub reason_count : EndReason → EndTotals → ℕ
reason_count reason.Binary ends = ends.binary
reason_count reason.Http ends = ends.http
reason_count reason.Tls ends = ends.tls
reason_count reason.LineTooLong ends = ends.line_too_long
reason_count reason.Idle ends = ends.idle
reason_count reason.Failed ends = ends.failed
reason_count reason.RefusedMemory ends = ends.refused_memory

-- the text of a reason
abbrev pub ended_text : EndTotals → EndReason → List ℕ
ended_text ends reason = end_text (reason_name reason) (reason_count reason ends)

-- the text of a metric with one sample
abbrev pub told_text : Reading → Metric → List ℕ
told_text reading metric = metric_text metric.kind.now metric.name.now metric.help.now (number_of metric.number reading)

abbrev pub command_name : CommandKind → List ℕ
command_name Get = codes "get"
command_name Set = codes "set"
command_name Cas = codes "cas"
command_name Touch = codes "touch"
command_name Delete = codes "delete"
command_name Incr = codes "incr"
command_name Decr = codes "decr"
command_name Flush = codes "flush"

abbrev pub totals_of : CommandKind → ShardTotals → CommandTotals
totals_of Get shards = shards.get
totals_of Set shards = shards.set
totals_of Cas shards = shards.cas
totals_of Touch shards = shards.touch
totals_of Delete shards = shards.delete
totals_of Incr shards = shards.incr
totals_of Decr shards = shards.decr
totals_of Flush shards = shards.flush

-- the text of the samples of a kind of command
abbrev pub asked_text : ShardTotals → CommandKind → List ℕ
asked_text shards command = command_text (command_name command) (totals_of command shards)
