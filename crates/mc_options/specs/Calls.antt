-- What the program does, each with its options.
use Rattle.std.specs.Prelude.{ℕ, ◌≡◌, ◌*◌, ◌||◌, Bool, List, [], ◌∷◌, map, Option, Some, None, Ok, Err, Result, codes}
use Rattle.std.specs.Prelude.{find, is_some, option_map, if◌then◌else◌}
use Rattle.std.specs.Option.{option_map_or, option_or}
use Rattle.clap.specs.Words.{Row, all_of, first_of}
use Rattle.mc_sizes.specs.Sizes.{AreWithin}
use Rattle.mc_sizes.specs.declared.sizes.Sizes.{Sizes}
use Rattle.mc_options.specs.declared.options.Options.{Options}
use Rattle.mc_options.specs.declared.options.Options.TheVariants.{Listen, Replay, Stdio, Version}
use Rattle.mc_options.specs.Program.{rows_in}
use Rattle.mc_options.specs.Wrong.{HasItems, NotOfReplay, NotOfStdio, NotOfTcp, Wrong}
use Rattle.mc_options.specs.Flags.{is_flag}
use Rattle.mc_options.specs.Numbers.{and_then, client_memory_by, mode_by, number_given, number_if_given, number_in}
use Rattle.mc_options.specs.Numbers.{sizes_by}

-- what the program does
pub data Call : Type 0 where
  TellsVersion : Call
  RunsSchedule : (file : List ℕ) → Call
  ServesLine : (at : Option ℕ) (sizes : Sizes) → Call
  ServesTcp :
      (places : List (List ℕ)) (path : Option (List ℕ)) (mode : ℕ) (port : List ℕ) (connections idle : Option ℕ)
      (verbose : Bool) (metrics : Option (List ℕ)) (drain : ℕ) (plan ignores : Bool) (sizes : Sizes)
      (clients : ℕ) → Call

-- the call in the code
abbrev pub call_of : Options → Call
call_of Version = TellsVersion
call_of (Replay file) = RunsSchedule file.now
call_of (Stdio at sizes) = ServesLine at sizes
call_of (Listen places path mode port connections idle verbose metrics drain plan ignores sizes clients) =
    ServesTcp (map (λ word. word.now) places.items) (option_map (λ text. text.now) path) mode port.now connections idle
    verbose (option_map (λ text. text.now) metrics) drain plan ignores sizes clients

-- the first that is given of these options with a value, or of these without one
abbrev pub first_given : (List ℕ → Option (List ℕ)) → List (List ℕ) → List (List ℕ) → Option (List ℕ)
first_given given options flags = option_or (find (λ name. is_some (given name)) options) (find (is_flag given) flags)

-- the call, if no option is given that it doesn't have
abbrev pub unless_foreign : Option (List ℕ) → (List ℕ → Wrong) → Result Call Wrong → Result Call Wrong
unless_foreign given wrong call = option_map_or (λ name. Err (wrong name)) given call

-- the options with a value that `--replay` doesn't have, and those that `--stdio` doesn't have
abbrev pub other_than_replay : List (List ℕ)
other_than_replay =
    map codes
    (
    "at"
    ∷ "listen" ∷ "shards" ∷ "seats" ∷ "bytes" ∷ "memory" ∷ "value-limit" ∷ "line-limit" ∷ "window" ∷
    "client-memory" ∷ "connections" ∷ "idle-timeout" ∷ "metrics" ∷ "drain"
    ∷ "port" ∷ "memory-limit" ∷ "udp-port" ∷ "unix-socket" ∷ "unix-mask" ∷ "user" ∷ "pidfile" ∷ []
    )

abbrev pub other_than_stdio : List (List ℕ)
other_than_stdio =
    map codes ("listen" ∷ "seats" ∷ "client-memory" ∷ "connections" ∷ "idle-timeout" ∷ "metrics" ∷ "drain" ∷ "port" ∷
    "udp-port" ∷ "unix-socket" ∷ "unix-mask" ∷ "user" ∷ "pidfile" ∷ [])

-- the schedule in the file is run, if no other option is given
abbrev pub replay_by : (List ℕ → Option (List ℕ)) → List ℕ → Result Call Wrong
replay_by given file =
    unless_foreign (first_given given other_than_replay
    (map codes ("stdio" ∷ "verbose" ∷ "drop-in" ∷ "plan" ∷ "daemon" ∷ "enable-shutdown" ∷ []))) NotOfReplay
    (Ok (RunsSchedule file))

-- one line is served over standard input and output
abbrev pub stdio_by : (List ℕ → Option (List ℕ)) → Result Call Wrong
stdio_by given =
    unless_foreign (first_given given other_than_stdio
    (map codes ("verbose" ∷ "plan" ∷ "daemon" ∷ "enable-shutdown" ∷ []))) NotOfStdio
    (and_then (number_if_given given (codes "at") 0 18446744073709551615) (λ at.
    and_then (sizes_by given 1) (λ sizes. Ok (ServesLine at sizes))))

-- where to listen, beside the path that is given: all values of `--listen`, or 127.0.0.1 if neither is given
abbrev pub places_by : Option (List ℕ) → Option (List (List ℕ)) → List (List ℕ)
places_by path (Some words) = words
places_by (Some path) None = []
places_by None None = codes "127.0.0.1" ∷ []

-- the places to listen on, from the options found
abbrev pub places_of : List Row → List (List ℕ)
places_of rows = places_by (first_of (codes "unix-socket") rows) (all_of (codes "listen") rows)

-- the default port of addresses, if no UDP port is requested
abbrev pub port_by : (List ℕ → Option (List ℕ)) → Result (List ℕ) Wrong
port_by given =
    and_then (number_if_given given (codes "udp-port") 0 0) (λ udp.
    option_map_or (λ text. and_then (number_in (codes "port") 1 65535 text) (λ number. Ok text)) (given (codes "port"))
    (Ok (codes "11211")))

-- an option of memcached is given that has no effect
abbrev pub is_one_ignored : (List ℕ → Option (List ℕ)) → Bool
is_one_ignored given =
    is_some (given (codes "user")) || (is_some (given (codes "pidfile")) || is_flag given (codes "daemon"))

-- serve connections at these addresses
abbrev pub tcp_by : (List ℕ → Option (List ℕ)) → List (List ℕ) → Result Call Wrong
tcp_by given places =
    unless_foreign (first_given given (codes "at" ∷ []) []) NotOfTcp
    (and_then (number_given given (codes "seats") 1 1024 65536) (λ seats.
    and_then (number_if_given given (codes "connections") 1 4294967295) (λ connections.
    and_then (number_if_given given (codes "idle-timeout") 1 31536000) (λ idle.
    and_then (number_given given (codes "drain") 0 5 86400) (λ drain.
    and_then (sizes_by given seats) (λ sizes.
    and_then (client_memory_by given (sizes.shards * sizes.bytes)) (λ clients.
    and_then (port_by given) (λ port.
    and_then (mode_by given) (λ mode.
    Ok
    (ServesTcp places (given (codes "unix-socket")) mode port connections idle (is_flag given (codes "verbose"))
    (given (codes "metrics")) drain (is_flag given (codes "plan")) (is_one_ignored given) sizes clients))))))))))

-- the call, or the first error
abbrev pub call_by : (List ℕ → Option (List ℕ)) → List (List ℕ) → Result Call Wrong
call_by given places =
    if is_flag given (codes "version") then Ok TellsVersion
    else if is_some (given (codes "items")) then Err HasItems
    else option_map_or (replay_by given) (given (codes "replay"))
    (if is_flag given (codes "stdio") then stdio_by given else tcp_by given places)

-- the values of the options on the command line
abbrev pub given_in : List (List ℕ) → List ℕ → Option (List ℕ)
given_in words name = first_of name (rows_in words)

-- the addresses to listen on
abbrev pub places_in : List (List ℕ) → List (List ℕ)
places_in words = places_of (rows_in words)

-- The options are those of this call.
abbrev pub SpellsOptions : (List ℕ → Option (List ℕ)) → List (List ℕ) → Options → Type 0
SpellsOptions given places options = call_by given places ≡ Ok (call_of options)

-- The sizes of the call are allowed.
abbrev pub HasAllowedSizes : Options → Type 0
HasAllowedSizes Version = Unit {0}
HasAllowedSizes (Replay file) = Unit {0}
HasAllowedSizes (Stdio at sizes) = AreWithin sizes
HasAllowedSizes (Listen places path mode port connections idle verbose metrics drain plan ignores sizes clients) =
    AreWithin sizes
