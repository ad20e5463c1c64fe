-- The first line of a replay file: sim SEATS SHARDS BYTES RING [VALUE WINDOW [LINE] [drop-in]]
use Rattle.std.specs.Prelude.{ℕ, ◌^◌, ◌&&◌, false, List, [], ◌∷◌, Option, Some, None, codes, nat_le, if◌then◌else◌}
use Rattle.std.specs.Option.{option_and_then, option_map}
use Rattle.std.specs.Str.{bytes_eq}
use Rattle.mc_wire.specs.Number.{number_of}
use Rattle.mc_wire.specs.declared.TheConstants.{DEFAULT_LINE_LIMIT, DEFAULT_VALUE_LIMIT, DROP_IN_LINE_LIMIT}
use Rattle.mc_wire.specs.declared.TheConstants.{MAX_LINE_LIMIT, MAX_VALUE_LIMIT, MIN_LINE_LIMIT, MIN_VALUE_LIMIT}
use Rattle.mc_command.specs.declared.rules.Profile.TheVariants.{DropIn, Own}
use Rattle.mc_sizes.specs.declared.TheConstants.{DEFAULT_WINDOW, MAX_BUDGET, MAX_RING, MAX_SEATS, MAX_SHARDS}
use Rattle.mc_sizes.specs.declared.TheConstants.{MAX_WINDOW, MIN, MIN_BUDGET}
use Rattle.mc_sizes.specs.declared.sizes.Sizes.{Sizes}

-- the number in a word, between the least and the most
abbrev pub number_within : ℕ → ℕ → List ℕ → Option ℕ
number_within least most word =
    option_and_then (λ number. if nat_le least number && nat_le number most then Some number else None)
    (number_of (2 ^ 64) word)

-- the sizes with the line limit in this word
abbrev pub with_line : Sizes → List ℕ → Option Sizes
with_line sizes word =
    option_map (λ line. record sizes { line = line }) (number_within MIN_LINE_LIMIT MAX_LINE_LIMIT word)

-- the sizes with the rules that these words name: a line limit, drop-in, both or neither
abbrev pub with_rules : Sizes → List (List ℕ) → Option Sizes
with_rules sizes [] = Some sizes
with_rules sizes (last ∷ []) =
    if bytes_eq last (codes "drop-in") then Some (record sizes { profile = DropIn; line = DROP_IN_LINE_LIMIT }) else
    with_line sizes last
with_rules sizes (line ∷ last ∷ []) =
    if bytes_eq last (codes "drop-in") then with_line (record sizes { profile = DropIn }) line else None
with_rules sizes words = None

-- the sizes with the limits in these words: none, or a value limit and a window, optionally followed by the
-- rules
abbrev pub with_limits : Sizes → List (List ℕ) → Option Sizes
with_limits sizes [] = Some sizes
with_limits sizes (value ∷ []) = None
with_limits sizes (value ∷ window ∷ rules) =
    option_and_then (λ value.
    option_and_then (λ window. with_rules (record sizes { value = value; window = window }) rules)
    (number_within MIN MAX_WINDOW window))
    (number_within MIN_VALUE_LIMIT MAX_VALUE_LIMIT value)

-- the sizes with these counts, and with the limits in the words behind them
abbrev pub sizes_of : List ℕ → List ℕ → List ℕ → List ℕ → List (List ℕ) → Option Sizes
sizes_of seats shards bytes ring limits =
    option_and_then (λ seats.
    option_and_then (λ shards.
    option_and_then (λ bytes.
    option_and_then (λ ring.
    with_limits (record {
      profile = Own;
      seats = seats;
      shards = shards;
      bytes = bytes;
      ring = ring;
      value = DEFAULT_VALUE_LIMIT;
      line = DEFAULT_LINE_LIMIT;
      window = DEFAULT_WINDOW;
      shutdown = false;
    }) limits)
    (number_within MIN MAX_RING ring))
    (number_within MIN_BUDGET MAX_BUDGET bytes))
    (number_within MIN MAX_SHARDS shards))
    (number_within MIN MAX_SEATS seats)

-- the sizes in the words of a header
abbrev pub header_of : List (List ℕ) → Option Sizes
header_of (name ∷ seats ∷ shards ∷ bytes ∷ ring ∷ limits) =
    if bytes_eq name (codes "sim") then sizes_of seats shards bytes ring limits else None
header_of words = None
