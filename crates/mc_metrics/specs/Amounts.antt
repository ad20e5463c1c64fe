-- Numbers for people.
use Rattle.std.specs.Prelude.{ℕ, ◌+◌, ◌*◌, ◌/◌, ◌%◌, ◌^◌, ◌||◌, List, [], ◌∷◌, ◌++◌, Option, Some, None, codes}
use Rattle.std.specs.Prelude.{flat_map, nat_eq, nat_lt, if◌then◌else◌}
use Rattle.std.specs.Fmt.{decimal}
use Rattle.mc_metrics.specs.declared.amounts.Unit.{Unit}
use Rattle.mc_metrics.specs.declared.amounts.Unit.TheVariants.{Number, NumberPerSecond, Bytes, BytesPerSecond, Percent}

-- the last three digits of a number, or all of them if it has fewer
unfoldable pub digits_of : ℕ → List ℕ
digits_of number =
    if nat_lt number 1000 then decimal number
    else decimal (number / 100 % 10) ++ (decimal (number / 10 % 10) ++ decimal (number % 10))

-- the digit group of a power of a thousand with a comma; nothing if the number is less than the power
unfoldable pub group_text : (number power : ℕ) → List ℕ
group_text number power = if nat_eq power 0 || nat_lt number power then [] else digits_of (number / power) ++ codes ","

-- the digits of a number below 2^64, with thousands separators
abbrev pub grouped : ℕ → List ℕ
grouped number =
    flat_map (group_text number)
    (1000000000000000000 ∷ 1000000000000000 ∷ 1000000000000 ∷ 1000000000 ∷ 1000000 ∷ 1000 ∷ []) ++ digits_of number

-- a number with one decimal and its unit
unfoldable pub tenths_text : (whole tenths : ℕ) (unit : List ℕ) → List ℕ
tenths_text whole tenths unit = grouped whole ++ (codes "." ++ (decimal tenths ++ unit))

-- bytes in units of this size, rounded down to a tenth
abbrev pub in_unit : (bytes size : ℕ) (unit : List ℕ) → List ℕ
in_unit bytes size unit = tenths_text (bytes / size) (bytes % size * 10 / size) unit

abbrev pub bytes_text : ℕ → List ℕ
bytes_text bytes =
    if nat_lt bytes (2 ^ 10) then grouped bytes ++ codes " bytes"
    else if nat_lt bytes (2 ^ 20) then in_unit bytes (2 ^ 10) (codes " KiB")
    else if nat_lt bytes (2 ^ 30) then in_unit bytes (2 ^ 20) (codes " MiB")
    else in_unit bytes (2 ^ 30) (codes " GiB")

abbrev pub amount_text : Unit → ℕ → List ℕ
amount_text Number amount = grouped amount
amount_text NumberPerSecond amount = grouped amount ++ codes "/s"
amount_text Bytes amount = bytes_text amount
amount_text BytesPerSecond amount = bytes_text amount ++ codes "/s"
amount_text Percent amount = decimal amount ++ codes "%"

-- two numbers with their units
abbrev pub pair_text : (first : ℕ) (unit : List ℕ) (second : ℕ) (other : List ℕ) → List ℕ
pair_text first unit second other = decimal first ++ (unit ++ (decimal second ++ other))

-- a duration in seconds, in its two largest units
abbrev pub duration_text : ℕ → List ℕ
duration_text seconds =
    if nat_lt seconds 60 then decimal seconds ++ codes " s"
    else if nat_lt seconds 3600 then pair_text (seconds % 3600 / 60) (codes " min ") (seconds % 60) (codes " s")
    else if nat_lt seconds 86400 then pair_text (seconds % 86400 / 3600) (codes " h ") (seconds % 3600 / 60)
    (codes " min")
    else pair_text (seconds / 86400) (codes " d ") (seconds % 86400 / 3600) (codes " h")

-- the hit ratio in percent, rounded down, if there was anything
abbrev pub percent_of : (hits misses : ℕ) → Option ℕ
percent_of hits misses = if nat_eq (hits + misses) 0 then None else Some (hits * 100 / (hits + misses))
