-- The number of connections in the listen backlog, from a table of TCP sockets as Linux shows it
-- (/proc/self/net/tcp and tcp6): a line for each socket.
use Rattle.std.specs.Prelude.{ℕ, ◌≡◌, ◌+◌, ◌-◌, ◌^◌, ◌&&◌, ◌==◌, List, [], length, Option, Some, None, bytes_eq, codes}
use Rattle.std.specs.Prelude.{min, nat_eq, nat_lt, slice_get, unwrap_or, if◌then◌else◌}
use Rattle.std.specs.List.{list_all, list_any, slice_split, sum_by}
use Rattle.std.specs.Char.{digit_value}
use Rattle.std.specs.Str.Lines.{lines}
use Rattle.std.specs.Str.Parse.{digits_value, without_leading_plus}
use Rattle.mc_wire.specs.Words.{words_of}

-- the number, or 2^64 - 1 if it is greater
abbrev pub saturated : ℕ → ℕ
saturated number = min number (2 ^ 64 - 1)

-- the number below 2^64 of hexadecimal digits
abbrev pub number_of_digits : List ℕ → Option ℕ
number_of_digits digits =
    if nat_lt 0 (length digits) &&
    (list_all (λ digit. nat_lt (digit_value digit) 16) digits && nat_lt (digits_value 16 digits) (2 ^ 64))
    then Some (digits_value 16 digits) else None

-- the hexadecimal number in a text, with an optional plus sign
unfoldable pub hexadecimal : List ℕ → Option ℕ
hexadecimal text = number_of_digits (without_leading_plus text)

-- word number `place` of a line, counted from 0; empty if there is none
unfoldable pub word_at : ℕ → List ℕ → List ℕ
word_at place line = unwrap_or (slice_get (words_of line) place) []

-- the number behind the first colon of a word: the port of an address, or the receive queue in `send:receive`
unfoldable pub behind_colon : List ℕ → Option ℕ
behind_colon word = hexadecimal (unwrap_or (slice_get (slice_split (λ byte. byte == 58) word) 1) [])

-- what waits at a socket of that port, if it is one of these
abbrev pub waiting_if_at : List ℕ → Option ℕ → Option ℕ → ℕ
waiting_if_at ports None waiting = 0
waiting_if_at ports (Some at) None = 0
waiting_if_at ports (Some at) (Some waiting) = if list_any (λ port. nat_eq at port) ports then waiting else 0

-- how many wait at the socket of a line: none, unless it listens (its state, the fourth word, is 0A) at one of the
-- ports
unfoldable pub waiting_in : List ℕ → List ℕ → ℕ
waiting_in ports line =
    if bytes_eq (word_at 3 line) (codes "0A") then waiting_if_at ports (behind_colon (word_at 1 line))
    (behind_colon (word_at 4 line)) else 0

-- how many wait at all sockets of the table that listen at one of the ports
unfoldable pub waiting_at : List ℕ → List ℕ → ℕ
waiting_at ports table = saturated (sum_by (waiting_in ports) (lines table))

-- waiting is how many wait at the ports, by the two tables that were read, one of IPv4 and one of IPv6
abbrev pub AreWaiting : List ℕ → ℕ → Type 0
AreWaiting ports waiting =
    (table other : List ℕ) × (waiting ≡ saturated (waiting_at ports table + waiting_at ports other))
