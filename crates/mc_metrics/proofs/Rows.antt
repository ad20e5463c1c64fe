-- Worked rows of the definitions of what waits and of amounts, computed.
use Rattle.std.proofs.Common.{◌≡◌, ◌-◌, ◌^◌, ◌++◌, ℕ, List, [], ◌∷◌, map, Some, None, codes, refl}
use Rattle.mc_wire.specs.Words.{words_of}
use Rattle.std.specs.Fmt.{digits}
use Rattle.mc_metrics.specs.Amounts.{bytes_text, digits_of, duration_text, group_text, grouped, percent_of, tenths_text}
use Rattle.mc_metrics.specs.Backlog.{behind_colon, hexadecimal, waiting_at, waiting_in, word_at}

-- lines as the system writes them: the heading, a socket that listens at port 11211 of 127.0.0.1 with 3 who
-- wait, one that listens at port 22 of any address with 26, and a connection at port 11211 of which 7 bytes
-- are to be read
abbrev heading : List ℕ
heading =
    codes "  sl  local_address rem_address   st tx_queue rx_queue tr tm->when retrnsmt   uid  timeout inode                                                     "

abbrev listening : List ℕ
listening =
    codes "   0: 0100007F:2BCB 00000000:0000 0A 00000000:00000003 00:00000000 00000000     0        0 20742 1 0000000000000000 100 0 0 10 0                     "

abbrev other : List ℕ
other =
    codes "   1: 00000000:0016 00000000:0000 0A 00000000:0000001A 00:00000000 00000000     0        0 18013 1 0000000000000000 100 0 0 10 0                     "

abbrev connected : List ℕ
connected =
    codes "   2: 0100007F:2BCB 0100007F:D431 01 00000005:00000007 00:00000000 00000000  1000        0 20744 1 0000000000000000 20 4 30 10 -1                    "

-- a socket of IPv6, at port 11211 of any address, with a backlog of 2
abbrev listening_six : List ℕ
listening_six =
    codes "   0: 00000000000000000000000000000000:2BCB 00000000000000000000000000000000:0000 0A 00000000:00000002 00:00000000 00000000     0        0 20750 1 0000000000000000 100 0 0 10 0"

abbrev table : List ℕ
table = heading ++ (10 ∷ listening ++ (10 ∷ other ++ (10 ∷ connected ++ (10 ∷ []))))

words : (word_at 1 listening ≡ codes "0100007F:2BCB") × (word_at 3 listening ≡ codes "0A")
    × (word_at 4 listening ≡ codes "00000000:00000003") × (word_at 3 connected ≡ codes "01")
    × (word_at 3 heading ≡ codes "st") × (word_at 99 listening ≡ []) × (word_at 0 [] ≡ [])
unfolding word_at words_of
words = (refl, refl, refl, refl, refl, refl, refl)

numbers : map hexadecimal
    (codes "0A" ∷ codes "ff" ∷ codes "00000003" ∷ codes "FFFFFFFFFFFFFFFF" ∷ codes "10000000000000000" ∷ codes "" ∷
    codes "0G" ∷ codes "-1" ∷ codes "+1" ∷ [])
    ≡ Some 10 ∷ Some 255 ∷ Some 3 ∷ Some (2 ^ 64 - 1) ∷ None ∷ None ∷ None ∷ None ∷ Some 1 ∷ []
unfolding hexadecimal
numbers = refl

behind_colons : map behind_colon
    (codes "0100007F:2BCB" ∷ codes "00000005:00000007" ∷ codes "2BCB" ∷ codes "0100007F:" ∷ codes ":16:17" ∷ [])
    ≡ Some 11211 ∷ Some 7 ∷ None ∷ None ∷ Some 22 ∷ []
unfolding behind_colon hexadecimal
behind_colons = refl

-- by port: what listens there alone is counted, and a socket of IPv6 as one of IPv4
lines_by_port : (map (waiting_in (11211 ∷ [])) (heading ∷ listening ∷ other ∷ connected ∷ listening_six ∷ [])
    ≡ 0 ∷ 3 ∷ 0 ∷ 0 ∷ 2 ∷ [])
    × (map (waiting_in (22 ∷ [])) (heading ∷ listening ∷ other ∷ connected ∷ listening_six ∷ [])
    ≡ 0 ∷ 0 ∷ 26 ∷ 0 ∷ 0 ∷ [])
unfolding waiting_in word_at words_of behind_colon hexadecimal
lines_by_port = (refl, refl)

tables : (map (λ ports. waiting_at ports table)
    ((11211 ∷ []) ∷ (22 ∷ []) ∷ (80 ∷ []) ∷ (0 ∷ []) ∷ [] ∷ (22 ∷ 11211 ∷ 11211 ∷ []) ∷ [])
    ≡ 3 ∷ 26 ∷ 0 ∷ 0 ∷ 0 ∷ 29 ∷ []) × (waiting_at (11211 ∷ []) [] ≡ 0) × (waiting_at (11211 ∷ []) heading ≡ 0)
unfolding waiting_at waiting_in word_at words_of behind_colon hexadecimal
tables = (refl, refl, refl)

-- two sockets at one port, of which the sum has more than 64 bits
abbrev great : List ℕ
great = codes "0: 00:16 00:00 0A 00:FFFFFFFFFFFFFFFF"

sums : (waiting_at (22 ∷ []) (other ++ (10 ∷ other)) ≡ 52) × (waiting_at (22 ∷ []) great ≡ 2 ^ 64 - 1)
    × (waiting_at (22 ∷ []) (great ++ (10 ∷ other)) ≡ 2 ^ 64 - 1)
unfolding waiting_at waiting_in word_at words_of behind_colon hexadecimal
sums = (refl, refl, refl)

-- lines that don't read count nothing: no number of those who wait, no port, a line that is cut
unreadable : map (waiting_in (22 ∷ []))
    (codes "0: 00:16 00:00 0A 00:zz" ∷ codes "0: 0016 00:00 0A 00:1" ∷ codes "0: 00:16 00:00 0A" ∷ codes "0: 00:16" ∷
    []) ≡ 0 ∷ 0 ∷ 0 ∷ 0 ∷ []
unfolding waiting_in word_at words_of behind_colon hexadecimal
unreadable = refl

-- numbers with their separators, up to the greatest one of 64 bits
groups : map grouped (0 ∷ 999 ∷ 1000 ∷ 12345 ∷ 1002003 ∷ (2 ^ 64 - 1) ∷ [])
    ≡ codes "0" ∷ codes "999" ∷ codes "1,000" ∷ codes "12,345" ∷ codes "1,002,003" ∷ codes "18,446,744,073,709,551,615"
    ∷ []
unfolding group_text digits_of digits
groups = refl

-- bytes in the unit that suits them, rounded down
sizes : map bytes_text (0 ∷ 1023 ∷ 1024 ∷ 1048575 ∷ 1048576 ∷ 2222100 ∷ 67108864 ∷ 2 ^ 40 ∷ [])
    ≡ codes "0 bytes" ∷ codes "1,023 bytes" ∷ codes "1.0 KiB" ∷ codes "1,023.9 KiB" ∷ codes "1.0 MiB" ∷ codes "2.1 MiB"
    ∷ codes "64.0 MiB" ∷ codes "1,024.0 GiB" ∷ []
unfolding tenths_text group_text digits_of digits
sizes = refl

times : map duration_text (0 ∷ 59 ∷ 60 ∷ 3599 ∷ 3600 ∷ 86399 ∷ 90061 ∷ [])
    ≡ codes "0 s" ∷ codes "59 s" ∷ codes "1 min 0 s" ∷ codes "59 min 59 s" ∷ codes "1 h 0 min" ∷ codes "23 h 59 min" ∷
    codes "1 d 1 h" ∷ []
unfolding digits
times = refl

shares : (percent_of 0 0 ≡ None) × (percent_of 0 9 ≡ Some 0) × (percent_of 9 0 ≡ Some 100) × (percent_of 2 1 ≡ Some 66)
    × (percent_of (2 ^ 64 - 1) (2 ^ 64 - 1) ≡ Some 50)
shares = (refl, refl, refl, refl, refl)
