-- Keys (protocol.txt, Keys), and the shard that owns each.
use Rattle.std.specs.Prelude.{ℕ, ◌*◌, ◌%◌, ◌^◌, Bool, ◌&&◌, ◌||◌, List, length, fold, bit_xor, Option, Some, None}
use Rattle.std.specs.Prelude.{nat_lt, nat_le, if◌then◌else◌, ◌==◌}
use Rattle.std.specs.List.{list_all}
use Rattle.mc_wire.specs.Limits.{key_limit}
use Rattle.mc_wire.specs.declared.error.WireError.{WireError}
use Rattle.mc_wire.specs.declared.error.WireError.TheVariants.{NoKey, KeyTooLong, KeyByte}

-- a byte that is allowed in a key word: no control byte, no space and not 127
abbrev pub is_key_byte : ℕ → Bool
is_key_byte byte = (nat_le 33 byte && nat_le byte 126) || nat_le 128 byte

-- why a word isn't a valid key, in the order of the tests
abbrev pub key_fault : List ℕ → Option WireError
key_fault word =
    if length word == 0 then Some NoKey
    else (if nat_lt key_limit (length word) then Some KeyTooLong
    else (if list_all is_key_byte word then None else Some KeyByte))

-- one step of FNV-1a, 32 bits: xor the byte, then multiply by the prime
abbrev pub fnv_step : ℕ → ℕ → ℕ
fnv_step hash byte = (bit_xor hash byte * 16777619) % 2 ^ 32

unfoldable pub fnv_of : List ℕ → ℕ
fnv_of bytes = fold fnv_step 2166136261 bytes

-- the shard that owns a key, by the number of shards
abbrev pub place_of : List ℕ → ℕ → ℕ
place_of key shards = fnv_of key % shards
