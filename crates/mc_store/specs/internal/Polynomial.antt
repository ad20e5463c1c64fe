-- The hash by which a shard finds its items: a polynomial at a secret point, modulo the prime 2^61 - 1.
use Rattle.std.specs.Prelude.{ℕ, zero, suc, ◌+◌, ◌-◌, ◌*◌, ◌/◌, ◌%◌, ◌^◌, List, length, drop, slice_index, nat_le}
use Rattle.std.specs.Prelude.{nat_lt, if◌then◌else◌}
use Rattle.mc_store.specs.declared.hashing.PolynomialHasher.{PolynomialHasher}

-- a number with the same rest modulo 2^61 - 1, and smaller where the number is large
abbrev pub folded : ℕ → ℕ
folded number = number % 2 ^ 61 + number / 2 ^ 61

-- the four bytes from i on, the lowest first
unfoldable pub read_u32 : List ℕ → ℕ → ℕ
read_u32 bytes i =
    slice_index bytes i + slice_index bytes (i + 1) * 256 + slice_index bytes (i + 2) * 65536 + slice_index bytes
    (i + 3) * 16777216

-- the eight bytes from i on
unfoldable pub read_u64 : List ℕ → ℕ → ℕ
read_u64 bytes i = read_u32 bytes i + read_u32 bytes (i + 4) * 2 ^ 32

-- the last coefficient: up to seven bytes, and how many they are
unfoldable pub last : List ℕ → ℕ
last rest =
    let n = length rest in
    (if nat_le 4 n then read_u32 rest 0 + read_u32 rest (n - 4) / 256 * 2 ^ 32
    else (if nat_lt 0 n then slice_index rest 0 + slice_index rest (n / 2) * 256 + slice_index rest (n - 1) * 65536 else
    0)) + n * 2 ^ 56

-- the value after the first count coefficients of seven bytes
unfoldable pub after : ℕ → List ℕ → ℕ → ℕ → ℕ
after point bytes value zero = value
after point bytes value (suc count) =
    folded ((after point bytes value count + read_u64 bytes (7 * count) % 2 ^ 56) * point)

-- the state after `write(bytes)`
unfoldable pub write : PolynomialHasher → List ℕ → PolynomialHasher
write hasher bytes =
    let point = hasher.point % 2 ^ 60 in
    let count = (length bytes - 1) / 7 in
    record hasher { value = after point bytes (folded (hasher.value * point)) count + last (drop (7 * count) bytes) }

-- what `finish` returns
abbrev pub finish : PolynomialHasher → ℕ
finish hasher = (folded (hasher.value * (hasher.scale % 2 ^ 60)) + hasher.shift % (2 ^ 61 - 1)) % (2 ^ 61 - 1)
