-- Hashes of texts under known words, each computed by the definition. The values are another program's, which computes
-- with numbers of any length.
use Rattle.std.proofs.Common.{◌≡◌, ℕ}
use Rattle.std.specs.Prelude.{List, codes, replicate}
use Rattle.mc_store.specs.internal.Polynomial.{after, finish, last, read_u32, read_u64, write}

-- the hash of a text under the words fedcba9876543210, 0123456789abcdef and deadbeefcafef00d
abbrev hash_of : List ℕ → ℕ
hash_of text =
    finish (write (record {
      value = 1;
      point = 18364758544493064720;
      scale = 81985529216486895;
      shift = 16045690984503111693;
    }) text)

record KnownHashes : Type 0 where
  no_byte : hash_of (codes "") ≡ 1255342097542065812
  one_byte : hash_of (codes "a") ≡ 1754621160224922099
  two_bytes : hash_of (codes "ab") ≡ 1157343769643806854
  three_bytes : hash_of (codes "abc") ≡ 324357982565292048
  four_bytes : hash_of (codes "abcd") ≡ 1952421188307552071
  seven_bytes : hash_of (codes "abcdefg") ≡ 1328004929812545870
  eight_bytes : hash_of (codes "abcdefgh") ≡ 2264600395785449069
  a_key : hash_of (codes "key:0000000000000000000000007919") ≡ 129797022982537116
  -- the longest key, of the greatest bytes
  longest_key : hash_of (replicate 250 255) ≡ 1116742662089223908

all_known : KnownHashes
unfolding write after last read_u64 read_u32
all_known = assumption
