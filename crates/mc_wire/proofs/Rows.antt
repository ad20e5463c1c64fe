-- Worked rows of the definitions, computed: words, numbers, keys and places, with the test vectors of
-- RFC 4648, section 10, and FNV-1a's published vectors.
use Rattle.std.proofs.Common.{◌≡◌, ◌^◌, [], ◌∷◌, length, map, replicate, Some, None, pos, negsuc, codes, refl}
use Rattle.base64.proofs.OnLiterals.{base64_on_literals}
use Rattle.base64.specs.Rfc4648.{encode_symbols}
use Rattle.mc_wire.specs.Words.{words_of}
use Rattle.mc_wire.specs.Number.{number_of, integer_of}
use Rattle.mc_wire.specs.Key.{key_fault, fnv_of, place_of}
use Rattle.mc_wire.specs.Base64Key.{base64_of, base64_bytes, base64_key, base64_fault}
use Rattle.mc_wire.specs.declared.error.WireError.TheVariants.{NoKey, KeyTooLong, KeyByte, NotBase64}

-- leading, trailing and repeated spaces are skipped; a tab and a carriage return part no words
words : (words_of (codes "  get  a  ") ≡ codes "get" ∷ codes "a" ∷ [])
    × (words_of (codes "mg a v t") ≡ codes "mg" ∷ codes "a" ∷ codes "v" ∷ codes "t" ∷ [])
    × (map words_of ([] ∷ codes " " ∷ codes "   " ∷ []) ≡ [] ∷ [] ∷ [] ∷ [])
    × (words_of (97 ∷ 9 ∷ 98 ∷ 32 ∷ 99 ∷ 13 ∷ 100 ∷ []) ≡ (97 ∷ 9 ∷ 98 ∷ []) ∷ (99 ∷ 13 ∷ 100 ∷ []) ∷ [])
unfolding words_of
words = (refl, refl, refl, refl)

-- 20 digits and 21, and the last number of 64 bits; and short words
numbers : (map (number_of (2 ^ 64))
    (codes "00000000000000000007" ∷ codes "000000000000000000007" ∷ codes "18446744073709551615" ∷ codes
    "18446744073709551616" ∷ codes "99999999999999999999" ∷ [])
    ≡ Some 7 ∷ None ∷ Some 18446744073709551615 ∷ None ∷ None ∷ [])
    × (map (number_of (2 ^ 64))
    (codes "0" ∷ codes "007" ∷ codes "2592000" ∷ [] ∷ codes "+1" ∷ codes "-1" ∷ codes "1x" ∷ codes " 1" ∷ [])
    ≡ Some 0 ∷ Some 7 ∷ Some 2592000 ∷ None ∷ None ∷ None ∷ None ∷ None ∷ [])
unfolding number_of
numbers = (refl, refl)

-- the ends of the signed range, on both sides; and short words
integers : (map integer_of
    (codes "9223372036854775807" ∷ codes "9223372036854775808" ∷ codes "-9223372036854775808" ∷ codes
    "-9223372036854775809" ∷ codes "-00000000000000000001" ∷ codes "-000000000000000000001" ∷ [])
    ≡ Some (pos 9223372036854775807) ∷ None ∷ Some (negsuc 9223372036854775807) ∷ None ∷ Some (negsuc 0) ∷ None ∷ [])
    × (map integer_of (codes "0" ∷ codes "-0" ∷ codes "-1" ∷ codes "12" ∷ [] ∷ codes "-" ∷ codes "--1" ∷ codes "+1" ∷
    codes "1-" ∷ [])
    ≡ Some (pos 0) ∷ Some (pos 0) ∷ Some (negsuc 0) ∷ Some (pos 12) ∷ None ∷ None ∷ None ∷ None ∷ None ∷ [])
unfolding number_of
integers = (refl, refl)

-- the longest key and a longer word, and the bytes beside those that a key may have
key_words : (map key_fault ([] ∷ replicate 1 107 ∷ replicate 250 107 ∷ replicate 251 107 ∷ [])
    ≡ Some NoKey ∷ None ∷ None ∷ Some KeyTooLong ∷ [])
    × (map key_fault (map (λ byte. 97 ∷ byte ∷ []) (0 ∷ 32 ∷ 33 ∷ 126 ∷ 127 ∷ 128 ∷ 255 ∷ []))
    ≡ Some KeyByte ∷ Some KeyByte ∷ None ∷ None ∷ Some KeyByte ∷ None ∷ None ∷ [])
key_words = (refl, refl)

-- FNV-1a: its published vectors, and the keys of one letter on two shards
hashes : (map fnv_of ([] ∷ codes "a" ∷ codes "b" ∷ codes "c" ∷ codes "d" ∷ codes "e" ∷ codes "foobar" ∷ [])
    ≡ 0x811C9DC5 ∷ 0xE40C292C ∷ 0xE70C2DE5 ∷ 0xE60C2C52 ∷ 0xE10C2473 ∷ 0xE00C22E0 ∷ 0xBF9CF968 ∷ [])
    × (map (λ key. place_of key 2) (codes "a" ∷ codes "b" ∷ codes "c" ∷ codes "d" ∷ codes "e" ∷ [])
    ≡ 0 ∷ 1 ∷ 0 ∷ 1 ∷ 0 ∷ [])
unfolding fnv_of
hashes = (refl, refl)

-- RFC 4648, section 10; and the text of the longest key, which the room of `to_base64` holds
texts : (map base64_of ([] ∷ codes "f" ∷ codes "fo" ∷ codes "foo" ∷ codes "foob" ∷ codes "fooba" ∷ codes "foobar" ∷ [])
    ≡ [] ∷ codes "Zg==" ∷ codes "Zm8=" ∷ codes "Zm9v" ∷ codes "Zm9vYg==" ∷ codes "Zm9vYmE=" ∷ codes "Zm9vYmFy" ∷ [])
    × (length (base64_of (replicate 250 255)) ≡ 336)
unfolding base64_of encode_symbols
texts = (refl, refl)

-- 186 bytes are the most: the text of 187 is longer than a key word may be
base64_keys : (map base64_key (codes "YQ==" ∷ codes "Zm9vYmFy" ∷ codes "AAEg/w==" ∷ [])
    ≡ Some (codes "a") ∷ Some (codes "foobar") ∷ Some (0 ∷ 1 ∷ 32 ∷ 255 ∷ []) ∷ [])
    × (base64_key (replicate 248 65) ≡ Some (replicate 186 0))
    × (map base64_fault (base64_of (replicate 186 7) ∷ base64_of (replicate 187 7) ∷ replicate 250 65 ∷ replicate 251 65
    ∷ []) ≡ None ∷ Some KeyTooLong ∷ Some NotBase64 ∷ Some KeyTooLong ∷ [])
unfolding base64_of base64_bytes encode_symbols base64_on_literals
base64_keys = (refl, refl, refl)

-- bits behind the last byte, padding that is missing or too much, another alphabet, a lone symbol
base64_refused : map base64_fault
    ([] ∷ codes "YR==" ∷ codes "YQ=" ∷ codes "YQ" ∷ codes "YWJj=" ∷ codes "-_==" ∷ codes "Y" ∷ codes "=" ∷ codes
    "YQ==YQ==" ∷ codes "Y Q==" ∷ [])
    ≡ Some NoKey ∷ replicate 9 (Some NotBase64)
unfolding base64_bytes base64_on_literals
base64_refused = refl
