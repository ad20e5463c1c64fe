-- The result of decoding a base64 key word.
use Rattle.std.proofs.Common.{◌≡◌, ℕ, ◌<◌, ◌≤◌, ◌+◌, ◌-◌, ◌*◌, ◌/◌, ◌%◌, true, false, cond, Result, List, [], ◌∷◌}
use Rattle.std.proofs.Common.{length, Some, None, Ok, Err, is_some, nat_lt, nat_eq, refl, sym, ap, ◌∙◌, arith}
use Rattle.std.proofs.Common.{length-append}
use Rattle.std.proofs.lemmas.List.{length-replicate}
use Rattle.std.proofs.lemmas.Bool.Decides.{nat_tests}
use Rattle.base64.specs.Engines.{standard}
use Rattle.base64.specs.Rfc4648.{encoded_size}
use Rattle.base64.specs.GeneralPurpose.{IsBytes, IsStrict, IsConsistent, decode_of, decoded_of}
use Rattle.base64.specs.declared.decode.DecodeError.{DecodeError}
use Rattle.base64.proofs.RoundTrip.{length-encode_symbols}
use Rattle.base64.proofs.EngineFacts.{decode_of_strict, decode_of-encode_of, encode_of-nil}
use Rattle.std.specs.Result.{result_ok}
use Rattle.mc_wire.proofs.Base64Octets.{decoded_octets}
use Rattle.mc_wire.specs.Base64Key.{Base64IsText, base64_bytes, base64_of, base64_key, base64_fault, IsBase64Of}
use Rattle.mc_wire.specs.declared.TheConstants.{KEY_LIMIT}
use Rattle.mc_wire.specs.declared.error.WireError.TheVariants.{NotBase64}

is_strict : IsStrict standard
is_strict = (refl, refl)

is_consistent : IsConsistent standard
is_consistent = refl

-- the length of a base64 text
pub length-base64_of : (bytes : List ℕ) → length (base64_of bytes) ≡ encoded_size (length bytes) true
unfolding base64_of
length-base64_of bytes = omega (arith, length-append {A = ℕ}, length-encode_symbols, length-replicate {A = ℕ})

short_text : (n : ℕ) → (4 * n + 2) / 3 + (3 - n % 3) % 3 ≤ 250 → n ≤ 186
short_text n h = omega arith

long_text : (n : ℕ) → n ≤ 186 → 0 < n → (0 < (4 * n + 2) / 3 + (3 - n % 3) % 3)
    × ((4 * n + 2) / 3 + (3 - n % 3) % 3 ≤ 250)
long_text n h some = (omega arith, omega arith)

pub decoded_ok : (word bytes : List ℕ) → decode_of standard word ≡ Ok bytes → base64_bytes word ≡ Some bytes
unfolding base64_bytes decoded_of
decoded_ok word bytes h = rw h

-- A word that decoding refuses is the base64 text of no bytes.
pub decoded_err : (word : List ℕ) (e : DecodeError) → decode_of standard word ≡ Err e → base64_bytes word ≡ None
unfolding base64_bytes decoded_of
decoded_err word e h = rw h

-- a key word that decodes
pub record IsKeyWord (word bytes : List ℕ) : Type 0 where
  pub key : base64_key word ≡ Some bytes
  pub text : IsBase64Of word bytes
  pub fault : base64_fault word ≡ None

filled : (word bytes : List ℕ) → word ≡ base64_of bytes → 0 < length word → 0 < length bytes
unfolding base64_of
filled word [] text some = let none = ap length (text ∙ encode_of-nil standard) in omega (arith, none)
filled word (byte ∷ bytes) text some = omega arith

-- a word of a length that key words have
in_limits : (word : List ℕ) → 0 < length word → length word ≤ KEY_LIMIT → (base64_key word ≡ base64_bytes word)
    × (base64_fault word ≡ cond (is_some (base64_bytes word)) None (Some NotBase64))
in_limits word some short =
    let first : nat_eq (length word) 0 ≡ false = grind (arith, nat_tests) in
    let second : nat_lt KEY_LIMIT (length word) ≡ false = grind (arith, nat_tests) in
    (rw (first, second), rw (first, second))

-- A word of 1 to 250 bytes that decodes is the base64 text of a key.
pub decoded_key : (word bytes : List ℕ) → IsBytes word → 0 < length word → length word ≤ KEY_LIMIT
    → decode_of standard word ≡ Ok bytes → IsKeyWord word bytes
unfolding base64_of
decoded_key word bytes octets some short decoded =
    let limits = in_limits word some short in
    let value = decoded_ok word bytes decoded in
    let text = decode_of_strict standard word bytes is_strict octets decoded in
    record {
      key = limits.0 ∙ value;
      text =
          record {
            text = text;
            octets = decoded_octets word bytes octets decoded;
            some = filled word bytes text some;
            short = short_text (length bytes) (omega (arith, ap length text, length-base64_of bytes));
          };
      fault = rw (limits.1, value);
    }

-- a word that does not decode
pub undecoded_key : (word : List ℕ) → 0 < length word → length word ≤ KEY_LIMIT → base64_bytes word ≡ None
    → (base64_fault word ≡ Some NotBase64) × (base64_key word ≡ None)
undecoded_key word some short none = let limits = in_limits word some short in (rw (limits.1, none), limits.0 ∙ none)

-- the base64 text of a key gives the key
pub text_key : (word bytes : List ℕ) → IsBase64Of word bytes → base64_key word ≡ Some bytes
unfolding base64_of
text_key word bytes is =
    let long = long_text (length bytes) is.short is.some in
    let size = ap length is.text ∙ length-base64_of bytes in
    let back : decode_of standard word ≡ Ok bytes =
    rw is.text (decode_of-encode_of standard bytes is_consistent is.octets) in
    (in_limits word (omega arith) (omega arith)).0 ∙ decoded_ok word bytes back

-- a word that gives a key is a text of it
key_text : (word bytes : List ℕ) → IsBytes word → base64_key word ≡ Some bytes → IsBase64Of word bytes
unfolding base64_bytes decoded_of
key_text word bytes octets is =
    let some : 0 < length word = grind (arith, nat_tests) in
    let short : length word ≤ KEY_LIMIT = grind (arith, nat_tests) in
    (decoded_key word bytes octets some short
    (the_ok (decode_of standard word) (sym (in_limits word some short).0 ∙ is))).text where
      the_ok : (read : Result (List ℕ) DecodeError) → result_ok read ≡ Some bytes → read ≡ Ok bytes
      the_ok (Ok read) is = cc
      the_ok (Err e) is = absurd cc

-- A word of bytes gives a key exactly where it is the base64 text of that key.
pub base64_is_text : Base64IsText
base64_is_text word bytes octets = (key_text word bytes octets, text_key word bytes)
