-- Keys in base64, by a meta command's flag `b` (protocol.txt, Meta Commands): the standard alphabet with
-- padding (RFC 4648, section 4).
use Rattle.std.specs.Prelude.{ℕ, ◌≡◌, ◌<◌, ◌≤◌, List, length, Option, Some, None, nat_lt, is_some, ◌↔◌, if◌then◌else◌}
use Rattle.std.specs.Prelude.{◌==◌}
use Rattle.base64.specs.Engines.{standard}
use Rattle.base64.specs.GeneralPurpose.{IsBytes, decoded_of, encode_of}
use Rattle.mc_wire.specs.Limits.{decoded_key_limit, key_limit}
use Rattle.mc_wire.specs.declared.error.WireError.{WireError}
use Rattle.mc_wire.specs.declared.error.WireError.TheVariants.{NoKey, KeyTooLong, NotBase64}

-- the base64 text of these bytes
unfoldable pub base64_of : List ℕ → List ℕ
base64_of bytes = encode_of standard bytes

-- the bytes of a base64 text; padding and unused bits must be as an encoder writes them
unfoldable pub base64_bytes : List ℕ → Option (List ℕ)
base64_bytes word = decoded_of standard word

-- the word is the base64 text of these bytes, which are as many as a key may have
pub record IsBase64Of (word bytes : List ℕ) : Type 0 where
  pub text : word ≡ base64_of bytes
  pub octets : IsBytes bytes
  pub some : 0 < length bytes
  pub short : length bytes ≤ decoded_key_limit

-- why a word isn't a valid key in base64, in the order of the tests
abbrev pub base64_fault : List ℕ → Option WireError
base64_fault word =
    if length word == 0 then Some NoKey
    else (if nat_lt key_limit (length word) then Some KeyTooLong
    else (if is_some (base64_bytes word) then None else Some NotBase64))

-- the key in a base64 word
abbrev pub base64_key : List ℕ → Option (List ℕ)
base64_key word =
    if length word == 0 then None
    else (if nat_lt key_limit (length word) then None
    else base64_bytes word)

-- A word of bytes decodes to a key exactly if it is the base64 text of the key, whose elements are then
-- bytes.
abbrev pub Base64IsText : Type 0
Base64IsText = (word key : List ℕ) → IsBytes word → (base64_key word ≡ Some key) ↔ IsBase64Of word key
