-- The limits of the protocol and of this server.
use Rattle.std.specs.Prelude.{ℕ, ◌≡◌, ◌*◌, ◌^◌}
use Rattle.mc_wire.specs.declared.TheConstants.{DEFAULT_LINE_LIMIT, DROP_IN_LINE_LIMIT, MIN_LINE_LIMIT, MAX_LINE_LIMIT}
use Rattle.mc_wire.specs.declared.TheConstants.{DIGIT_LIMIT, KEY_LIMIT, DECODED_KEY_LIMIT, BASE64_LIMIT, OPAQUE_LIMIT}
use Rattle.mc_wire.specs.declared.TheConstants.{DEFAULT_VALUE_LIMIT, MIN_VALUE_LIMIT, MAX_VALUE_LIMIT, LATEST_MOMENT}

-- the maximum number of digits of a number, leading zeros included
abbrev pub digit_limit : ℕ
digit_limit = 20

-- the maximum length of a key in bytes
abbrev pub key_limit : ℕ
key_limit = 250

-- the maximum length in bytes of a key that is sent in base64
abbrev pub decoded_key_limit : ℕ
decoded_key_limit = 186

-- the latest Unix time in seconds
abbrev pub latest_moment : ℕ
latest_moment = 2 ^ 40

-- The values of the code's constants. Lengths are in bytes.
pub record LimitsAre : Type 0 where
  pub default_line : DEFAULT_LINE_LIMIT ≡ 2 ^ 16
  pub drop_in_line : DROP_IN_LINE_LIMIT ≡ 2 ^ 20
  pub least_line : MIN_LINE_LIMIT ≡ 2048
  pub greatest_line : MAX_LINE_LIMIT ≡ 8 * 2 ^ 20
  pub digits : DIGIT_LIMIT ≡ digit_limit
  pub key : KEY_LIMIT ≡ key_limit
  pub decoded_key : DECODED_KEY_LIMIT ≡ decoded_key_limit
  pub base64 : BASE64_LIMIT ≡ 336
  pub opaque : OPAQUE_LIMIT ≡ 32
  pub default_value : DEFAULT_VALUE_LIMIT ≡ 2 ^ 20
  pub least_value : MIN_VALUE_LIMIT ≡ 1024
  pub greatest_value : MAX_VALUE_LIMIT ≡ 8 * 2 ^ 20
  pub latest : LATEST_MOMENT ≡ latest_moment
