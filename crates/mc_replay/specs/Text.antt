-- The lines of a replay file and the words of a line: lines are ended by the byte 10, words are separated by
-- one space.
use Rattle.std.specs.Prelude.{ℕ, ◌-◌, List, ◌∷◌, length, take, drop, Option, Some, None, Result, Ok, codes}
use Rattle.std.specs.Prelude.{if◌then◌else◌, ◌==◌}
use Rattle.std.specs.List.{slice_split}
use Rattle.std.specs.Str.{bytes_eq}
use Rattle.hex.specs.Hex.{decode_of}
use Rattle.hex.specs.declared.error.FromHexError.{FromHexError}

-- the parts of a text between separators, empty ones too
unfoldable pub parts_of : ℕ → List ℕ → List (List ℕ)
parts_of separator text = slice_split (λ byte. byte == separator) text

-- the text without the end of its last line, which is optional
abbrev pub without_last_end : List ℕ → List ℕ
without_last_end text =
    if bytes_eq (drop (length text - 1) text) (codes "\n") then take (length text - 1) text else text

-- the lines of a file
abbrev pub lines_of : List ℕ → List (List ℕ)
lines_of text = parts_of 10 (without_last_end text)

-- the words of a line: a second space in a row makes an empty word, which is neither a name nor a number
abbrev pub words_in : List ℕ → List (List ℕ)
words_in line = parts_of 32 line

abbrev pub some_bytes : Result (List ℕ) FromHexError → Option (List ℕ)
some_bytes (Ok (byte ∷ bytes)) = Some (byte ∷ bytes)
some_bytes decoded = None

-- the bytes in a hexadecimal word, at least one
abbrev pub hex_bytes : List ℕ → Option (List ℕ)
hex_bytes word = some_bytes (decode_of word)
