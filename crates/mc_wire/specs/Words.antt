-- The words of a line (protocol.txt, Protocol).
use Rattle.std.specs.Prelude.{ℕ, Bool, false, true, List, [], ◌∷◌, filter, ◌==◌}
use Rattle.std.specs.List.{slice_split}
use Rattle.mc_wire.specs.declared.walk.WordWalk.{WordWalk}

-- words are separated by spaces
abbrev pub is_space : ℕ → Bool
is_space byte = byte == 32

abbrev pub is_filled : List ℕ → Bool
is_filled [] = false
is_filled (byte ∷ bytes) = true

-- the maximal runs of bytes other than the space
unfoldable pub words_of : List ℕ → List (List ℕ)
words_of text = filter is_filled (slice_split is_space text)

-- the words that the iterator hasn't returned yet
abbrev pub words_left : WordWalk → List (List ℕ)
words_left walk = words_of walk.rest.now
