-- So far each byte was one of a key word, or one was not.
use Rattle.std.proofs.Common.{◌≡◌, take}
use Rattle.std.specs.List.{list_all}
use Rattle.mc_wire.specs.Key.{is_key_byte}
use Rattle.mc_wire.proofs.key.is_key_word.Given as goal

abbrev pub invariant-loop-byte : goal.invariant-loop-byte
invariant-loop-byte l = l.good ≡ list_all is_key_byte (take l.byte-index l.word)
