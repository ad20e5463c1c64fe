-- What is left of the word still gives what the whole word gives.
use Rattle.std.proofs.Common.{◌≡◌, drop}
use Rattle.mc_wire.proofs.Numbers.{read_from}
use Rattle.mc_wire.proofs.number.number_u64.Given as goal

abbrev pub invariant-loop-byte : goal.invariant-loop-byte
invariant-loop-byte l = read_from l.value (drop l.byte-index l.word) ≡ read_from 0 l.word
