-- There is a word for each number that the loop came to.
use Rattle.std.proofs.Common.{◌≡◌, length}
use Rattle.mc_poll.proofs.bit_set.AtomicBitSet.new.Given as goal

abbrev pub invariant-loop : goal.invariant-loop
invariant-loop l = length l.words.items ≡ l.counter
