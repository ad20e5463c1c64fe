-- Empty pieces between spaces are no words.
use Rattle.std.proofs.Common.{◌≡◌, length}
use Rattle.mc_wire.specs.Words.{words_of}
use Rattle.mc_wire.proofs.walk.WordWalkIterator.next.Given as goal

abbrev pub invariant-loop-word : goal.invariant-loop-word
invariant-loop-word l = words_of l.self.rest.now ≡ words_of l.fn.self.rest.now

abbrev pub decreases-loop-word : goal.decreases-loop-word
decreases-loop-word l = length l.self.rest.now
