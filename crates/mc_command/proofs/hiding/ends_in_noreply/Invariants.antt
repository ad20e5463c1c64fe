-- The result for the words is that for the remaining ones, after the last one.
use Rattle.std.proofs.Common.{◌≡◌, false}
use Rattle.mc_wire.specs.Words.{words_left}
use Rattle.mc_command.proofs.Hidings.{noreply_from}
use Rattle.mc_command.proofs.hiding.ends_in_noreply.Given as goal

abbrev pub invariant-loop-word : goal.invariant-loop-word
invariant-loop-word l = noreply_from false (words_left l.fn.words) ≡ noreply_from l.last (words_left l.word-iterator)
