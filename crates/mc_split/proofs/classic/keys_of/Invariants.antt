-- The copies so far, with the words that are left, are the keys.
use Rattle.std.proofs.Common.{◌≡◌, ◌++◌}
use Rattle.mc_wire.specs.Words.{words_left}
use Rattle.mc_command.specs.Field.{AreKeys}
use Rattle.mc_split.proofs.classic.keys_of.Given as goal

abbrev pub invariant-loop-word : goal.invariant-loop-word
invariant-loop-word l = record {
  keys : AreKeys (words_left l.word-iterator);
  so_far : l.copies.items ++ words_left l.word-iterator ≡ l.fn.keys;
}
