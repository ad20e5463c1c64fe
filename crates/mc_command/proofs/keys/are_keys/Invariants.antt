-- All words are keys where those that are left are.
use Rattle.std.proofs.Common.{◌≡◌}
use Rattle.std.specs.List.{list_all}
use Rattle.mc_wire.specs.Words.{words_left}
use Rattle.mc_command.specs.Field.{is_key}
use Rattle.mc_command.proofs.keys.are_keys.Given as goal

abbrev pub invariant-loop-word : goal.invariant-loop-word
invariant-loop-word l = list_all is_key (words_left l.fn.words) ≡ list_all is_key (words_left l.word-iterator)
