use Rattle.std.proofs.Common.{◌≡◌}
use Rattle.mc_wire.specs.Words.{words_of}
use Rattle.mc_command.specs.internal.FlagReading.{CountsFlags}
use Rattle.mc_command.proofs.MetaWalks.{read_from}
use Rattle.mc_command.proofs.meta_flags.read_flags.Given as goal

abbrev pub invariant-loop-word : goal.invariant-loop-word
invariant-loop-word l = record {
  can_next : (goal.iterator-loop-word).can_next l.word-iterator;
  is_finite : (goal.iterator-loop-word).is_finite l.word-iterator;
  counted : CountsFlags l.reader;
  left : read_from l.rules l.name l.reader (words_of l.word-iterator.rest.now)
      ≡ read_from l.rules l.name l.initial.reader (words_of l.initial.word-iterator.rest.now);
}
