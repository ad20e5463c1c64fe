-- Readers that rest with the same numbers are the same for all that contracts say.
use Rattle.std.proofs.Common.{ℕ, List, Bool, sym, ◌∙◌}
use Rattle.mc_command.specs.declared.rules.Rules.{Rules}
use Rattle.mc_reader.specs.declared.reader.Reader.{Reader}
use Rattle.mc_reader.specs.declared.resting.RestingReader.{RestingReader}
use Rattle.mc_reader.specs.Spelling.{Given}
use Rattle.mc_reader.specs.Reader.{IsReader, RestsAs}

-- They have the same commands.
pub same_given : (resting : RestingReader) (was now : Reader) → RestsAs resting was → RestsAs resting now
    → (rules : Rules) (fed : List ℕ) (ended : Bool) (given : List Given) → IsReader was rules fed ended given
    → IsReader now rules fed ended given
unfolding IsReader
same_given resting was now a b rules fed ended given is = record {
  unread = is.unread;
  rules_are = b.rules_are ∙ sym a.rules_are ∙ is.rules_are;
  ended_is = b.goes_on ∙ sym a.goes_on ∙ is.ended_is;
  left = rw (b.left ∙ sym a.left) is.left;
  may = is.may;
  front = is.front;
  now = rw (b.left ∙ sym a.left, b.in_line ∙ sym a.in_line, b.empty ∙ sym a.empty) is.now;
}
