-- The inside of a reader, by its rules, its input and the commands that it returned.
use Rattle.std.specs.Prelude.{ℕ, ◌≡◌, ◌+◌, ◌<◌, Bool, List, length, MatchBool}
use Rattle.std.specs.List.{AllByRecursion}
use Rattle.mc_reader.specs.declared.reader.Reader.{Reader}
use Rattle.mc_reader.specs.declared.state.State.TheVariants as state
use Rattle.mc_reader.specs.Spelling.{Given, MayBeGiven, SpellsFront, entries_of, is_closed, most_commands}
use Rattle.mc_reader.specs.internal.State.{Holds}
use Rattle.mc_command.specs.declared.rules.Rules.{Rules}

-- The input starts with the texts of the commands returned, and what follows them is unread. If the last one
-- closes the stream, nothing more is read; otherwise the reader's state describes the unread bytes.
pub record HasGiven (reader : Reader) (rules : Rules) (fed : List ℕ) (ended : Bool) (given : List Given) : Type 0 where
  pub unread : List ℕ
  pub rules_are : reader.rules ≡ rules
  pub ended_is : reader.ended ≡ ended
  pub left : reader.commands_left + length given ≡ most_commands
  pub may : AllByRecursion MayBeGiven given
  pub front : SpellsFront rules 0 fed (entries_of given) unread
  pub now : MatchBool (is_closed (entries_of given)) (reader.state ≡ state.Closed)
      ((0 < reader.commands_left) × Holds rules reader.state reader.buffer.bytes unread)
