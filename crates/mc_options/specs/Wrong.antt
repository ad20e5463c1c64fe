-- What may be wrong with the values of options, and the error that reports it.
use Rattle.std.specs.Prelude.{ℕ, List}
use Rattle.mc_options.specs.declared.error.OptionError.{OptionError}
use Rattle.mc_options.specs.declared.error.OptionError.TheVariants as fault

pub data Wrong : Type 0 where
  -- the words are no options of the program
  NoWords : Wrong
  -- items are not limited by their number
  HasItems : Wrong
  -- the call has no option of this name
  NotOfReplay : (name : List ℕ) → Wrong
  NotOfStdio : (name : List ℕ) → Wrong
  NotOfTcp : (name : List ℕ) → Wrong
  -- more than one option sets the budget
  TwoBudgets : Wrong
  -- the option of this name has a word that is no number, or no size in bytes, in its range
  NoNumber : (name word : List ℕ) (least most : ℕ) → Wrong
  NoSize : (name word : List ℕ) (least most : ℕ) → Wrong
  -- the mode of Unix sockets is no octal number up to 777
  NoMode : (word : List ℕ) → Wrong

-- what an error reports
abbrev pub wrong_of : OptionError → Wrong
wrong_of (fault.Call error) = NoWords
wrong_of fault.Items = HasItems
wrong_of (fault.NotOfReplay option) = NotOfReplay option.now
wrong_of (fault.NotOfStdio option) = NotOfStdio option.now
wrong_of (fault.NotOfTcp option) = NotOfTcp option.now
wrong_of fault.TwoBudgets = TwoBudgets
wrong_of (fault.Number option word least most) = NoNumber option.now word.now least most
wrong_of (fault.Size option word least most) = NoSize option.now word.now least most
wrong_of (fault.Mode word) = NoMode word.now
