-- Worked texts with their commands, and worked streams.
use Rattle.std.proofs.Common.{◌≡◌, ℕ, ◌<◌, Bool, false, ◌||◌, List, [], ◌∷◌, ◌++◌, length, ◌==◌, refl, codes, pos, lit<}
use Rattle.std.proofs.Common.{None}
use Rattle.std.proofs.lemmas.Bool.{or_parts}
use Rattle.std.specs.Int.{int_wrap}
use Rattle.mc_wire.specs.declared.TheConstants.{DEFAULT_LINE_LIMIT, DEFAULT_VALUE_LIMIT}
use Rattle.mc_wire.specs.Number.{number_of}
use Rattle.mc_wire.specs.Words.{words_of}
use Rattle.mc_command.specs.Rules.{drop_in, own}
use Rattle.mc_command.specs.declared.command.Command.{Command}
use Rattle.mc_command.specs.declared.command.Command.TheVariants as command
use Rattle.mc_command.specs.declared.command.StoreMode.TheVariants.{Set}
use Rattle.mc_command.specs.declared.error.CommandError.TheVariants.{Unknown, BadFormat, TooLarge, BadChunk, Hidden}
use Rattle.mc_command.specs.Field.{is_key}
use Rattle.mc_command.specs.Line.{bytes_behind}
use Rattle.mc_command.specs.Meta.{meta_line_of}
use Rattle.mc_command.specs.Name.{name_of}
use Rattle.mc_command.specs.Table.{line_of}
use Rattle.mc_reader.specs.Spelling.{AreCommands, HasNoEnd, Spells, line_says}
use Rattle.mc_reader.proofs.Machine.{lined}
use Rattle.mc_reader.proofs.Texts.{entry_after, nothing_without_end, nothing_yet}

-- whether a line feed is among these bytes
abbrev pub has_end : List ℕ → Bool
has_end [] = false
has_end (x ∷ xs) = (x == 10) || has_end xs

-- Bytes among which the test finds no line feed have none.
pub no_end : (bytes : List ℕ) → has_end bytes ≡ false → HasNoEnd bytes
no_end [] e = tt
no_end (x ∷ xs) e = let parts = or_parts (x == 10) (has_end xs) e in (parts.0, no_end xs parts.1)

-- a line with the bytes behind it
spelled : (line tail : List ℕ) (entry : Command) → has_end line ≡ false → length line < DEFAULT_LINE_LIMIT → length tail
    ≡ bytes_behind (line_says (own DEFAULT_VALUE_LIMIT) line) → entry
    ≡ entry_after (own DEFAULT_VALUE_LIMIT) (line_says (own DEFAULT_VALUE_LIMIT) line) tail
    → Spells (own DEFAULT_VALUE_LIMIT) (line ++ 10 ∷ tail) entry
spelled line tail entry none short long is =
    lined (own DEFAULT_VALUE_LIMIT) line tail entry (no_end line none) short long is

abbrev stored : List ℕ → ℕ → List ℕ → Command
stored key flags bytes =
    command.Store (record {
      asked =
          record {
            key = key;
            mode = Set;
            compare = None;
            unique = None;
            flags = flags;
            exptime = pos 0;
            value = bytes;
          };
      noreply = false;
      lenient = false;
    })

-- a line, ended by CR LF or by LF alone
noop : Spells (own DEFAULT_VALUE_LIMIT) (codes "mn\r\n") command.MetaNoop
unfolding line_of words_of name_of
noop = spelled (codes "mn\r") [] command.MetaNoop refl (lit< tt) refl refl

bare_noop : Spells (own DEFAULT_VALUE_LIMIT) (codes "mn\n") command.MetaNoop
unfolding line_of words_of name_of
bare_noop = spelled (codes "mn") [] command.MetaNoop refl (lit< tt) refl refl

-- a line without words
blank : Spells (own DEFAULT_VALUE_LIMIT) (codes "\r\n") (command.Refused Unknown)
unfolding line_of words_of name_of
blank = spelled (codes "\r") [] (command.Refused Unknown) refl (lit< tt) refl refl

-- Storage lines: a block is as long as its line announces, whatever its bytes are. A refused line whose
-- length can be read includes its block, whatever ends it; another one doesn't.
blocks :
    Spells (own DEFAULT_VALUE_LIMIT) (codes "set a 5 0 3\r\nabc\r\n") (stored (codes "a") 5 (codes "abc"))
    × Spells (own DEFAULT_VALUE_LIMIT) (codes "set b 0 0 0\r\n\r\n") (stored (codes "b") 0 [])
    × Spells (own DEFAULT_VALUE_LIMIT) (codes "set a 0 0 6\r\nget a\n\r\n") (stored (codes "a") 0 (codes "get a\n"))
    × Spells (own DEFAULT_VALUE_LIMIT) (codes "set a 0 0 3\r\nabcde") (command.Refused BadChunk)
    × Spells (own DEFAULT_VALUE_LIMIT) (codes "set a 0 0 1\r\nx\nm") (command.Refused BadChunk)
    × Spells (own DEFAULT_VALUE_LIMIT) (codes "set a x 0 3\r\nabcde") (command.Refused BadFormat)
    × Spells (own DEFAULT_VALUE_LIMIT) (codes "set a 0 0 y\r\n") (command.Refused BadFormat)
unfolding line_of words_of name_of number_of is_key
blocks = (
  spelled (codes "set a 5 0 3\r") (codes "abc\r\n") (stored (codes "a") 5 (codes "abc")) refl (lit< tt) refl refl,
  spelled (codes "set b 0 0 0\r") (codes "\r\n") (stored (codes "b") 0 []) refl (lit< tt) refl refl,
  spelled (codes "set a 0 0 6\r") (codes "get a\n\r\n") (stored (codes "a") 0 (codes "get a\n")) refl (lit< tt) refl
      refl,
  spelled (codes "set a 0 0 3\r") (codes "abcde") (command.Refused BadChunk) refl (lit< tt) refl refl,
  spelled (codes "set a 0 0 1\r") (codes "x\nm") (command.Refused BadChunk) refl (lit< tt) refl refl,
  spelled (codes "set a x 0 3\r") (codes "abcde") (command.Refused BadFormat) refl (lit< tt) refl refl,
  spelled (codes "set a 0 0 y\r") [] (command.Refused BadFormat) refl (lit< tt) refl refl,
)

-- A block with another end: by memcached's rules its refusal is hidden behind `noreply`, and not behind `q`.
other_ends :
    Spells (own DEFAULT_VALUE_LIMIT) (codes "set a 0 0 3 noreply\r\nabcde") (command.Refused BadChunk)
    × Spells (drop_in DEFAULT_VALUE_LIMIT) (codes "set a 0 0 3 noreply\r\nabcde") (command.Refused Hidden)
    × Spells (drop_in DEFAULT_VALUE_LIMIT) (codes "set a 0 0 3\r\nabcde") (command.Refused BadChunk)
    × Spells (drop_in DEFAULT_VALUE_LIMIT) (codes "ms a 3 q\r\nabcde") (command.Refused BadChunk)
unfolding line_of words_of name_of number_of is_key meta_line_of int_wrap
other_ends = (
  spelled (codes "set a 0 0 3 noreply\r") (codes "abcde") (command.Refused BadChunk) refl (lit< tt) refl refl,
  lined (drop_in DEFAULT_VALUE_LIMIT) (codes "set a 0 0 3 noreply\r") (codes "abcde") (command.Refused Hidden)
      (no_end (codes "set a 0 0 3 noreply\r") refl) (lit< tt) refl refl,
  lined (drop_in DEFAULT_VALUE_LIMIT) (codes "set a 0 0 3\r") (codes "abcde") (command.Refused BadChunk)
      (no_end (codes "set a 0 0 3\r") refl) (lit< tt) refl refl,
  lined (drop_in DEFAULT_VALUE_LIMIT) (codes "ms a 3 q\r") (codes "abcde") (command.Refused BadChunk)
      (no_end (codes "ms a 3 q\r") refl) (lit< tt) refl refl,
)

too_large : (bytes : List ℕ) → length bytes ≡ 1048579
    → Spells (own DEFAULT_VALUE_LIMIT) (codes "set a 0 0 1048577\r\n" ++ bytes) (command.Refused TooLarge)
unfolding line_of words_of name_of number_of is_key
too_large bytes long = spelled (codes "set a 0 0 1048577\r") bytes (command.Refused TooLarge) refl (lit< tt) long refl

quit : Spells (own DEFAULT_VALUE_LIMIT) (codes "quit\r\n") command.Quit
unfolding line_of words_of name_of
quit = spelled (codes "quit\r") [] command.Quit refl (lit< tt) refl refl

-- nothing behind quit is a command
quit_closes : AreCommands (own DEFAULT_VALUE_LIMIT) (codes "mn\r\nquit\r\nmn\r\n")
    (command.MetaNoop ∷ command.Quit ∷ [])
quit_closes = (
  codes "mn\r\n",
  (
    codes "mn\r\n",
    codes "quit\r\nmn\r\n",
    refl,
    noop,
    (codes "quit\r\n", codes "mn\r\n", refl, quit, (refl, refl)),
  ),
  tt,
)

-- a stream that stops in a line, and one that stops in a block
unfinished_line : AreCommands (own DEFAULT_VALUE_LIMIT) (codes "mn\r\nget a") (command.MetaNoop ∷ [])
unfinished_line = (
  codes "get a",
  (codes "mn\r\n", codes "get a", refl, noop, refl),
  nothing_without_end (own DEFAULT_VALUE_LIMIT) (codes "get a") (no_end (codes "get a") refl) (lit< tt),
)

unfinished_block : AreCommands (own DEFAULT_VALUE_LIMIT) (codes "set a 0 0 5\r\nab") []
unfolding line_of words_of name_of number_of is_key
unfinished_block = (
  codes "set a 0 0 5\r\nab",
  refl,
  nothing_yet (own DEFAULT_VALUE_LIMIT) (codes "set a 0 0 5\r") (codes "ab") (no_end (codes "set a 0 0 5\r") refl)
      (lit< tt) (lit< tt),
)
