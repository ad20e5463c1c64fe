-- What became of a line, by the commands taken and the texts of their replies.
use Rattle.std.specs.Prelude.{ℕ, ◌≡◌, ◌<◌, Bool, true, false, ◌⊎◌, List, [], ◌∷◌, ◌++◌, length, take, IsTrue, MatchBool}
use Rattle.std.specs.List.{AllByRecursion, concat}
use Rattle.mc_reader.specs.Spelling.{AreCommands, BeginCommands, is_closed}
use Rattle.mc_conn.specs.History.{Taken, MayBeTaken}
use Rattle.mc_conn.specs.Flow.{commands_of}
use Rattle.mc_wire.specs.Sink.{Read, Sight, with_bytes, with_reads}
use Rattle.mc_command.specs.declared.rules.Rules.{Rules}

-- The commands taken are all that the bytes read spell; of a line that broke, a beginning of them.
abbrev pub Covers : Rules → Bool → List ℕ → List Taken → Type 0
Covers rules broke read taken =
    MatchBool broke (BeginCommands rules read (commands_of taken)) (AreCommands rules read (commands_of taken))

-- The line took all texts; one that broke, a beginning of them.
abbrev pub WritesTexts : Bool → List ℕ → List (List ℕ) → Type 0
WritesTexts broke written texts =
    MatchBool broke ((rest : List ℕ) × (written ++ rest ≡ concat texts)) (written ≡ concat texts)

-- It failed at a read: the last request was one for bytes, it took nothing since, and gave none, though its end was
-- not read.
pub record FailsAtRead (begin now : Sight) : Type 0 where
  pub before : List Read
  pub reads_are : now.reads ≡ with_reads begin.reads (before ++ record { given = now.given; taken = now.taken } ∷ [])
  pub open_is : now.ended ≡ true → begin.ended ≡ true

-- It failed at a write: this rest of the texts was not taken.
pub record FailsAtWrite (begin now : Sight) (texts : List (List ℕ)) : Type 0 where
  pub rest : List ℕ
  pub some : 0 < length rest
  pub owed : with_bytes now.taken rest ≡ with_bytes begin.taken (concat texts)

-- It was given up: it was to take the texts of the first count commands, with this rest, and there is another text.
pub record IsGivenUp (begin now : Sight) (texts : List (List ℕ)) : Type 0 where
  pub count : ℕ
  pub more : count < length texts
  pub rest : List ℕ
  pub owed : with_bytes now.taken rest ≡ with_bytes begin.taken (concat (take count texts))

-- Why a line broke: a read or a write of its own has failed, or it was given up.
abbrev pub Breaks : Sight → Sight → List (List ℕ) → Type 0
Breaks begin now texts =
    ((now.failed ≡ true) × (FailsAtRead begin now ⊎ FailsAtWrite begin now texts)) ⊎ IsGivenUp begin now texts

-- What became of a line between begin and now.
pub record Story (rules : Rules) (begin now : Sight) (broke : Bool) (taken : List Taken) (texts : List (List ℕ)) : Type
    0 where
  -- the bytes read of it, and written to it
  pub read : List ℕ
  pub written : List ℕ
  pub read_is : now.given ≡ with_bytes begin.given read
  pub written_is : now.taken ≡ with_bytes begin.taken written
  pub covers : Covers rules broke read taken
  pub writes : WritesTexts broke written texts
  pub may : AllByRecursion MayBeTaken taken
  -- Its input came to its end, or a command was taken after which nothing is read.
  pub finished : broke ≡ false → IsTrue now.ended ⊎ IsTrue (is_closed (commands_of taken))
  pub breaks : broke ≡ true → Breaks begin now texts
