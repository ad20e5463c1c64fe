-- The history of a source: the lines that it accepts and takes back.
use Rattle.std.specs.Prelude.{ℕ, ◌≡◌, Bool, true, List, [], ◌∷◌, ◌++◌, Option, Some, None, map}
use Rattle.mc_wire.specs.Sink.{Sight}
use Rattle.mc_ring.specs.Route.{Name}
use Rattle.mc_transport.specs.Explains.{LineFlow}
use Rattle.mc_transport.specs.Place.{Place, unbegun}
use Rattle.mc_net.specs.declared.connection_source.Accept.{Accept}
use Rattle.mc_net.specs.declared.connection_source.Accept.TheVariants as arrival

-- the history of a source: unknown; or the lines to come, if they are known, the one being served, the returned
-- ones in order, and whether it returned that no more will come
pub data SourceFlow : Type 0 where
  TellsNothing : SourceFlow
  TellsLines : Option (List Sight) → Option Sight → List LineFlow → Bool → SourceFlow

-- the lines to come after the next one
abbrev pub later : Option (List Sight) → Option (List Sight)
later None = None
later (Some []) = Some []
later (Some (line ∷ lines)) = Some lines

-- This line is the next one to come, if that is known.
abbrev pub IsNext : Sight → SourceFlow → Type 0
IsNext line TellsNothing = Unit {0}
IsNext line (TellsLines None out back over) = Unit {0}
IsNext line (TellsLines (Some []) out back over) = ⊥
IsNext line (TellsLines (Some (next ∷ lines)) out back over) = next ≡ line

-- a line was accepted
abbrev pub let_in : Sight → SourceFlow → SourceFlow
let_in line TellsNothing = TellsNothing
let_in line (TellsLines coming out back over) = TellsLines (later coming) (Some line) back over

-- the line being served was returned
abbrev pub took_back : Sight → ℕ → Bool → SourceFlow → SourceFlow
took_back now commands broke TellsNothing = TellsNothing
took_back now commands broke (TellsLines coming None back over) = TellsLines coming None back over
took_back now commands broke (TellsLines coming (Some begin) back over) =
    TellsLines coming None (back ++ record { begin = begin; now = now; commands = commands; broke = broke } ∷ []) over

-- it returned that no more will come
abbrev pub closed : SourceFlow → SourceFlow
closed TellsNothing = TellsNothing
closed (TellsLines coming out back over) = TellsLines coming out back true

-- No line is being served.
abbrev pub IsFree : SourceFlow → Type 0
IsFree TellsNothing = Unit {0}
IsFree (TellsLines coming out back over) = out ≡ None

-- No further line comes, if that is known.
abbrev pub IsDone : SourceFlow → Type 0
IsDone TellsNothing = Unit {0}
IsDone (TellsLines None out back over) = Unit {0}
IsDone (TellsLines (Some lines) out back over) = lines ≡ []

-- The result of `accept`, and the history of the source then.
abbrev pub Arrives : {L : Type 0} → (L → Sight) → Accept L → SourceFlow → SourceFlow → Type 0
Arrives sight (arrival.Came line) old new = IsNext (sight line) old × (new ≡ let_in (sight line) old)
Arrives sight arrival.NotYet old new = new ≡ old
Arrives sight arrival.Over old new = (new ≡ closed old) × IsDone old

-- The line that came is of this history, and has not begun.
abbrev pub IsUnbegun : {L : Type 0} → Name → (L → Place) → Accept L → Type 0
IsUnbegun history place (arrival.Came line) = place line ≡ unbegun history
IsUnbegun history place arrival.NotYet = Unit {0}
IsUnbegun history place arrival.Over = Unit {0}

-- These lines came, of those that were to come, if they are known.
abbrev pub Comes : Option (List Sight) → List Sight → Option (List Sight) → Type 0
Comes None lines after = after ≡ None
Comes (Some before) lines after = (left : List Sight) × (before ≡ lines ++ left) × (after ≡ Some left)

-- Exactly these lines were accepted and returned.
abbrev pub Passes : SourceFlow → List LineFlow → SourceFlow → Type 0
Passes TellsNothing lines after = after ≡ TellsNothing
Passes (TellsLines coming out back over) lines after =
    (rest : Option (List Sight)) × Comes coming (map (λ line. line.begin) lines) rest
    × (after ≡ TellsLines rest out (back ++ lines) over)
