-- The history of a source for one line.
use Rattle.std.specs.Prelude.{ℕ, ◌≡◌, Bool, false, [], ◌∷◌, Option, Some, None}
use Rattle.mc_wire.specs.Sink.{Sight}
use Rattle.mc_transport.specs.Explains.{LineFlow}
use Rattle.mc_transport.specs.declared.transport.Transport.{Ghosts}
use Rattle.mc_transport.specs.declared.warrant.Warrant.{Ghosts as Warrants}
use Rattle.mc_net.specs.declared.single_source.SingleSource.{SingleSource}
use Rattle.mc_net.specs.declared.single_source.ReturnedLine.{ReturnedLine}
use Rattle.std.specs.declared.snapshot.Snapshot.{Snapshot}
use Rattle.mc_net.specs.Flow.{SourceFlow, TellsLines}

-- the line waits to be accepted
abbrev pub waits : Sight → SourceFlow
waits line = TellsLines (Some (line ∷ [])) None [] false

-- it was served, and whether the source returned that no more will come
abbrev pub served : LineFlow → Bool → SourceFlow
served line over = TellsLines (Some []) None (line ∷ []) over

-- wherever it is: returned, being served, or waiting
abbrev pub flow_one : {L : Type 0} → (L → Sight) → Option L → Option (Snapshot L) → Option (ReturnedLine L) → Bool
    → SourceFlow
flow_one sight line out (Some one) over =
    served (record {
      begin = sight one.begin.value;
      now = sight one.served.line;
      commands = one.served.commands;
      broke = one.served.broke;
    }) over
flow_one sight line (Some begin) None over = TellsLines (Some []) (Some (sight begin.value)) [] over
flow_one sight (Some line) None None over = TellsLines (Some (sight line ∷ [])) None [] over
flow_one sight None None None over = TellsLines (Some []) None [] over

-- the current history of a source, from the histories of its lines
abbrev pub flow_of : {L T : Type 0} {g : Ghosts L T} {w : Warrants T} {t : _} → (L → Sight) → SingleSource L T g w t
    → SourceFlow
flow_of sight source = flow_one sight source.waits source.out source.back source.over

-- The line was served and returned in this state.
abbrev pub IsBack : SourceFlow → Sight → ℕ → Bool → Type 0
IsBack source now commands broke =
    (begin : Sight) × (over : Bool)
    × (source ≡ served (record { begin = begin; now = now; commands = commands; broke = broke }) over)
