-- The theorem about lines in memory, each served by a slot of its own.
use Rattle.std.specs.Prelude.{ℕ, ◌≡◌, Bool, List, [], ◌∷◌, length}
use Rattle.mc_wire.specs.Sink.{Sight}
use Rattle.mc_sizes.specs.declared.sizes.Sizes.{Sizes}
use Rattle.mc_history.specs.Tokens.{Sight as Shown}
use Rattle.mc_transport.specs.Explains.{Explains, LineFlow}
use Rattle.mc_serve.specs.Served.{IsOfHistory}

-- a line as the report has it
pub record CameBack : Type 0 where
  pub line : Sight
  pub commands : ℕ
  pub broke : Bool

abbrev pub came_back : Sight → ℕ → Bool → CameBack
came_back line commands broke = record { line = line; commands = commands; broke = broke }

-- the served lines, from their states before the call and in the report
abbrev pub lines_flow : List Sight → List CameBack → List LineFlow
lines_flow [] after = []
lines_flow (line ∷ before) [] = []
lines_flow (line ∷ before) (back ∷ after) =
    record { begin = line; now = back.line; commands = back.commands; broke = back.broke } ∷ lines_flow before after

-- All lines were returned, in order, and one log, of the history that the evidence shows, explains them.
pub record ServesAll (sizes : Sizes) (may_answer : ℕ → Type 0) (before : List Sight) (after : List CameBack)
    (shown : Shown) : Type 0 where
  pub as_many : length after ≡ length before
  pub explained : Explains sizes may_answer (lines_flow before after)
  pub history : IsOfHistory sizes shown explained.log
