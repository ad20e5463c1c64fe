-- Order in time: a command whose reply was written before another one was sent happens before it.
use Rattle.std.specs.Prelude.{ℕ, zero, suc, ◌≡◌, ◌<◌, ◌≤◌, List, [], ◌∷◌, length, Some}
use Rattle.std.specs.List.{slice_get}
use Rattle.mc_command.specs.declared.command.Command.{Command}
use Rattle.mc_sizes.specs.declared.sizes.Sizes.{Sizes}
use Rattle.mc_split.specs.declared.plan.Piece.{Piece}
use Rattle.mc_conn.specs.Due.{pieces}
use Rattle.mc_model.specs.Sized.{SpellFirst}
use Rattle.mc_model.specs.Log.{Entry}
use Rattle.mc_model.specs.World.{IsLink, Link, World, empty_world}
use Rattle.mc_model.specs.Events.{Event}
use Rattle.mc_model.specs.Schedule.{Leads, Schedule}

-- The reply to the connection's command of this number was written.
pub record IsHandedOut (w : World) (k number : ℕ) : Type 0 where
  pub link : Link
  pub here : IsLink w k link
  pub handed : number < link.handed

-- The connection's input does not have a command of this number yet, or the connection was not opened yet.
abbrev pub IsNotYetAsked : Sizes → World → ℕ → ℕ → Type 0
IsNotYetAsked sizes w k number =
    (link : Link) (commands : List Command) → IsLink w k link → SpellFirst sizes link.fed commands
    → length commands ≤ number

-- The entry is of a piece of that connection's command of that number.
pub record IsPieceOf (k number : ℕ) (entry : Entry) : Type 0 where
  pub asker : entry.asker ≡ k
  pub ticket : entry.piece.ticket.0 ≡ number

-- In the log, each piece of the one command is before each piece of the other.
abbrev pub RunsBefore : List Entry → ℕ → ℕ → ℕ → ℕ → Type 0
RunsBefore log j a k b =
    (x y : ℕ) (one other : Entry) → slice_get log x ≡ Some one → slice_get log y ≡ Some other → IsPieceOf j a one
    → IsPieceOf k b other → x < y

-- The log has this piece of that connection, run on its shard.
pub record IsRun (log : List Entry) (k : ℕ) (piece : ℕ × Piece) : Type 0 where
  pub place : ℕ
  pub entry : Entry
  pub here : slice_get log place ≡ Some entry
  pub asker : entry.asker ≡ k
  pub shard : entry.shard ≡ piece.0
  pub piece_is : entry.piece ≡ piece.1

-- Each piece of the connection's command of that number was run.
abbrev pub WasRun : Sizes → World → ℕ → ℕ → Type 0
WasRun sizes w k number =
    (link : Link) (x : ℕ) (piece : ℕ × Piece) → IsLink w k link → slice_get (pieces sizes.shards link.taken) x
    ≡ Some piece → piece.1.ticket.0 ≡ number → IsRun w.log k piece

-- the world after the first n of the events
abbrev pub world_at : (sizes : Sizes) (w : World) (events : List Event) (w' : World) → Leads sizes w events w' → ℕ
    → World
world_at sizes w [] w' led n = w
world_at sizes w (event ∷ events) w' led zero = w
world_at sizes w (event ∷ events) w' led (suc n) = world_at sizes led.1 events w' led.3 n

-- After the first p events the reply to the one command is written; after the first q, and no fewer, the
-- other is not yet sent.
pub record HappensBefore (sizes : Sizes) (events : List Event) (w : World) (led : Schedule sizes events w)
    (j a k b : ℕ) : Type 0 where
  pub p : ℕ
  pub q : ℕ
  pub order : p ≤ q
  pub out : IsHandedOut (world_at sizes empty_world events w led p) j a
  pub not_yet : IsNotYetAsked sizes (world_at sizes empty_world events w led q) k b
