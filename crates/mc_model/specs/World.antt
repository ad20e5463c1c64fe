-- The world: a log, and lists and counts for each connection. It has no rings, no slots and no workers.
use Rattle.std.specs.Prelude.{ℕ, ◌≡◌, ◌≢◌, ◌<◌, Bool, false, List, [], ◌∷◌, ◌++◌, length, map, take, set, Some}
use Rattle.std.specs.List.{slice_get}
use Rattle.mc_command.specs.declared.command.Command.{Command}
use Rattle.mc_sizes.specs.declared.sizes.Sizes.{Sizes}
use Rattle.mc_conn.specs.History.{Taken}
use Rattle.mc_conn.specs.Due.{channel, pieces}
use Rattle.mc_model.specs.Log.{Entry, of_asker, on_shard}

-- a connection
pub record Link : Type 0 where
  pub seat : ℕ
  -- its whole input
  pub fed : List ℕ
  pub ended : Bool
  pub broken : Bool
  -- the commands parsed, each with its time and whether it was given up
  pub taken : List Taken
  -- how many of their pieces were sent
  pub sent : ℕ
  -- how many answers each shard has sent
  pub given : ℕ → ℕ
  -- how many answers of each shard were received
  pub received : ℕ → ℕ
  -- how many commands were answered
  pub handed : ℕ

-- Connections are numbered in the order in which they were opened, from 0.
pub record World : Type 0 where
  pub log : List Entry
  pub links : List Link

abbrev pub empty_world : World
empty_world = record { log = []; links = [] }

-- a new connection on a seat
abbrev pub new_link : ℕ → Link
new_link seat =
    record {
      seat = seat;
      fed = [];
      ended = false;
      broken = false;
      taken = [];
      sent = 0;
      given = λ _. 0;
      received = λ _. 0;
      handed = 0;
    }

abbrev pub with_link : World → ℕ → Link → World
with_link w k link = record w { links = set w.links k link }

abbrev pub with_entry : World → Entry → World
with_entry w entry = record w { log = w.log ++ entry ∷ [] }

-- The connection of this number is this one.
abbrev pub IsLink : World → ℕ → Link → Type 0
IsLink w k link = slice_get w.links k ≡ Some link

-- The seat's connection is this one: the last that was opened there.
pub record IsAt (w : World) (seat k : ℕ) (link : Link) : Type 0 where
  pub here : IsLink w k link
  pub seat_is : link.seat ≡ seat
  pub last : (j : ℕ) (other : Link) → k < j → IsLink w j other → other.seat ≢ seat

-- the commands parsed
abbrev pub entries : Link → List Command
entries link = map (λ one. one.entry) link.taken

-- how many pieces of a connection were sent to a shard
abbrev pub sent_to : Sizes → ℕ → Link → ℕ
sent_to sizes shard link = length (channel shard (take link.sent (pieces sizes.shards link.taken)))

-- how many pieces of a connection a shard has run
abbrev pub ran : World → ℕ → ℕ → ℕ
ran w k shard = length (on_shard shard (of_asker k w.log))

-- This shard's worker holds an answer for this connection: it has run more of the connection's pieces than it
-- has sent answers.
abbrev pub HoldsAnswerFor : World → ℕ → ℕ → Link → Type 0
HoldsAnswerFor w shard k link = link.given shard < ran w k shard
