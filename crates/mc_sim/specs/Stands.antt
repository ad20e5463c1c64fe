-- The relation between a simulator and a world of the model.
use Rattle.std.specs.Prelude.{ℕ, ◌≡◌, ◌<◌, Bool, Option, Some, None, List, [], length, map, take, drop}
use Rattle.std.specs.List.{slice_get}
use Rattle.mc_sizes.specs.Sizes.{AreWithin, IsFirstOut, rules_of}
use Rattle.mc_sizes.specs.declared.sizes.Sizes.{Sizes}
use Rattle.mc_split.specs.declared.plan.Piece.{Piece}
use Rattle.mc_ring.specs.Reply.{Shown}
use Rattle.mc_conn.specs.declared.conn.Conn.{Conn}
use Rattle.mc_conn.specs.Conn.{IsConn}
use Rattle.mc_conn.specs.Flow.{Flow, new_flow}
use Rattle.mc_conn.specs.Due.{channel, pieces}
use Rattle.mc_conn.specs.Fits.{Fits}
use Rattle.mc_model.specs.declared.event.StepReply.{StepReply}
use Rattle.mc_sim.specs.declared.sim.Connection.{Connection}
use Rattle.mc_sim.specs.declared.sim.LogEntry.{LogEntry}
use Rattle.mc_sim.specs.declared.sim.Seat.{Seat}
use Rattle.mc_sim.specs.declared.sim.Sim.{Sim}
use Rattle.mc_sim.specs.declared.sim.SimError.{SimError}
use Rattle.mc_sim.specs.declared.sim.SimError.TheVariants.{Memory, Size}
use Rattle.mc_model.specs.Log.{Entry, Leaves, of_asker, on_shard, replies_in}
use Rattle.mc_model.specs.World.{HoldsAnswerFor, IsAt, IsLink, Link, World, ran}
use Rattle.mc_model.specs.Events.{Event, IsEmptyHand, IsUnusedSeat}
use Rattle.mc_model.specs.Schedule.{Happens}
use Rattle.mc_model.specs.Headline.{handed_bytes}
use Rattle.mc_model.specs.Law.{Law}
use Rattle.mc_sim.specs.Rings.{AreWired, Wires}

-- the history of a connection that received these replies, in this order
abbrev pub flow_of : Sizes → Link → Bool → List Shown → Flow
flow_of sizes link lent accepted =
    record {
      shards = sizes.shards;
      rules = rules_of sizes;
      window = sizes.window;
      fed = link.fed;
      ended = link.ended;
      broken = link.broken;
      taken = link.taken;
      out = link.sent;
      lent = lent;
      accepted = accepted;
      handed = link.handed;
    }

-- the replies received from each shard, by the log of the connection
abbrev pub received_by : Link → List Entry → ℕ → List Shown
received_by link own s = take (link.received s) (replies_in (on_shard s own))

-- The seat's part of a connection: it accepted what it received, each reply in its slot.
pub record IsServing (sizes : Sizes) (own : List Entry) (link : Link) (conn : Conn) : Type 0 where
  pub lent : Bool
  pub accepted : List Shown
  pub is : IsConn conn (flow_of sizes link lent accepted)
  pub fits : Fits sizes.shards link.taken accepted (received_by link own)

-- a seat that has had no connection, or has this one
abbrev pub SeatIs : Sizes → World → ℕ → Conn → Option ℕ → Type 0
SeatIs sizes w seat conn None =
    IsUnusedSeat w seat × IsConn conn (new_flow sizes.shards (rules_of sizes) sizes.window)
SeatIs sizes w seat conn (Some k) = (link : Link) × IsAt w seat k link × IsServing sizes (of_asker k w.log) link conn

-- A seat that has had no connection.
abbrev pub IsNewSeat : Sizes → Seat → Type 0
IsNewSeat sizes seat =
    (seat.current ≡ None) × IsConn seat.conn (new_flow sizes.shards (rules_of sizes) sizes.window)

-- The history of a connection.
pub record KeepsLink (sizes : Sizes) (w : World) (k : ℕ) (link : Link) (kept : Connection) : Type 0 where
  pub seat : kept.seat ≡ link.seat
  pub ended : kept.ended ≡ link.ended
  pub broken : kept.broken ≡ link.broken
  pub fed : kept.fed.items ≡ link.fed
  pub handed : kept.handed.items ≡ handed_bytes sizes w k link

-- the log entry of the code, for an entry of the model's log
abbrev pub line_of : Entry → LogEntry
line_of entry =
    record {
      shard = entry.shard;
      connection = entry.asker;
      ticket = entry.piece.ticket;
      part = entry.piece.part;
      moment = entry.piece.moment;
    }

-- the pieces of a connection that were sent to a shard and not run
abbrev pub unrun : Sizes → World → ℕ → ℕ → Link → List Piece
unrun sizes w k s link = drop (ran w k s) (channel s (take link.sent (pieces sizes.shards link.taken)))

-- the replies that a shard sent and the connection has not received
abbrev pub unreceived : World → ℕ → ℕ → Link → List Shown
unreceived w k s link = drop (link.received s) (take (link.given s) (replies_in (on_shard s (of_asker k w.log))))

-- The reply that a worker holds is the one that is not sent yet, for the connection of that seat.
pub record IsHolding (w : World) (s seat : ℕ) (reply : Shown) : Type 0 where
  pub number : ℕ
  pub link : Link
  pub at : IsAt w seat number link
  pub ungiven : HoldsAnswerFor w s number link
  pub reply_is : slice_get (replies_in (on_shard s (of_asker number w.log))) (link.given s) ≡ Some reply

abbrev pub HandIs : World → ℕ → Option (ℕ × Shown) → Type 0
HandIs w s None = IsEmptyHand w s
HandIs w s (Some held) = IsHolding w s held.0 held.1

-- The rings hold what was sent and not run, or sent back and not received; the shards are in the states after
-- the log.
pub record Mirrors (sizes : Sizes) (w : World) (wires : Wires) : Type 0 where
  pub channels : (c k : ℕ) (link : Link) → IsAt w c k link → (s : ℕ) → (wires.pieces c s ≡ unrun sizes w k s link)
      × (wires.replies c s ≡ unreceived w k s link)
  pub unused : (c : ℕ) → IsUnusedSeat w c → (s : ℕ) → (wires.pieces c s ≡ []) × (wires.replies c s ≡ [])
  pub hands : (s : ℕ) → s < sizes.shards → HandIs w s (wires.hand s)
  pub left : (s : ℕ) → s < sizes.shards → Leaves sizes s w.log (wires.state s)

pub record IsWorld (sizes : Sizes) (sim : Sim) (w : World) : Type 0 where
  pub within : AreWithin sizes
  pub law : Law sizes w
  pub seat_count : length sim.seats.items ≡ sizes.seats
  pub each_seat : (c : ℕ) (seat : Seat) → slice_get sim.seats.items c
      ≡ Some seat → SeatIs sizes w c seat.conn seat.current
  pub seated : (k : ℕ) (link : Link) → IsLink w k link → link.seat < sizes.seats
  pub count : length sim.connections.items ≡ length w.links
  pub keeps : (k : ℕ) (link : Link) (kept : Connection) → IsLink w k link → slice_get sim.connections.items k
      ≡ Some kept → KeepsLink sizes w k link kept
  pub log : sim.log.items ≡ map line_of w.log
  pub wires : Wires
  pub wired : AreWired sizes sim.rings wires
  pub mirrors : Mirrors sizes w wires

-- The simulator is in this world: its lists are the world's, and its connections, rings and shards have the
-- states that led there.
unfoldable pub Stands : Sizes → Sim → World → Type 0
Stands sizes sim w = IsWorld sizes sim w

-- The sizes are refused for the first one that is out of range; for valid sizes, memory was refused.
abbrev pub IsRefused : Sizes → SimError → Type 0
IsRefused sizes (Size fault) = IsFirstOut sizes fault
IsRefused sizes Memory = AreWithin sizes

-- From any world of the simulator, the event leads to a world of it, with the result of the world's event.
abbrev pub StepsByEvent : Sim → Event → StepReply → Sim → Type 0
StepsByEvent old event reply new =
    (sizes : Sizes) (w : World) → Stands sizes old w → (w' : World) × Happens sizes w event reply w'
    × Stands sizes new w'
