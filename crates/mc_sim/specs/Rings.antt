-- What is in the rings between seats and shards, and the contents of the shards.
use Rattle.std.specs.Prelude.{ℕ, ◌≡◌, ◌<◌, ◌≤◌, ◌==◌, Bool, true, false, Option, Some, None, List, [], ◌∷◌, ◌++◌}
use Rattle.std.specs.Prelude.{length, map, if◌then◌else◌}
use Rattle.std.specs.List.{AllByRecursion, slice_get}
use Rattle.mc_sizes.specs.declared.sizes.Sizes.{Sizes}
use Rattle.mc_split.specs.declared.plan.Piece.{Piece}
use Rattle.mc_ring.specs.declared.request.Request.{Request}
use Rattle.mc_ring.specs.declared.request.Request.TheVariants as request
use Rattle.mc_ring.specs.Reply.{Shown}
use Rattle.mc_ring.specs.Channel.{Far, Near}
use Rattle.mc_ring.specs.Ends.{Ends, channels_of, received_on, sent_on}
use Rattle.mc_store.specs.State.{State}
use Rattle.mc_store.specs.Step.{IsStep}
use Rattle.mc_store.specs.Shard.{Keeps}
use Rattle.mc_sim.specs.declared.sim.rings.Ran.{Ran}
use Rattle.mc_model.specs.Sized.{empty_shard}
use Rattle.mc_model.specs.Log.{Entry, reply_to}
use Rattle.mc_worker.specs.WorkerState.{WorkerState}
use Rattle.mc_sim.specs.Laid.{AreLaid, Laid}

-- the contents of the channels, the replies that workers hold, and the states of the shards
pub record Wires : Type 0 where
  -- by seat and shard, the pieces that the seat sent and the shard has not taken, the oldest first
  pub pieces : ℕ → ℕ → List Piece
  -- by seat and shard, the replies that the shard sent and the seat has not received, the oldest first
  pub replies : ℕ → ℕ → List Shown
  -- by shard, the reply that its worker has not sent yet, and the seat that it is for
  pub hand : ℕ → Option (ℕ × Shown)
  -- by shard, its state
  pub state : ℕ → State

-- the initial state
abbrev pub new_wires : Sizes → Wires
new_wires sizes = record { pieces = λ c s. []; replies = λ c s. []; hand = λ s. None; state = λ s. empty_shard sizes s }

-- another value for one seat and shard
abbrev pub with_channel : {X : Type 0} → (ℕ → ℕ → X) → ℕ → ℕ → X → ℕ → ℕ → X
with_channel old seat shard x = λ c s. if c == seat then (if s == shard then x else old c s) else old c s

-- another value for one shard
abbrev pub with_shard : {X : Type 0} → (ℕ → X) → ℕ → X → ℕ → X
with_shard old shard x = λ s. if s == shard then x else old s

-- the requests of these pieces
abbrev pub requests_of : List Piece → List Request
requests_of pieces = map request.Piece pieces

-- The channel between a seat and a worker: in each direction what was received, then what waits, is what was sent.
pub record IsWire (c s : ℕ) (seat : Ends Near) (worker_state : WorkerState) (pieces : List Piece)
    (replies : List Shown) : Type 0 where
  pub pieces_wait : sent_on seat s ≡ received_on worker_state.ends c ++ requests_of pieces
  pub replies_wait : sent_on worker_state.ends c ≡ received_on seat s ++ replies

-- the ends of a seat
pub record IsSeatEnds (sizes : Sizes) (seat : Ends Near) : Type 0 where
  pub counted : length seat.channels ≡ sizes.shards
  pub holds : AllByRecursion (λ channel. channel.capacity ≡ sizes.ring) (channels_of seat)

-- the worker of a shard
pub record IsWorker (sizes : Sizes) (worker_state : WorkerState) (hand : Option (ℕ × Shown)) (state : State) : Type 0
  where
    pub counted : length worker_state.ends.channels ≡ sizes.seats
    pub holds : AllByRecursion (λ channel. channel.capacity ≡ sizes.ring) (channels_of worker_state.ends)
    pub marked : length worker_state.live ≡ length worker_state.ends.channels
    -- no seat has sent its End
    pub live : AllByRecursion (λ live. live ≡ true) worker_state.live
    pub hand_is : worker_state.hand ≡ hand
    pub keeps : Keeps worker_state.shard state

pub record HaveWires (sizes : Sizes) (rings : Laid) (wires : Wires) : Type 0 where
  pub laid : AreLaid rings
  pub seat_count : length rings.seats ≡ sizes.seats
  pub shard_count : length rings.workers ≡ sizes.shards
  pub places : rings.places ≡ sizes.ring
  pub each_seat : (c : ℕ) (seat : Ends Near) → slice_get rings.seats c ≡ Some seat → IsSeatEnds sizes seat
  pub each_worker : (s : ℕ) (worker_state : WorkerState) → slice_get rings.workers s ≡ Some worker_state
      → IsWorker sizes worker_state (wires.hand s) (wires.state s)
  pub each_wire : (c s : ℕ) (seat : Ends Near) (worker_state : WorkerState) → slice_get rings.seats c
      ≡ Some seat → slice_get rings.workers s ≡ Some worker_state
      → IsWire c s seat worker_state (wires.pieces c s) (wires.replies c s)

-- The rings have these contents, and the shards are in these states.
unfoldable pub AreWired : Sizes → Laid → Wires → Type 0
AreWired sizes rings wires = HaveWires sizes rings wires

-- the shard's ends that a worker has
abbrev pub ends_of : WorkerState → Ends Far
ends_of worker_state = worker_state.ends

-- A worker with an empty shard, to which no seat has sent anything.
pub record IsStarted (sizes : Sizes) (worker_state : WorkerState) : Type 0 where
  pub marked : length worker_state.live ≡ length worker_state.ends.channels
  pub live : AllByRecursion (λ live. live ≡ true) worker_state.live
  pub free : worker_state.hand ≡ None
  pub keeps : Keeps worker_state.shard (empty_shard sizes worker_state.ends.number)

-- The seat and the shard exist.
abbrev pub AreThere : Sizes → ℕ → ℕ → Type 0
AreThere sizes seat shard = (seat < sizes.seats) × (shard < sizes.shards)

-- A piece was sent to a shard, whose ring wasn't full.
pub record SendsPiece (sizes : Sizes) (wires : Wires) (seat shard : ℕ) (piece : Piece) (new : Laid) : Type 0 where
  pub room : length (wires.pieces seat shard) < sizes.ring
  pub now : AreWired sizes new
      (record wires { pieces = with_channel wires.pieces seat shard (wires.pieces seat shard ++ piece ∷ []) })

-- It was not sent: the ring is full.
pub record KeepsPiece (sizes : Sizes) (wires : Wires) (seat shard : ℕ) (new : Laid) : Type 0 where
  pub full : AreThere sizes seat shard → sizes.ring ≤ length (wires.pieces seat shard)
  pub now : AreWired sizes new wires

-- Whether the shard may run a piece of the seat: its worker holds no reply, and one waits.
pub record TellsWaiting (sizes : Sizes) (wires : Wires) (shard seat : ℕ) (waits : Bool) (new : Laid) : Type 0 where
  pub some : waits ≡ true → (wires.hand shard ≡ None) × (0 < length (wires.pieces seat shard))
  pub none : waits ≡ false → AreThere sizes seat shard → wires.hand shard ≡ None → wires.pieces seat shard ≡ []
  pub now : AreWired sizes new wires

-- The shard has taken the oldest piece of the seat and run it, by the protocol's step, and holds the reply.
pub record RunsOldest (sizes : Sizes) (wires : Wires) (shard seat : ℕ) (ran : Ran) (new : Laid) : Type 0 where
  pub entry : Entry
  pub shard_is : entry.shard ≡ shard
  pub after : State
  pub rest : List Piece
  pub oldest : wires.pieces seat shard ≡ entry.piece ∷ rest
  pub free : wires.hand shard ≡ None
  pub step : IsStep (wires.state shard) entry.piece.op entry.piece.moment entry.answer after
  pub ticket : ran.ticket ≡ entry.piece.ticket
  pub part : ran.part ≡ entry.piece.part
  pub moment : ran.moment ≡ entry.piece.moment
  pub now : AreWired sizes new (record {
    pieces = with_channel wires.pieces seat shard rest;
    replies = wires.replies;
    hand = with_shard wires.hand shard (Some (seat, reply_to entry));
    state = with_shard wires.state shard after;
  })

-- It has run none: it holds a reply, or none waits.
pub record RunsNone (sizes : Sizes) (wires : Wires) (shard seat : ℕ) (new : Laid) : Type 0 where
  pub none : AreThere sizes seat shard → wires.hand shard ≡ None → wires.pieces seat shard ≡ []
  pub now : AreWired sizes new wires

-- The reply that the worker held was sent to its seat.
pub record GivesReply (sizes : Sizes) (wires : Wires) (shard : ℕ) (new : Laid) : Type 0 where
  pub seat : ℕ
  pub reply : Shown
  pub held : wires.hand shard ≡ Some (seat, reply)
  pub there : AreThere sizes seat shard
  pub room : length (wires.replies seat shard) < sizes.ring
  pub now : AreWired sizes new (record wires {
    replies = with_channel wires.replies seat shard (wires.replies seat shard ++ reply ∷ []);
    hand = with_shard wires.hand shard None;
  })

-- None was sent: the worker holds none, or the ring is full.
pub record GivesNone (sizes : Sizes) (wires : Wires) (shard : ℕ) (new : Laid) : Type 0 where
  pub full : shard < sizes.shards → (seat : ℕ) (reply : Shown) → wires.hand shard ≡ Some (seat, reply)
      → sizes.ring ≤ length (wires.replies seat shard)
  pub now : AreWired sizes new wires

-- The oldest reply of the shard was received.
pub record ReceivesReply (sizes : Sizes) (wires : Wires) (seat shard : ℕ) (reply : Shown) (new : Laid) : Type 0 where
  pub rest : List Shown
  pub oldest : wires.replies seat shard ≡ reply ∷ rest
  pub now : AreWired sizes new (record wires { replies = with_channel wires.replies seat shard rest })

-- None waits.
pub record ReceivesNone (sizes : Sizes) (wires : Wires) (seat shard : ℕ) (new : Laid) : Type 0 where
  pub none : AreThere sizes seat shard → wires.replies seat shard ≡ []
  pub now : AreWired sizes new wires
