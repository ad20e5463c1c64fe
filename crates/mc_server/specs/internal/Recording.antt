-- What the history of one line that is served without threads says of it.
use Rattle.std.specs.Prelude.{ℕ, ◌≡◌, ◌<◌, List, [], length, map, Some}
use Rattle.std.specs.List.{AllByRecursion, slice_get}
use Rattle.mc_wire.specs.Sink.{Sight}
use Rattle.mc_sizes.specs.declared.sizes.Sizes.{Sizes}
use Rattle.mc_item.specs.declared.answer.Answer.{Answer}
use Rattle.mc_split.specs.declared.plan.Piece.{Piece}
use Rattle.mc_ring.specs.Reply.{Shown}
use Rattle.mc_ring.specs.Route.{Name, Route}
use Rattle.mc_conn.specs.declared.conn.Conn.{Conn}
use Rattle.mc_conn.specs.Conn.{IsConn}
use Rattle.mc_conn.specs.Due.{due}
use Rattle.mc_conn.specs.History.{Taken, carried_out}
use Rattle.mc_conn.specs.Flow.{Flow}
use Rattle.mc_model.specs.Grows.{Lengthens}
use Rattle.mc_model.specs.Log.{Entry, on_shard, replies_in}
use Rattle.mc_model.specs.Sized.{empty_shard}
use Rattle.mc_transport.specs.Place.{Place}
use Rattle.mc_worker.specs.Scribe.{Runs}
use Rattle.mc_history.specs.declared.knowledge.Role.TheVariants.{Seat as of_seat, Shard as of_shard}
use Rattle.mc_history.specs.Roles.{seat_of}
use Rattle.mc_history.specs.Tokens.{Acting}
use Rattle.mc_record.specs.Clerk.{HasOpened, answers_at, place_of, taken_now, work_at}
use Rattle.mc_record.specs.Opening.{ActInOrder}
use Rattle.mc_record.specs.Recorder.{log_in, shard_of}

-- the entry of a piece that was run
abbrev pub entry_for : ℕ → Piece → Answer → Entry
entry_for shard piece answer = record { shard = shard; asker = 0; piece = piece; answer = answer }

-- the replies that each shard gave
abbrev pub replies_on : List Entry → ℕ → List Shown
replies_on log shard = replies_in (on_shard shard log)

-- the route of the clerk's pieces to a shard
abbrev pub route_to : Acting → ℕ → Route
route_to clerk shard = record { seat = seat_of clerk.role; shard = shard; name = clerk.name }

-- and the one by which a recorder's shard has the pieces of the first slot
abbrev pub route_from : Acting → Route
route_from recorder = record { seat = 0; shard = shard_of recorder.role; name = recorder.name }

-- Nothing has happened in the history of a server of these sizes. This is the clerk of its first slot, and these are
-- the recorders of its shards.
pub record IsFresh (sizes : Sizes) (clerk : Acting) (recorders : List Acting) : Type 0 where
  pub name : Name
  pub sizes_are : name.sizes ≡ sizes
  pub clerk_is : clerk ≡ record { name = name; role = of_seat 0; events = [] }
  pub recorders_are : ActInOrder of_shard name sizes.shards recorders

-- The recorder has what its shard ran of the log, as asked by the clerk's slot.
pub record IsRecorderOf (clerk : Acting) (shard : ℕ) (log : List Entry) (recorder : Acting) : Type 0 where
  pub route : route_from recorder ≡ route_to clerk shard
  pub ran : log_in recorder ≡ on_shard shard log

-- The history is that of a line in this place, which began so. Its connection took these commands, of which the clerk
-- has recorded the first, and the shards ran the log. What they answered the clerk has heard.
pub record IsHistoryOf (sizes : Sizes) (place : Place) (begin : Sight) (taken : List Taken) (log : List Entry)
    (clerk : Acting) (recorders : List Acting) : Type 0 where
  pub opened : HasOpened clerk
  pub sizes_are : clerk.name.sizes ≡ sizes
  pub placed : place ≡ place_of clerk begin
  pub begins : Lengthens (taken_now clerk) (map carried_out taken)
  pub work_is : (shard : ℕ) → work_at clerk shard ≡ due sizes.shards shard (taken_now clerk)
  pub came : (shard : ℕ) → Lengthens (replies_on log shard) (answers_at clerk shard)
  pub count : length recorders ≡ sizes.shards
  pub each : (shard : ℕ) (recorder : Acting) → slice_get recorders shard ≡ Some recorder
      → IsRecorderOf clerk shard log recorder

-- And all commands that were taken are recorded.
pub record IsWhole (sizes : Sizes) (place : Place) (begin : Sight) (taken : List Taken) (log : List Entry)
    (clerk : Acting) (recorders : List Acting) : Type 0 where
  pub is : IsHistoryOf sizes place begin taken log clerk recorders
  pub all : taken_now clerk ≡ map carried_out taken

-- what is known before more commands are recorded
pub record CanNote (clerk : Acting) (recorders : List Acting) (conn : Conn) : Type 0 where
  pub sizes : Sizes
  pub place : Place
  pub begin : Sight
  pub flow : Flow
  pub log : List Entry
  pub conn_is : IsConn conn flow
  pub recorded : IsHistoryOf sizes place begin flow.taken log clerk recorders

-- what is known before a piece that was run is recorded: it was the next that was due on its shard, and the answer is
-- the protocol's
pub record CanNoteRun (clerk : Acting) (recorders : List Acting) (shard : ℕ) (piece : Piece) (answer : Answer) : Type 0
  where
    pub sizes : Sizes
    pub place : Place
    pub begin : Sight
    pub taken : List Taken
    pub log : List Entry
    pub recorded : IsWhole sizes place begin taken log clerk recorders
    pub mine : AllByRecursion (λ entry. entry.asker ≡ 0) log
    pub there : shard < sizes.shards
    pub next : slice_get (due sizes.shards shard taken) (length (on_shard shard log)) ≡ Some piece
    pub runs : Runs (empty_shard sizes shard) (on_shard shard log) piece answer
