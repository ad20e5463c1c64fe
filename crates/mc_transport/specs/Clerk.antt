-- What a seat's clerk records, and when its record fits a connection.
use Rattle.std.specs.Prelude.{ℕ, ◌≡◌, ◌<◌, List, ◌++◌, length, map, Some}
use Rattle.std.specs.List.{concat, slice_get}
use Rattle.mc_wire.specs.Sink.{Sight, with_bytes}
use Rattle.mc_sizes.specs.Sizes.{rules_of}
use Rattle.mc_sizes.specs.declared.sizes.Sizes.{Sizes}
use Rattle.mc_ring.specs.declared.request.Request.{Request}
use Rattle.mc_ring.specs.declared.request.Request.TheVariants as request
use Rattle.mc_ring.specs.Ends.{Ends, received_on, sent_on}
use Rattle.mc_ring.specs.Channel.{Near}
use Rattle.mc_ring.specs.Reply.{Shown}
use Rattle.mc_split.specs.declared.plan.Piece.{Piece}
use Rattle.mc_conn.specs.Due.{due}
use Rattle.mc_conn.specs.Fits.{Fits, KeysFit}
use Rattle.mc_conn.specs.History.{Taken, carried_out}
use Rattle.mc_conn.specs.Flow.{IsSound, Flow, all_texts}
use Rattle.mc_model.specs.Grows.{Lengthens}

-- The request is the piece that is due in this place, or the End.
abbrev pub IsDueAt : List Piece → ℕ → Request → Type 0
IsDueAt work place request.End = Unit {0}
IsDueAt work place (request.Piece piece) = slice_get work place ≡ Some piece

-- Where first these commands were taken and then those, the pieces that became due at a shard are behind the work
-- there.
pub record AddsWork (shards shard : ℕ) (taken later : List Taken) (work more : List Piece) : Type 0 where
  pub added : List Piece
  pub due_is : due shards shard later ≡ due shards shard taken ++ added
  pub work_is : more ≡ work ++ added

-- The record is of a connection at which this came in and went out, since the ends were as before: its commands are
-- recorded, but for the last ones; on each channel the work is what was sent before and what is due for them, and the
-- replies received are answers of the record; and each is the answer to the piece in its place.
pub record IsKept (work : ℕ → List Piece) (taken : List Taken) (answers : ℕ → List Shown) (before : Ends Near)
    (flow : Flow) (received : ℕ → List Shown) : Type 0 where
  pub begins : Lengthens taken (map carried_out flow.taken)
  pub settled : (shard : ℕ) → shard < flow.shards → length (received_on before shard) ≡ length (sent_on before shard)
  pub work_is : (shard : ℕ) → shard < flow.shards → map request.Piece (work shard) ≡ sent_on before shard
      ++ map request.Piece (due flow.shards shard taken)
  pub came : (shard : ℕ) → shard < flow.shards → Lengthens (received_on before shard ++ received shard) (answers shard)
  pub keys : KeysFit flow.shards flow.taken received
  pub fits : Fits flow.shards flow.taken flow.accepted received

-- The piece that the next reply of a shard answers: the next that is due there, and in its place in the work.
pub record IsAnsweredNext (work : List Piece) (flow : Flow) (shard : ℕ) (received came : List Shown) : Type 0 where
  pub piece : Piece
  pub due_is : slice_get (due flow.shards shard flow.taken) (length received) ≡ Some piece
  pub work_is : slice_get work (length came) ≡ Some piece

-- A line is owed these bytes next, by a record for a server of these sizes: what is due, what the line's connection
-- took, and the answers. What is seen of the line was so at its beginning, and is so now.
pub record IsOwed (sizes : Sizes) (work : ℕ → List Piece) (taken : List Taken) (answers : ℕ → List Shown)
    (begin now : Sight) (bytes : List ℕ) : Type 0 where
  -- what came in at the connection and went out, and the replies received for it, on ends that were so before it
  pub flow : Flow
  pub before : Ends Near
  pub received : ℕ → List Shown
  pub kept : IsKept work taken answers before flow received
  pub sound : IsSound flow
  pub some_shards : 0 < flow.shards
  pub shards_are : flow.shards ≡ sizes.shards
  pub rules_are : flow.rules ≡ rules_of sizes
  -- All that it took is recorded.
  pub recorded : taken ≡ map carried_out flow.taken
  -- All that was fed to it was read of the line.
  pub unread : List ℕ
  pub read_is : now.given ≡ with_bytes begin.given (flow.fed ++ unread)
  -- Its replies begin with what was written to the line and then these bytes.
  pub written : List ℕ
  pub written_is : now.taken ≡ with_bytes begin.taken written
  pub rest : List ℕ
  pub next : written ++ (bytes ++ rest) ≡ concat (all_texts flow)
