-- What is inside a connection, by what came in and what went out.
use Rattle.std.specs.Prelude.{ℕ, ◌≡◌, ◌+◌, ◌<◌, ◌≤◌, false, List, ◌∷◌, length, map, drop, Option, Some, None, IsTrue}
use Rattle.std.specs.List.{AllByRecursion}
use Rattle.mc_reader.specs.Reader.{IsReader, entries_of}
use Rattle.mc_reader.specs.Spelling.{Given}
use Rattle.mc_split.specs.declared.plan.Piece.{Piece}
use Rattle.mc_join.specs.Joined.{IsReorderBuffer}
use Rattle.mc_conn.specs.declared.conn.Conn.{Conn}
use Rattle.mc_conn.specs.History.{MayBeTaken, carried_out}
use Rattle.mc_conn.specs.Flow.{Flow, all_pending_replies, all_pieces, commands_of}

-- what was put back, and then the others
abbrev pub put_first : Option (ℕ × Piece) → List (ℕ × Piece) → List (ℕ × Piece)
put_first None others = others
put_first (Some piece) others = piece ∷ others

pub record HasFlow (conn : Conn) (flow : Flow) : Type 0 where
  -- what the reader returned, and the texts that the reorder buffer handed out
  pub given : List Given
  pub texts : List (List ℕ)
  pub shards : conn.dispatcher.planner.shards ≡ flow.shards
  pub window : conn.dispatcher.reorder_buffer.window ≡ flow.window
  pub broken : conn.broken ≡ flow.broken
  pub read : IsReader conn.reader flow.rules flow.fed flow.ended given
  -- The commands taken are those that the reader returned.
  pub spelled : entries_of given ≡ commands_of flow.taken
  pub may : AllByRecursion MayBeTaken flow.taken
  -- The log has them as they are carried out.
  pub logged : conn.dispatcher.log ≡ map carried_out flow.taken
  pub joined : IsReorderBuffer conn.dispatcher.reorder_buffer (all_pending_replies flow) flow.accepted texts
  pub handed : length texts ≡ flow.handed
  -- No more commands are open than may be.
  pub bounded : length flow.taken ≤ flow.handed + flow.window
  -- Where the sink failed, the connection is broken.
  pub works : conn.broken ≡ false → conn.dispatcher.reorder_buffer.gone ≡ false
  -- The pieces that have not left are all here.
  pub within : flow.out ≤ length (all_pieces flow)
  pub unsent : put_first conn.put_back conn.dispatcher.unsent.items ≡ drop flow.out (all_pieces flow)
  pub lent : IsTrue flow.lent → (conn.put_back ≡ None) × (0 < flow.out)
