-- Feeding a connection: at least one byte is taken whenever the model requires it.
use Rattle.std.specs.Prelude.{ℕ, ◌≡◌, ◌+◌, ◌<◌, ◌≤◌, ◌⊎◌, false, Option, None, List, [], ◌++◌, length, take}
use Rattle.mc_reader.specs.Spelling.{SpellsFront}
use Rattle.mc_conn.specs.declared.conn.Conn.{Conn}
use Rattle.mc_model.specs.declared.event.StepReply.{StepReply}
use Rattle.mc_model.specs.declared.event.StepReply.TheVariants as replied
use Rattle.mc_sim.specs.declared.sim.Connection.{Connection}
use Rattle.mc_conn.specs.Conn.{IfConn, IsAwaiting, IsConn}
use Rattle.mc_conn.specs.Flow.{IsAllTaken, IsAtRest, IsOpen, IsOver, IsShut, Flow, all_texts, commands_of, waiting_text}

-- The window allows one more command.
abbrev pub HasPlace : Flow → Type 0
HasPlace flow = length flow.taken < flow.handed + flow.window

-- The connection's lists are unchanged. If all commands are parsed and the window isn't full, it takes a byte
-- next.
pub record Refreshed (flow : Flow) (new : Conn) : Type 0 where
  pub now : IsConn new flow
  pub waits : IsOpen flow → IsAllTaken flow → HasPlace flow → IsShut flow ⊎ IsAwaiting new

-- The first count bytes were taken.
pub record TakesBytes (flow : Flow) (bytes : List ℕ) (count : ℕ) (new : Conn) : Type 0 where
  pub within : count ≤ length bytes
  pub now : IsConn new (record flow { fed = flow.fed ++ take count bytes })
  pub whole : SpellsFront flow.rules 0 flow.fed (commands_of flow.taken) [] → length bytes ≤ flow.rules.line_limit
      → count ≡ length bytes
  pub some : IsAllTaken flow → HasPlace flow → 0 < length bytes → 0 < count

-- The connection has neither ended nor failed, and there are bytes.
abbrev pub MayTake : Connection → List ℕ → Type 0
MayTake kept bytes = (kept.ended ≡ false) × (kept.broken ≡ false) × (0 < length bytes)

-- A connection that has neither ended nor failed was fed, and the bytes that it took are appended to its
-- input.
abbrev pub FeedsInto : Conn → List ℕ → List ℕ → StepReply → Conn → List ℕ → Type 0
FeedsInto old fed bytes replied.Done new fed' =
    (count : ℕ) × (0 < count) × (fed' ≡ fed ++ take count bytes)
    × IfConn old (λ flow. IsOpen flow → TakesBytes flow bytes count new)
FeedsInto old fed bytes replied.Idle new fed' =
    (fed' ≡ fed) × IfConn old (λ flow. IsOpen flow → TakesBytes flow bytes 0 new)
FeedsInto old fed bytes replied.NoMemory new fed' = (fed' ≡ fed) × (new ≡ old)

-- All replies that were due were written, behind the earlier output.
pub record HandsAll (flow : Flow) (new : Conn) (before after : List ℕ) : Type 0 where
  pub count : ℕ
  pub all : flow.handed + count ≡ length (all_texts flow)
  pub now : IsConn new (record flow { handed = flow.handed + count })
  pub bytes : after ≡ before ++ waiting_text flow

-- A connection that hasn't failed writes all of them, or memory is refused and nothing changes.
abbrev pub HandsInto : Conn → List ℕ → StepReply → Conn → List ℕ → Type 0
HandsInto old handed replied.Done new handed' =
    IfConn old (λ flow. flow.broken ≡ false → HandsAll flow new handed handed')
HandsInto old handed replied.Idle new handed' = IfConn old (λ flow. flow.broken ≡ false → ⊥)
HandsInto old handed replied.NoMemory new handed' =
    IfConn old (λ flow. flow.broken ≡ false → (handed' ≡ handed) × IsConn new flow)

-- To a page with sufficient capacity, all are written.
abbrev pub HandsOnto : Flow → List ℕ → StepReply → Conn → List ℕ → Type 0
HandsOnto flow before replied.Done new after = HandsAll flow new before after
HandsOnto flow before replied.Idle new after = ⊥
HandsOnto flow before replied.NoMemory new after = ⊥

-- The seat has had no connection, or its connection is at rest and closed or failed.
abbrev pub MayBegin : Flow → Option ℕ → Type 0
MayBegin flow current = (current ≡ None) ⊎ (IsAtRest flow × IsOver flow)
