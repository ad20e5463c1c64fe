-- The ten kinds of event, each defined by a rule: for which connection it may happen and when, what it
-- changes, when it may be idle, and whether it takes memory. See docs/DECISIONS.md, C10.
use Rattle.std.specs.Prelude.{ℕ, ◌≡◌, ◌+◌, ◌<◌, ◌≤◌, ◌⊎◌, ◌==◌, true, false, List, [], ◌∷◌, ◌++◌, length, take, Some}
use Rattle.std.specs.Prelude.{if◌then◌else◌}
use Rattle.std.specs.List.{slice_get}
use Rattle.mc_command.specs.declared.command.Command.{Command}
use Rattle.mc_sizes.specs.declared.sizes.Sizes.{Sizes}
use Rattle.mc_split.specs.declared.plan.Piece.{Piece}
use Rattle.mc_store.specs.State.{State}
use Rattle.mc_store.specs.Step.{IsStep}
use Rattle.mc_conn.specs.History.{MayBeTaken, Taken}
use Rattle.mc_conn.specs.Due.{due, pieces}
use Rattle.mc_conn.specs.Fits.{HasCome}
use Rattle.mc_model.specs.Log.{Entry, Leaves}
use Rattle.mc_model.specs.World.{HoldsAnswerFor, IsAt, IsLink, Link, World, new_link, ran, sent_to, with_link}
use Rattle.mc_model.specs.Rest.{HasWindow, IsAllTaken, IsNextCommand, IsUsedUp, MayRenew}

pub data Event : Type 0 where
  Open : (seat : ℕ) → Event
  Feed : (seat : ℕ) (bytes : List ℕ) → Event
  Take : (seat moment : ℕ) → Event
  Send : (seat : ℕ) → Event
  Pop : (shard seat : ℕ) → Event
  Give : (shard : ℕ) → Event
  Receive : (seat shard : ℕ) → Event
  Hand : (seat : ℕ) → Event
  End : (seat : ℕ) → Event
  Break : (seat : ℕ) → Event

-- The seat has had no connection.
abbrev pub IsUnusedSeat : World → ℕ → Type 0
IsUnusedSeat w seat = (k : ℕ) (link : Link) → IsLink w k link → link.seat ≡ seat → ⊥

-- The seat's connection may be replaced.
abbrev pub IsRenewable : Sizes → World → ℕ → Type 0
IsRenewable sizes w seat = (k : ℕ) × (link : Link) × IsAt w seat k link × MayRenew sizes link

-- The worker holds no answer: it has sent every one.
abbrev pub IsEmptyHand : World → ℕ → Type 0
IsEmptyHand w shard = (k : ℕ) (link : Link) → IsLink w k link → ran w k shard ≤ link.given shard

-- A Feed takes the first count bytes. It takes the whole piece if that is within the limit and every earlier
-- byte belongs to a command that was parsed. It takes at least one byte if all commands are parsed and the
-- window isn't full.
pub record MayFeed (sizes : Sizes) (link : Link) (bytes : List ℕ) (count : ℕ) : Type 0 where
  pub within : count ≤ length bytes
  pub whole : IsUsedUp sizes link → length bytes ≤ sizes.line → count ≡ length bytes
  pub some : IsAllTaken sizes link → HasWindow sizes link → 0 < length bytes → 0 < count

-- The oldest unsent piece is for this shard, whose ring isn't full.
pub record MaySend (sizes : Sizes) (w : World) (k : ℕ) (link : Link) : Type 0 where
  pub piece : ℕ × Piece
  pub next : slice_get (pieces sizes.shards link.taken) link.sent ≡ Some piece
  pub room : sent_to sizes piece.0 link < ran w k piece.0 + sizes.ring

-- The next command of the connection, parsed at this time; it may be given up if its kind allows it.
pub record TakesNext (sizes : Sizes) (link : Link) (moment : ℕ) (one : Taken) : Type 0 where
  pub next : IsNextCommand sizes link one.entry
  pub moment_is : one.moment ≡ moment
  pub may : MayBeTaken one

-- The shard runs the next piece that is due there, with an answer that the step allows after its earlier
-- operations.
pub record RunsNext (sizes : Sizes) (w : World) (shard k : ℕ) (link : Link) (entry : Entry) : Type 0 where
  pub shard_is : entry.shard ≡ shard
  pub asker_is : entry.asker ≡ k
  pub next : slice_get (due sizes.shards shard link.taken) (ran w k shard) ≡ Some entry.piece
  pub before : State
  pub after : State
  pub left : Leaves sizes shard w.log before
  pub step : IsStep before entry.piece.op entry.piece.moment entry.answer after

-- Exactly the first count commands are completely answered.
pub record IsTurn (sizes : Sizes) (link : Link) (count : ℕ) : Type 0 where
  pub within : count ≤ length link.taken
  pub come : HasCome sizes.shards link.taken link.received count
  pub most : (more : ℕ) → more ≤ length link.taken → HasCome sizes.shards link.taken link.received more → more ≤ count

-- one more for this shard
abbrev pub one_more : (ℕ → ℕ) → ℕ → ℕ → ℕ
one_more counts shard s = if s == shard then counts s + 1 else counts s

-- The rule of an event.
pub record Rule : Type 1 where
  -- for which connection it may happen, and when
  pub allows : Sizes → World → ℕ → Link → Type 0
  -- the world after it has happened for that connection
  pub changes : Sizes → World → ℕ → Link → World → Type 0
  -- when it may be idle although it may happen
  pub spares : Sizes → World → Type 0
  -- whether it takes memory: for a connection's history, its bytes, or the log
  pub takes_memory : Type 0

-- the rule of an event that takes no memory and is never idle when it may happen
abbrev pub plain_rule : (Sizes → World → ℕ → Link → Type 0) → (Sizes → World → ℕ → Link → World → Type 0) → Rule
plain_rule allows changes = record { allows = allows; changes = changes; spares = λ sizes w. ⊥; takes_memory = ⊥ }

-- the rule, with memory taken
abbrev pub with_memory : Rule → Rule
with_memory rule = record rule { takes_memory = Unit {0} }

abbrev pub rule_of : Event → Rule
-- A new connection comes to a seat that has had none, or whose connection may be replaced.
rule_of (Open seat) = with_memory (plain_rule
    (λ sizes w k link. (k ≡ length w.links) × (link ≡ new_link seat) × (seat < sizes.seats)
    × (IsUnusedSeat w seat ⊎ IsRenewable sizes w seat))
    (λ sizes w k link w'. w' ≡ record w { links = w.links ++ link ∷ [] }))
-- Bytes arrive on a connection, and a prefix of them is fed. It may be idle if none of them has to be taken.
rule_of (Feed seat bytes) = record (with_memory (plain_rule
    (λ sizes w k link. IsAt w seat k link × (link.ended ≡ false) × (link.broken ≡ false) × (0 < length bytes))
    (λ sizes w k link w'. (count : ℕ) × MayFeed sizes link bytes count × (0 < count)
    × (w' ≡ with_link w k (record link { fed = link.fed ++ take count bytes })))))
    { spares = λ sizes w. (k : ℕ) × (link : Link) × IsAt w seat k link × MayFeed sizes link bytes 0 }
-- The next command in the input is parsed, if the window isn't full.
rule_of (Take seat moment) = plain_rule
    (λ sizes w k link. IsAt w seat k link × ((command : Command) × IsNextCommand sizes link command)
    × HasWindow sizes link × (link.broken ≡ false))
    (λ sizes w k link w'. (one : Taken) × TakesNext sizes link moment one
    × (w' ≡ with_link w k (record link { taken = link.taken ++ one ∷ [] })))
-- The oldest unsent piece is sent to its shard, if the ring isn't full.
rule_of (Send seat) = plain_rule
    (λ sizes w k link. IsAt w seat k link × MaySend sizes w k link)
    (λ sizes w k link w'. w' ≡ with_link w k (record link { sent = link.sent + 1 }))
-- A shard whose worker has sent every answer runs the connection's next piece of those sent to it.
rule_of (Pop shard seat) = with_memory (plain_rule
    (λ sizes w k link. IsAt w seat k link × IsEmptyHand w shard × (ran w k shard < sent_to sizes shard link))
    (λ sizes w k link w'. (entry : Entry) × RunsNext sizes w shard k link entry
    × (w' ≡ record w { log = w.log ++ entry ∷ [] })))
-- A shard's worker sends the answer that it holds to its connection, if the ring to it isn't full.
rule_of (Give shard) = plain_rule
    (λ sizes w k link. IsLink w k link × HoldsAnswerFor w shard k link
    × (link.given shard < link.received shard + sizes.ring))
    (λ sizes w k link w'. w' ≡ with_link w k (record link { given = one_more link.given shard }))
-- The connection receives the next answer that the shard has sent.
rule_of (Receive seat shard) = plain_rule
    (λ sizes w k link. IsAt w seat k link × (link.received shard < link.given shard))
    (λ sizes w k link w'. w' ≡ with_link w k (record link { received = one_more link.received shard }))
-- The replies whose answers have all been received are written, at least one.
rule_of (Hand seat) = with_memory (plain_rule
    (λ sizes w k link. IsAt w seat k link × (link.handed < length link.taken)
    × HasCome sizes.shards link.taken link.received (link.handed + 1) × (link.broken ≡ false))
    (λ sizes w k link w'. (count : ℕ) × IsTurn sizes link count
    × (w' ≡ with_link w k (record link { handed = count }))))
-- The connection's input ends.
rule_of (End seat) = plain_rule
    (λ sizes w k link. IsAt w seat k link × (link.ended ≡ false))
    (λ sizes w k link w'. w' ≡ with_link w k (record link { ended = true }))
-- The connection fails: nothing more is fed, parsed or written.
rule_of (Break seat) = plain_rule
    (λ sizes w k link. IsAt w seat k link × (link.broken ≡ false))
    (λ sizes w k link w'. w' ≡ with_link w k (record link { broken = true }))

-- The event may happen for that connection.
abbrev pub Allows : Sizes → World → Event → ℕ → Link → Type 0
Allows sizes w event k link = (rule_of event).allows sizes w k link

-- The world after the event has happened for that connection.
abbrev pub Changes : Sizes → World → Event → ℕ → Link → World → Type 0
Changes sizes w event k link w' = (rule_of event).changes sizes w k link w'

-- The event takes memory.
abbrev pub TakesMemory : Event → Type 0
TakesMemory event = (rule_of event).takes_memory
