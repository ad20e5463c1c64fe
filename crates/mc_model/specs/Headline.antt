-- The law of every reachable world.
use Rattle.std.specs.Prelude.{ℕ, ◌≡◌, ◌+◌, ◌<◌, ◌≤◌, ◌⊎◌, false, List, ◌++◌, length, take, Some, IsTrue}
use Rattle.std.specs.List.{AllByRecursion, concat, slice_get}
use Rattle.mc_sizes.specs.declared.sizes.Sizes.{Sizes}
use Rattle.mc_split.specs.declared.plan.Piece.{Piece}
use Rattle.mc_join.specs.Replies.{replies}
use Rattle.mc_reader.specs.Spelling.{is_last}
use Rattle.mc_conn.specs.History.{AnsweredCommand, IsAnswered, Taken, texts_of}
use Rattle.mc_conn.specs.Due.{due, pending_replies_of, history_of, pieces}
use Rattle.mc_model.specs.Sized.{SpellAll, SpellFirst}
use Rattle.mc_model.specs.Log.{IsLawful, of_asker, on_shard, pieces_in, replies_in}
use Rattle.mc_model.specs.World.{IsLink, Link, World, entries}
use Rattle.mc_model.specs.Rest.{AtRest}

-- It holds for every connection, including those that were replaced on their seat.
abbrev pub OfEach : World → (ℕ → Link → Type 0) → Type 0
OfEach w P = (k : ℕ) (link : Link) → IsLink w k link → P k link

-- the texts of the longest prefix of the commands, each of which was given up or has all its answers in the
-- log
abbrev pub replies_to : Sizes → World → ℕ → Link → List (List ℕ)
replies_to sizes w k link = replies (pending_replies_of sizes.shards link.taken) (replies_in (of_asker k w.log))

-- the bytes written to a connection: the texts of its first `handed` replies
abbrev pub handed_bytes : Sizes → World → ℕ → Link → List ℕ
handed_bytes sizes w k link = concat (take link.handed (replies_to sizes w k link))

-- the first commands, each with the answers that the log has for its parts
abbrev pub history : Sizes → World → ℕ → Link → ℕ → List AnsweredCommand
history sizes w k link count = history_of sizes.shards (replies_in (of_asker k w.log)) (take count link.taken)

-- The bytes written are complete replies, one for each command, in the order of the commands in the input.
-- Each command that was answered was given up or has all its answers in the log, and the bytes are the texts
-- made of these answers.
pub record AreReplies (sizes : Sizes) (w : World) (k : ℕ) (link : Link) : Type 0 where
  pub begins : SpellFirst sizes link.fed (entries link)
  pub whole : link.handed ≤ length (replies_to sizes w k link)
  pub answered : AllByRecursion (IsAnswered sizes.shards) (history sizes w k link link.handed)
  pub bytes : handed_bytes sizes w k link ≡ texts_of (history sizes w k link link.handed)

-- The bytes written are the replies to all commands in the input. All of these were parsed, each was given up
-- or has all its answers in the log, and the bytes are the texts made of these answers.
pub record AreAllReplies (sizes : Sizes) (w : World) (k : ℕ) (link : Link) : Type 0 where
  pub commands : SpellAll sizes link.fed (entries link)
  pub answered : AllByRecursion (IsAnswered sizes.shards) (history sizes w k link (length link.taken))
  pub bytes : handed_bytes sizes w k link ≡ texts_of (history sizes w k link (length link.taken))

-- A later connection has the seat.
pub record IsFollowed (w : World) (k : ℕ) (link : Link) : Type 0 where
  pub later : ℕ
  pub other : Link
  pub after : k < later
  pub here : IsLink w later other
  pub seat : link.seat ≡ other.seat

-- The operations that each shard ran for the connection are a prefix of those due there, in order.
abbrev pub RanAsDue : Sizes → World → ℕ → Link → Type 0
RanAsDue sizes w k link =
    (shard : ℕ) → (rest : List Piece)
    × (pieces_in (on_shard shard (of_asker k w.log)) ++ rest ≡ due sizes.shards shard link.taken)

-- After a command that closes the stream none is parsed, and nothing of a later one is sent, answered or
-- written.
pub record IsLast (sizes : Sizes) (w : World) (k : ℕ) (link : Link) (place : ℕ) : Type 0 where
  pub taken : length link.taken ≡ place + 1
  pub sent : AllByRecursion (λ piece. piece.1.ticket.0 ≤ place) (take link.sent (pieces sizes.shards link.taken))
  pub answered : AllByRecursion (λ entry. entry.piece.ticket.0 ≤ place) (of_asker k w.log)
  pub handed : link.handed ≤ place + 1

pub record Headline (sizes : Sizes) (w : World) : Type 0 where
  -- the bytes written are a prefix of the replies to the commands in the connection's input, in order
  pub the_bytes_handed : OfEach w (λ k link. AreReplies sizes w k link)
  -- all of them at rest; and a connection that was replaced on its seat is at rest
  pub all_of_them_at_rest : OfEach w
      (λ k link. link.broken ≡ false → AtRest sizes link ⊎ IsFollowed w k link → AreAllReplies sizes w k link)
  -- each shard ran each connection's pieces once, in sending order, and it ran nothing else
  pub once_in_sending_order : OfEach w (λ k link. RanAsDue sizes w k link)
      × AllByRecursion (λ entry. (entry.shard < sizes.shards) × (entry.asker < length w.links)) w.log
  -- each answer is the protocol's step on that shard's items
  pub the_protocols_step : IsLawful sizes w.log
  -- nothing follows quit or shutdown
  pub nothing_after_quit : OfEach w
      (λ k link. (place : ℕ) (one : Taken) → slice_get link.taken place ≡ Some one → IsTrue (is_last place one.entry)
      → IsLast sizes w k link place)
