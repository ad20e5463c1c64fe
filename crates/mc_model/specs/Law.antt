-- The invariant that every event preserves.
use Rattle.std.specs.Prelude.{ℕ, ◌≡◌, ◌+◌, ◌<◌, ◌≤◌, List, length, take}
use Rattle.std.specs.List.{AllByRecursion}
use Rattle.mc_sizes.specs.declared.sizes.Sizes.{Sizes}
use Rattle.mc_conn.specs.History.{MayBeTaken}
use Rattle.mc_conn.specs.Due.{due, pieces}
use Rattle.mc_conn.specs.Fits.{Fits, HasCome}
use Rattle.mc_model.specs.Sized.{SpellFirst}
use Rattle.mc_model.specs.Log.{Entry, IsLawful, of_asker, on_shard, pieces_in, replies_in}
use Rattle.mc_model.specs.World.{HoldsAnswerFor, IsLink, Link, World, entries, ran, sent_to}
use Rattle.mc_model.specs.Rest.{AtRest}

-- The invariant of a connection and its own part of the log.
pub record LinkLaw (sizes : Sizes) (own : List Entry) (link : Link) : Type 0 where
  pub begins : SpellFirst sizes link.fed (entries link)
  pub may : AllByRecursion MayBeTaken link.taken
  -- the shards ran a prefix of what is due
  pub served : (s : ℕ) → pieces_in (on_shard s own) ≡ take (length (on_shard s own)) (due sizes.shards s link.taken)
  -- and their answers are in these slots
  pub fits : Fits sizes.shards link.taken (replies_in own) (λ s. replies_in (on_shard s own))
  -- received, sent by the shard, run, sent to the shard and due: each no more than the next
  pub received : (s : ℕ) → link.received s ≤ link.given s
  pub given : (s : ℕ) → link.given s ≤ length (on_shard s own)
  pub popped : (s : ℕ) → length (on_shard s own) ≤ sent_to sizes s link
  pub sent : link.sent ≤ length (pieces sizes.shards link.taken)
  -- no ring exceeds its capacity
  pub piece_ring : (s : ℕ) → sent_to sizes s link ≤ length (on_shard s own) + sizes.ring
  pub answer_ring : (s : ℕ) → link.given s ≤ link.received s + sizes.ring
  -- no more commands are open than the window allows
  pub window : length link.taken ≤ link.handed + sizes.window
  -- what was written is answered
  pub handed : link.handed ≤ length link.taken
  pub come : HasCome sizes.shards link.taken link.received link.handed

-- The invariant of the whole world.
pub record Law (sizes : Sizes) (w : World) : Type 0 where
  pub links : (k : ℕ) (link : Link) → IsLink w k link → LinkLaw sizes (of_asker k w.log) link
  -- a worker holds at most one answer
  pub one_ungiven : (s k : ℕ) (link : Link) → IsLink w k link → ran w k s ≤ link.given s + 1
  pub one_asker : (s j k : ℕ) (one other : Link) → IsLink w j one → IsLink w k other → HoldsAnswerFor w s j one
      → HoldsAnswerFor w s k other → j ≡ k
  -- a connection that was replaced is at rest
  pub rested : (j k : ℕ) (earlier later : Link) → j < k → IsLink w j earlier → IsLink w k later
      → earlier.seat ≡ later.seat → AtRest sizes earlier
  pub lawful : IsLawful sizes w.log
  pub owned : AllByRecursion (λ entry. (entry.shard < sizes.shards) × (entry.asker < length w.links)) w.log
