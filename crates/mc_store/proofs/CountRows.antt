-- Worked rows of the counts, each computed: a shard that is asked, shows its counts, and begins them again.
use Rattle.std.proofs.Common.{◌≡◌, ℕ, Bool, true, false, List, [], ◌∷◌, Some, None, refl}
use Rattle.std.specs.Prelude.{codes}
use Rattle.std.specs.FinMap.{get, len}
use Rattle.mc_item.specs.declared.op.Op.TheVariants as op
use Rattle.mc_item.specs.declared.answer.Answer.TheVariants as answer
use Rattle.mc_item.specs.declared.op_stats.StatClass.TheVariants.{Get, Set, Other, Reclaimed}
use Rattle.mc_item.specs.declared.op_stats.Status.TheVariants.{Hit, Miss}
use Rattle.mc_item.specs.declared.item.Expiry.TheVariants.{At}
use Rattle.mc_item.specs.Expiry.{is_dead}
use Rattle.mc_item.specs.OpStats.{counted, counting_of, no_counts, status_of}
use Rattle.mc_store.specs.State.{Items, State, Used, evicting, fitting, looked, op_stats_after}
use Rattle.mc_store.specs.Step.{noted_in, stats_of, step_of}

-- a shard that was asked nothing, with these items, where evicted is the number that went to make room for others
abbrev fresh : Items → ℕ → State
fresh items evicted =
    record {
      items = items;
      turns = [];
      uses = 7;
      time = 1000;
      flush = None;
      given = 1;
      index = 0;
      shards = 2;
      budget = 1024;
      limit = 1048576;
      op_stats = no_counts;
      evicted = evicted;
    }

-- after two gets, of which one found its item
abbrev two_gets : Items → State
two_gets items =
    noted_in (fresh items 3)
    (noted_in (fresh items 3) (fresh items 3) (op.Fetch (codes "a") None) (answer.Hit 0 1 (codes "x")))
    (op.Fetch (codes "b") None) answer.Miss

-- and after stats reset
abbrev begun_anew : Items → State
begun_anew items = noted_in (two_gets items) (step_of (two_gets items) op.ResetStats).1 op.ResetStats answer.Reset

record CountRows : Type 0 where
  -- what stats shows of two gets
  shown : (m : Items) → (step_of (two_gets m) op.Stats).0 ≡ answer.Stats (stats_of (two_gets m))
  hit : (m : Items) → counted (stats_of (two_gets m)).op_stats Get Hit ≡ 1
  miss : (m : Items) → counted (stats_of (two_gets m)).op_stats Get Miss ≡ 1
  no_set : (m : Items) → counted (stats_of (two_gets m)).op_stats Set Hit ≡ 0
  went : (m : Items) → (stats_of (two_gets m)).evicted ≡ 3
  -- the reset is counted in the counts that it begins, and no other
  reset : (m : Items) → counted (stats_of (begun_anew m)).op_stats Other Hit ≡ 1
  no_hit : (m : Items) → counted (stats_of (begun_anew m)).op_stats Get Hit ≡ 0
  no_miss : (m : Items) → counted (stats_of (begun_anew m)).op_stats Get Miss ≡ 0
  none_went : (m : Items) → (stats_of (begun_anew m)).evicted ≡ 0
  -- two of three items are evicted, and after 2^64 - 1 the count starts again
  two_went : (m : Items) (key : List ℕ) → len m ≡ 3 → len (fitting m 1024 key) ≡ 1 → (evicting (fresh m 3) key).evicted
      ≡ 5
  starts_anew : (m : Items) (key : List ℕ) → len m ≡ 3 → len (fitting m 1024 key) ≡ 1
      → (evicting (fresh m 18446744073709551615) key).evicted ≡ 1

all_counted : CountRows
unfolding step_of counting_of status_of
all_counted = record {
  shown = λ _. refl;
  hit = λ _. refl;
  miss = λ _. refl;
  no_set = λ _. refl;
  went = λ _. refl;
  reset = λ _. refl;
  no_hit = λ _. refl;
  no_miss = λ _. refl;
  none_went = λ _. refl;
  two_went = λ m key all left. rw (all, left) refl;
  starts_anew = λ m key all left. rw (all, left) refl;
}

-- a shard in which an item waits for its turn
abbrev waiting : Items → State
waiting items = record (fresh items 3) { turns = (codes "a", 5) ∷ [] }

-- what an item under a key is: its unique is 5, it died at 900, and it was fetched or wasn't
record Dead (items : Items) (fetched : Bool) : Type 0 where
  used : Used
  found : get items (codes "a") ≡ Some used
  unique : used.item.unique ≡ 5
  expiry : used.item.expiry ≡ At 900
  was : used.item.fetched ≡ fetched

-- A dead item is counted where its turn comes, by whether it was fetched. The item that enters has another unique.
reclaimed : (m : Items) → Dead m false → (counted (looked 9 (waiting m)).op_stats Reclaimed Miss ≡ 1)
    × (counted (looked 9 (waiting m)).op_stats Reclaimed Hit ≡ 0)
unfolding op_stats_after is_dead
reclaimed m dead = rw (dead.found, dead.unique, dead.expiry, dead.was) (refl, refl)

reclaimed_fetched : (m : Items) → Dead m true → (counted (looked 9 (waiting m)).op_stats Reclaimed Hit ≡ 1)
    × (counted (looked 9 (waiting m)).op_stats Reclaimed Miss ≡ 0)
unfolding op_stats_after is_dead
reclaimed_fetched m dead = rw (dead.found, dead.unique, dead.expiry, dead.was) (refl, refl)

-- The item that enters isn't, though it is dead.
entering_stays : (m : Items) → Dead m false → counted (looked 5 (waiting m)).op_stats Reclaimed Miss ≡ 0
unfolding op_stats_after is_dead
entering_stays m dead = rw (dead.found, dead.unique, dead.expiry) refl
