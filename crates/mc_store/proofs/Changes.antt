-- Making a shard, moving its time, flushing it, and settling a key.
use Rattle.std.proofs.Common.{◌≡◌, ℕ, ◌+◌, ◌<◌, ◌≤◌, true, false, List, [], Some, None, arith, nat_eq, max, min, Option}
use Rattle.std.proofs.Common.{refl, sym, ap, subst}
use Rattle.std.specs.Cmp.Lexicographic.{pointwise}
use Rattle.std.specs.FinMap.{get}
use Rattle.std.specs.Map.{lookup, remove_entry}
use Rattle.mc_wire.specs.Limits.{latest_moment}
use Rattle.mc_item.specs.declared.item.Item.{Item}
use Rattle.mc_item.specs.Expiry.{is_dead}
use Rattle.mc_item.specs.OpStats.{no_counts}
use Rattle.mc_store.specs.internal.Found.{live}
use Rattle.mc_store.specs.State.{State, costs, empty_state, is_due, flushed, arrived, without_dead}
use Rattle.mc_store.specs.Shard.{AllBelow, ShardContents, Keeps}
use Rattle.mc_store.proofs.Lists.{nothing, get_nothing}
use Rattle.mc_store.proofs.Listed.{not_found}
use Rattle.mc_store.proofs.Costs.{costs_nothing}
use Rattle.mc_store.proofs.Shards.{with_entries, meets, misses, take_out}

none_below : (n : ℕ) → AllBelow nothing n
none_below n q u h = absurd (let h' = rw (get_nothing q) at h in cc)

none_fits : (budget : ℕ) → costs nothing ≤ budget
none_fits budget = omega (arith, costs_nothing)

-- A new shard, which is one of the given number of shards, shows the empty state.
pub new_keeps : (index shards budget given limit : ℕ) → index < shards
    → Keeps (record {
      entries = [];
      turns = [];
      budget = budget;
      limit = limit;
      time = 0;
      flush = None;
      given = given;
      index = index;
      shards = shards;
      op_stats = no_counts;
      evicted = 0;
    }) (empty_state index shards budget given limit)
new_keeps index shards budget given limit place = assumption (none_below 1, none_fits budget)

-- A shard that drops all its items and its pending flush shows the flushed state.
pub flush_all : (held : ShardContents) (state : State) → Keeps held state
    → Keeps (record held { entries = []; turns = []; flush = None }) (flushed state)
flush_all held state h = assumption (none_below (state.uses + 1), none_fits state.budget)

-- the state once its time was moved
abbrev pub moved : State → ℕ → State
moved state moment = record state { time = max state.time (min moment latest_moment) }

-- A shard whose time moves to the moment, the latest one at most and never back, shows the moved state.
pub timed : (held : ShardContents) (state : State) (moment time : ℕ) → Keeps held state → time
    ≡ max held.time (min moment latest_moment) → Keeps (record held { time = time }) (moved state moment)
timed held state moment time h is = let time_is : max state.time (min moment latest_moment) ≡ time =
    rw (h.time, is) in assumption

due_is : (held : ShardContents) (state : State) (moment time : ℕ) → Keeps held state → time
    ≡ max held.time (min moment latest_moment) → is_due state.flush (max state.time (min moment latest_moment))
    ≡ is_due held.flush time
due_is held state moment time h is = rw (h.flush, h.time, is)

-- Where a pending flush is due at the new time, the time moves and the flush runs.
pub arrived_due : (held : ShardContents) (state : State) (moment time : ℕ) → Keeps held state → time
    ≡ max held.time (min moment latest_moment) → is_due held.flush time ≡ true → arrived state moment
    ≡ flushed (moved state moment)
arrived_due held state moment time h is due = rw (due_is held state moment time h is, due)

-- Where no pending flush is due at the new time, only the time moves.
pub arrived_early : (held : ShardContents) (state : State) (moment time : ℕ) → Keeps held state → time
    ≡ max held.time (min moment latest_moment) → is_due held.flush time ≡ false → arrived state moment
    ≡ moved state moment
arrived_early held state moment time h is early = rw (due_is held state moment time h is, early)

-- Where nothing alive is under the key, a shard that drops what is there shows the settled state.
pub settled_gone : (held : ShardContents) (state : State) (key : List ℕ) → Keeps held state → None
    ≡ live held.time (lookup (pointwise nat_eq key) held.entries)
    → Keeps (with_entries held (remove_entry (pointwise nat_eq key) held.entries)) (without_dead state (Some key))
settled_gone held state key h none = rw (misses held state key h none).settled (take_out held state key h)

-- settled once, a key stays so
pub settled_again : (settled : State) (key : List ℕ) → get settled.items key ≡ None → without_dead settled (Some key)
    ≡ settled
settled_again settled key gone = rw gone refl

-- Where the item under the key is alive, a shard shows the settled state without any change.
pub settled_live : (held : ShardContents) (state : State) (key : List ℕ) (item : Item) → Keeps held state → Some item
    ≡ live held.time (lookup (pointwise nat_eq key) held.entries) → Keeps held (without_dead state (Some key))
settled_live held state key item h is = rw (meets held state key item h is).settled h

-- What is known by the item under the key and whether it is dead

-- A dead item counts as none.
pub dead_none : (time : ℕ) (item : Item) (found : Option Item) → Some item ≡ found → is_dead item.expiry time ≡ true
    → None ≡ live time found
dead_none time item found is dead = rw (← is, dead) refl

-- An item that isn't dead counts as there.
pub live_some : (time : ℕ) (item : Item) (found : Option Item) → Some item ≡ found → is_dead item.expiry time ≡ false
    → Some item ≡ live time found
live_some time item found is not_dead = rw (← is, not_dead) refl

-- nothing is taken out where nothing is
pub nothing_out : (held : ShardContents) (key : List ℕ) → None ≡ lookup (pointwise nat_eq key) held.entries
    → with_entries held (remove_entry (pointwise nat_eq key) held.entries) ≡ held
nothing_out held key none = ap (with_entries held) (not_found held.entries key (sym none)).1

-- Where no item is found, none is alive.
pub none_of : (time : ℕ) (o : Option Item) → None ≡ o → None ≡ live time o
none_of time o is = rw (← is)

-- Where no item is under the key, a shard shows the settled state without any change.
pub settled_absent : (held : ShardContents) (state : State) (key : List ℕ) → Keeps held state → None
    ≡ lookup (pointwise nat_eq key) held.entries → Keeps held (without_dead state (Some key))
settled_absent held state key h none =
    subst (λ now. Keeps now (without_dead state (Some key))) (nothing_out held key none)
    (settled_gone held state key h (none_of held.time (lookup (pointwise nat_eq key) held.entries) none))
