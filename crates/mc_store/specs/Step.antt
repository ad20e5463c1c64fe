-- What a shard answers to an operation, and what its state is then. Within one operation the tests have this
-- order: absent or present, the unique, the number, the size, whether a unique is left.
use Rattle.std.specs.Prelude.{ℕ, ◌≡◌, ◌+◌, ◌-◌, ◌%◌, ◌^◌, Bool, true, false, not, IsTrue, ◌||◌, ◌&&◌, ℤ, ◌⊎◌, ◌++◌}
use Rattle.std.specs.Prelude.{List, length, Option, Some, None, is_none, nat_le, nat_lt, ◌==◌, if◌then◌else◌}
use Rattle.std.specs.Option.{is_some}
use Rattle.std.specs.FinMap.{get, insert, remove, len}
use Rattle.mc_command.specs.declared.command.StoreMode.{StoreMode}
use Rattle.mc_command.specs.declared.command.StoreMode.TheVariants.{Set, Add, Append, Prepend}
use Rattle.mc_command.specs.declared.command.StoreRequest.{StoreRequest}
use Rattle.mc_command.specs.declared.command.Direction.{Direction}
use Rattle.mc_command.specs.declared.command.Direction.TheVariants.{Increment, Decrement}
use Rattle.mc_item.specs.declared.item.Item.{Item}
use Rattle.mc_item.specs.declared.item.Expiry.{Expiry}
use Rattle.mc_item.specs.declared.item.Expiry.TheVariants.{Never, At}
use Rattle.mc_item.specs.declared.op.Op.{Op}
use Rattle.mc_item.specs.declared.op.Op.TheVariants.{Store, Fetch, Count, Delete, Discard, Touch, Flush, MetaGet}
use Rattle.mc_item.specs.declared.op.Op.TheVariants.{MetaStore, MetaDelete, MetaCount}
use Rattle.mc_item.specs.declared.op.Op.TheVariants as op
use Rattle.mc_command.specs.declared.meta.MetaFetch as mg
use Rattle.mc_command.specs.declared.meta.MetaRemoval as md
use Rattle.mc_command.specs.declared.meta.MetaCount as ma
use Rattle.mc_command.specs.declared.meta.Vivify.{Vivify}
use Rattle.mc_item.specs.declared.answer.Answer.{Answer}
use Rattle.mc_item.specs.declared.answer.MetaDone as done
use Rattle.mc_item.specs.declared.answer.Answer.TheVariants as answer
use Rattle.mc_item.specs.declared.stats.Stats.{Stats}
use Rattle.mc_item.specs.declared.answer.Answer.TheVariants.{Stored, NotStored, Exists, NotFound, TooLarge, NoCas}
use Rattle.mc_item.specs.declared.answer.Answer.TheVariants.{NoMemory, Hit, Miss, Number, NonNumeric, Deleted, Touched}
use Rattle.mc_item.specs.declared.answer.Answer.TheVariants.{Done, MetaHit, MetaDone}
use Rattle.mc_item.specs.Expiry.{expiry_of}
use Rattle.mc_item.specs.Value.{number_in}
use Rattle.mc_item.specs.Kind.{kind_of, key_of, is_lawful}
use Rattle.mc_item.specs.OpStats.{counted_in, counting_of, no_counts, status_of}
use Rattle.mc_store.specs.State.{Used, State, settle, flushed, with_items, first, cost, costs, entered, next_unique}
use Rattle.mc_store.specs.State.{with_given}
use Rattle.mc_store.specs.Rows.{fetched_item, touched_item, stored_item, joined_item, counted_item, counter_item}
use Rattle.mc_store.specs.Rows.{vivified_item, stale_item, shown_item, hit_of, made_hit, done_of}

-- an answer, and the state after it
abbrev pub Outcome : Type 0
Outcome = Answer × State

-- what is answered of an item that was stored or changed
abbrev pub Reply : Type 0
Reply = done.MetaDone → Answer

-- The outcome with the unique that the client gives, or else with the shard's next one, where that fits 64 bits; else
-- nothing changes.
abbrev pub numbered : State → Option ℕ → (ℕ → State → Outcome) → Outcome
numbered state (Some token) outcome = outcome token state
numbered state None outcome =
    if nat_lt (next_unique state) (2 ^ 64) then outcome (next_unique state) (with_given state) else (NoCas, state)

-- The item that is made with its unique enters, and the answer reports it.
abbrev pub puts : State → List ℕ → Option ℕ → (ℕ → Item) → (Item → Answer) → Outcome
puts state key given item_of answer_of =
    numbered state given (λ unique after. (answer_of (item_of unique), entered after given key (item_of unique)))

-- A unique is asked for, and it is not this one.
abbrev pub is_other : Option ℕ → ℕ → Bool
is_other None unique = false
is_other (Some asked) unique = not (unique == asked)

-- the outcome where the item has the unique that is asked for, if one is
abbrev pub compared : State → Option ℕ → Item → Outcome → Outcome
compared state compare item outcome = if is_other compare item.unique then (Exists, state) else outcome

-- Reading

abbrev pub fetch_step : State → List ℕ → Option ℤ → Option Used → Outcome
fetch_step state key exptime None = (Miss, state)
fetch_step state key exptime (Some used) =
    (Hit used.item.flags used.item.unique used.item.value, first state key (fetched_item used.item exptime state.time))

-- mg under an absent key
abbrev pub absent_meta_get : State → List ℕ → Option ℤ → Outcome
absent_meta_get state key None = (Miss, state)
absent_meta_get state key (Some exptime) =
    puts state key None (vivified_item exptime state.time) (λ made. MetaHit (made_hit made state.time))

-- What a hit of mg leaves of the item that it showed. Where its use isn't noted, the item keeps its place in the order,
-- its last access, and whether it was fetched.
abbrev pub shows : Bool → State → List ℕ → Used → Item → State
shows false state key used shown = first state key shown
shows true state key used shown =
    with_items state (insert state.items key (record used { item = record shown { fetched = used.item.fetched } }))

abbrev pub meta_get_step : State → mg.MetaFetch → Option Used → Outcome
meta_get_step state asked None = absent_meta_get state asked.key asked.vivify
meta_get_step state asked (Some used) = (
  MetaHit (hit_of used.item asked.touch asked.recache state.time),
  shows asked.unnoted state asked.key used (shown_item used.item asked.touch asked.recache state.time),
)

-- Storing (protocol.txt, "Storage commands")

-- A value is too large where it passes the limit, or where its item would cost more than the budget alone.
abbrev pub is_too_large : State → List ℕ → List ℕ → Bool
is_too_large state key value = nat_lt state.limit (length value) || nat_lt state.budget (cost key value)

-- The item with this value and a new unique enters, unless the value is too large.
abbrev pub writes : State → List ℕ → Option ℕ → List ℕ → (ℕ → Item) → Reply → Outcome
writes state key given value item_of reply =
    if is_too_large state key value then (TooLarge, state)
    else puts state key given item_of (λ made. reply (done_of made 0 state.time))

-- what is asked is stored
abbrev pub stores : State → StoreRequest (List ℕ) → Reply → Outcome
stores state asked reply =
    writes state asked.key asked.unique asked.value (stored_item asked.value asked.flags asked.exptime state.time) reply

-- what is asked is joined to the value that is there
abbrev pub joins : State → Item → StoreRequest (List ℕ) → List ℕ → Reply → Outcome
joins state item asked value reply = writes state asked.key asked.unique value (joined_item item value) reply

-- under an absent key, where Set and Add store
abbrev pub absent_store : State → StoreRequest (List ℕ) → Reply → StoreMode → Option ℕ → Outcome
absent_store state asked reply mode (Some unique) = (NotFound, state)
absent_store state asked reply Set None = stores state asked reply
absent_store state asked reply Add None = stores state asked reply
absent_store state asked reply mode None = (NotStored, state)

-- under a key that is there, where Set and Replace store; a refused add makes the item the most recently used one
abbrev pub present_store : State → StoreRequest (List ℕ) → Reply → StoreMode → Item → Outcome
present_store state asked reply Add item = (NotStored, first state asked.key item)
present_store state asked reply Append item =
    compared state asked.compare item (joins state item asked (item.value ++ asked.value) reply)
present_store state asked reply Prepend item =
    compared state asked.compare item (joins state item asked (asked.value ++ item.value) reply)
present_store state asked reply mode item = compared state asked.compare item (stores state asked reply)

abbrev pub store_step : State → StoreRequest (List ℕ) → Reply → Option Used → Outcome
store_step state asked reply None = absent_store state asked reply asked.mode asked.compare
store_step state asked reply (Some used) = present_store state asked reply asked.mode used.item

-- Counting, where each command asks as ma does (protocol.txt, "Increment/Decrement")

-- what incr and decr ask
abbrev pub counting : List ℕ → Direction → ℕ → ma.MetaCount
counting key direction amount =
    record {
      key = key;
      compare = None;
      unique = None;
      direction = direction;
      amount = amount;
      exptime = None;
      vivify = None;
    }

-- It grows modulo 2^64, and falls to 0 at least.
abbrev pub new_number : Direction → ℕ → ℕ → ℕ
new_number Increment number amount = (number + amount) % 2 ^ 64
new_number Decrement number amount = number - amount

-- the item with its new number and a new unique
abbrev pub changes : State → Item → ma.MetaCount → ℕ → Reply → Outcome
changes state item asked number reply =
    puts state asked.key asked.unique (counted_item item number asked.exptime state.time)
    (λ changed. reply (done_of changed number state.time))

abbrev pub counts : State → Item → ma.MetaCount → Reply → Option ℕ → Outcome
counts state item asked reply None = (NonNumeric, state)
counts state item asked reply (Some number) =
    changes state item asked (new_number asked.direction number asked.amount) reply

-- under an absent key
abbrev pub absent_count : State → List ℕ → Option ℕ → Reply → Option Vivify → Outcome
absent_count state key given reply None = (NotFound, state)
absent_count state key given reply (Some asked) =
    puts state key given (counter_item asked.initial asked.exptime state.time)
    (λ made. reply (done_of made asked.initial state.time))

abbrev pub count_step : State → ma.MetaCount → Reply → Option Used → Outcome
count_step state asked reply None = absent_count state asked.key asked.unique reply asked.vivify
count_step state asked reply (Some used) =
    compared state asked.compare used.item (counts state used.item asked reply (number_in used.item.value))

-- Touching, deleting and flushing

abbrev pub touch_step : State → List ℕ → ℤ → Option Used → Outcome
touch_step state key exptime None = (NotFound, state)
touch_step state key exptime (Some used) = (Touched, first state key (touched_item used.item exptime state.time))

abbrev pub delete_step : State → List ℕ → Option Used → Outcome
delete_step state key None = (NotFound, state)
delete_step state key (Some used) = (Deleted, with_items state (remove state.items key))

-- md with I: the item becomes stale in place
abbrev pub stales : State → md.MetaRemoval → Used → Outcome
stales state asked used =
    numbered state asked.unique
    (λ unique after. (
      Done,
      with_items after
          (insert state.items asked.key (record used { item = stale_item used.item asked.exptime state.time unique })),
    ))

abbrev pub meta_delete_step : State → md.MetaRemoval → Option Used → Outcome
meta_delete_step state asked None = (NotFound, state)
meta_delete_step state asked (Some used) =
    compared state asked.compare used.item
    (if asked.invalidate then stales state asked used else delete_step state asked.key (Some used))

-- the second at which a flush is to come, if that is in the future
abbrev pub coming : Expiry → ℕ → Option ℕ
coming Never time = None
coming (At second) time = if nat_le second time then None else Some second

-- A flush that is not to come in the future runs at once. It replaces a pending one, at once or later.
abbrev pub flush_step : State → Option ℕ → State
flush_step state None = flushed state
flush_step state (Some second) = record state { flush = Some second }

-- Counting what was asked (protocol.txt, "General-purpose statistics")

-- what a shard counted, and what it holds
abbrev pub stats_of : State → Stats
stats_of state =
    record {
      op_stats = state.op_stats;
      evicted = state.evicted;
      items = len state.items;
      bytes = costs state.items;
      budget = state.budget;
    }

-- the operation makes an item of a miss, by the flag N
abbrev pub makes : State → Op → Bool
makes settled (MetaGet asked) = is_some asked.vivify && is_none (get settled.items asked.key)
makes settled (MetaCount asked) = is_some asked.vivify && is_none (get settled.items asked.key)
makes settled op = false

-- What was asked of the settled state is counted, with what came of it. The first shard counts for all of them.
abbrev pub noted_in : State → State → Op → Answer → State
noted_in settled done op answer =
    record done {
      op_stats = counted_in done.op_stats (counting_of (settled.index == 0) (makes settled op) op)
          (status_of answer);
    }

-- The step

-- what a settled shard answers, and its state then
unfoldable pub step_of : State → Op → Outcome
step_of state (Fetch key touch) = fetch_step state key touch (get state.items key)
step_of state (Store asked) = store_step state asked (λ done. Stored) (get state.items asked.key)
step_of state (Count key direction amount) =
    count_step state (counting key direction amount) (λ done. Number done.number) (get state.items key)
step_of state (Delete key) = delete_step state key (get state.items key)
step_of state (Discard key) = delete_step state key (get state.items key)
step_of state (Touch key exptime) = touch_step state key exptime (get state.items key)
step_of state (Flush delay) = (Done, flush_step state (coming (expiry_of delay state.time) state.time))
step_of state op.Stats = (answer.Stats (stats_of state), state)
step_of state op.ResetStats = (answer.Reset, record state { op_stats = no_counts; evicted = 0 })
step_of state (MetaGet asked) = meta_get_step state asked (get state.items asked.key)
step_of state (MetaStore asked) = store_step state asked (λ done. MetaDone done) (get state.items asked.key)
step_of state (MetaDelete asked) = meta_delete_step state asked (get state.items asked.key)
step_of state (MetaCount asked) = count_step state asked (λ done. MetaDone done) (get state.items asked.key)

-- What a settled shard may answer, and its state then: memory may be wanting where the kind of the operation can
-- want it, and nothing changes; else all is determined.
unfoldable pub Answers : State → Op → Answer → State → Type 0
Answers settled op answer new =
    ((answer ≡ NoMemory) × IsTrue (is_lawful (kind_of op) NoMemory) × (new ≡ settled))
    ⊎ ◌≡◌ {A = Outcome} (answer, new) (step_of settled op)

-- one step of a shard: the state, the operation, its moment, the answer, and the state after it, in which it is counted
unfoldable pub IsStep : State → Op → ℕ → Answer → State → Type 0
IsStep old op moment answer new =
    (done : State) × Answers (settle old (key_of op) moment) op answer done
    × (new ≡ noted_in (settle old (key_of op) moment) done op answer)
