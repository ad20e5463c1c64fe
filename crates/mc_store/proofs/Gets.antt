-- The outcomes of reading and touching.
use Rattle.std.proofs.Common.{◌≡◌, ℕ, ℤ, true, false, List, [], Option, Some, None, refl, sym, ap, ◌∙◌, inr, nat_eq}
use Rattle.std.proofs.Common.{subst}
use Rattle.std.specs.Option.{IsSome}
use Rattle.std.specs.Cmp.Lexicographic.{pointwise}
use Rattle.std.specs.FinMap.{get, insert}
use Rattle.std.specs.Map.{lookup, remove_entry, set_value}
use Rattle.lru.specs.LruCache.{promoted}
use Rattle.mc_item.specs.declared.item.Item.{Item}
use Rattle.mc_item.specs.declared.item.Expiry.{Expiry}
use Rattle.mc_item.specs.declared.op.Op.TheVariants.{Fetch, Touch, MetaGet}
use Rattle.mc_command.specs.declared.meta.MetaFetch as op
use Rattle.mc_item.specs.declared.answer.Answer.{Answer}
use Rattle.mc_item.specs.declared.answer.Answer.TheVariants.{Hit, Miss, NoMemory, NotFound, Touched, MetaHit}
use Rattle.mc_item.specs.Expiry.{expiry_of, seconds_left}
use Rattle.mc_item.specs.Kind.{kind_of, is_lawful}
use Rattle.mc_store.specs.internal.Found.{live}
use Rattle.mc_store.specs.State.{State, Used, with_items, without_dead, entered}
use Rattle.mc_store.specs.Rows.{fetched_item, touched_item, shown_item, hit_of, made_hit}
use Rattle.mc_store.specs.Step.{numbered, fetch_step, touch_step, meta_get_step, absent_meta_get, step_of}
use Rattle.mc_store.specs.Shard.{ShardContents, Keeps}
use Rattle.mc_store.proofs.Shards.{with_entries, at_now, misses, set_in_place}
use Rattle.mc_store.proofs.Changes.{settled_again}
use Rattle.mc_store.proofs.Writes.{Closes, along, met_time}
use Rattle.mc_store.proofs.Outcomes.{Ends, ends, here, at_live, misses_as, absent_as, lacks_as, some_of, uses_as}

-- Where nothing alive is under the key, a get misses, and a dead item there is removed.
pub fetch_miss : (held : ShardContents) (state : State) (key : List ℕ) (touch : Option ℤ) → Keeps held state → None
    ≡ live held.time (lookup (pointwise nat_eq key) held.entries)
    → Ends (without_dead state (Some key)) (Fetch key touch) Miss
    (with_entries held (remove_entry (pointwise nat_eq key) held.entries))
unfolding step_of kind_of is_lawful
fetch_miss held state key touch h none =
    ends (without_dead state (Some key)) (Fetch key touch) Miss _ (λ _. refl)
    (misses_as held state key (λ s o. fetch_step s key touch o) Miss h none (λ s. refl))

-- A get of a live item that finds no memory changes nothing.
pub fetch_lacks : (held : ShardContents) (state : State) (key : List ℕ) (touch : Option ℤ) → Keeps held state
    → IsSome (live held.time (lookup (pointwise nat_eq key) held.entries))
    → Ends (without_dead state (Some key)) (Fetch key touch) NoMemory held
unfolding step_of kind_of is_lawful
fetch_lacks held state key touch h some =
    let alive = some_of (live held.time (lookup (pointwise nat_eq key) held.entries)) some in
    ends (without_dead state (Some key)) (Fetch key touch) NoMemory held (λ _. refl)
    (lacks_as held state key alive.0 _ h alive.1)

-- A get of a live item shows it and makes it the most recently used one, fetched, with the expiry that `gat` sets.
pub fetch_hit : (held : ShardContents) (state : State) (key : List ℕ) (touch : Option ℤ) (item : Item)
    → Keeps held state → Some item ≡ live held.time (lookup (pointwise nat_eq key) held.entries)
    → Ends (without_dead state (Some key)) (Fetch key touch) (Hit item.flags item.unique item.value)
    (with_entries held (set_value (pointwise nat_eq key) (promoted (pointwise nat_eq key) held.entries)
    (at_now (fetched_item item touch held.time) held.time)))
unfolding step_of kind_of is_lawful
fetch_hit held state key touch item h is =
    ends (without_dead state (Some key)) (Fetch key touch) (Hit item.flags item.unique item.value) _ (λ _. refl)
    (uses_as held state key item (λ s o. fetch_step s key touch o) (λ i _. Hit i.flags i.unique i.value)
    (λ i time. fetched_item i touch time) (λ _ _. refl) h is (λ s u _. refl))

-- Where nothing alive is under the key, `touch` finds none, and a dead item there is removed.
pub touch_miss : (held : ShardContents) (state : State) (key : List ℕ) (exptime : ℤ) → Keeps held state → None
    ≡ live held.time (lookup (pointwise nat_eq key) held.entries)
    → Ends (without_dead state (Some key)) (Touch key exptime) NotFound
    (with_entries held (remove_entry (pointwise nat_eq key) held.entries))
unfolding step_of kind_of is_lawful
touch_miss held state key exptime h none =
    ends (without_dead state (Some key)) (Touch key exptime) NotFound _ (λ e. absurd cc)
    (misses_as held state key (λ s o. touch_step s key exptime o) NotFound h none (λ s. refl))

-- A `touch` of a live item that finds no memory changes nothing.
pub touch_lacks : (held : ShardContents) (state : State) (key : List ℕ) (exptime : ℤ) (item : Item) → Keeps held state
    → Some item ≡ live held.time (lookup (pointwise nat_eq key) held.entries)
    → Ends (without_dead state (Some key)) (Touch key exptime) NoMemory held
unfolding step_of kind_of is_lawful
touch_lacks held state key exptime item h is =
    ends (without_dead state (Some key)) (Touch key exptime) NoMemory held (λ _. refl)
    (lacks_as held state key item _ h is)

-- `touch` gives a live item its new expiry and makes it the most recently used one.
pub touch_hit : (held : ShardContents) (state : State) (key : List ℕ) (exptime : ℤ) (item : Item) → Keeps held state
    → Some item ≡ live held.time (lookup (pointwise nat_eq key) held.entries)
    → Ends (without_dead state (Some key)) (Touch key exptime) Touched
    (with_entries held (set_value (pointwise nat_eq key) (promoted (pointwise nat_eq key) held.entries)
    (at_now (touched_item item exptime held.time) held.time)))
unfolding step_of kind_of is_lawful
touch_hit held state key exptime item h is =
    ends (without_dead state (Some key)) (Touch key exptime) Touched _ (λ e. absurd cc)
    (uses_as held state key item (λ s o. touch_step s key exptime o) (λ _ _. Touched)
    (λ i time. touched_item i exptime time) (λ _ _. refl) h is (λ s u _. refl))

-- `mg` of a live item that finds no memory changes nothing.
pub meta_get_lacks : (held : ShardContents) (state : State) (asked : op.MetaFetch) → Keeps held state
    → IsSome (live held.time (lookup (pointwise nat_eq asked.key) held.entries))
    → Ends (without_dead state (Some asked.key)) (MetaGet asked) NoMemory held
unfolding step_of kind_of is_lawful
meta_get_lacks held state asked h some =
    let alive = some_of (live held.time (lookup (pointwise nat_eq asked.key) held.entries)) some in
    ends (without_dead state (Some asked.key)) (MetaGet asked) NoMemory held (λ _. refl)
    (lacks_as held state asked.key alive.0 _ h alive.1)

-- `mg` of a live item shows it and makes it the most recently used one, where its use is noted.
pub meta_get_hit : (held : ShardContents) (state : State) (asked : op.MetaFetch) (item : Item) → asked.unnoted ≡ false
    → Keeps held state → Some item ≡ live held.time (lookup (pointwise nat_eq asked.key) held.entries)
    → Ends (without_dead state (Some asked.key)) (MetaGet asked)
    (MetaHit (hit_of item asked.touch asked.recache held.time))
    (with_entries held (set_value (pointwise nat_eq asked.key) (promoted (pointwise nat_eq asked.key) held.entries)
    (at_now (shown_item item asked.touch asked.recache held.time) held.time)))
unfolding step_of kind_of is_lawful
meta_get_hit held state asked item noted h is =
    ends (without_dead state (Some asked.key)) (MetaGet asked)
    (MetaHit (hit_of item asked.touch asked.recache held.time)) _ (λ _. refl)
    (uses_as held state asked.key item (λ s o. meta_get_step s asked o)
    (λ i time. MetaHit (hit_of i asked.touch asked.recache time))
    (λ i time. shown_item i asked.touch asked.recache time) (λ _ _. refl) h is (λ s u _. rw noted))

-- the item that a hit leaves whose use isn't noted
abbrev pub seen : op.MetaFetch → Item → ℕ → Item
seen asked item time = record (shown_item item asked.touch asked.recache time) { fetched = item.fetched }

sees : (s : State) (asked : op.MetaFetch) (u : Used) → asked.unnoted ≡ true → (
  MetaHit (hit_of u.item asked.touch asked.recache s.time),
  with_items s (insert s.items asked.key (record u { item = seen asked u.item s.time })),
) ≡ meta_get_step s asked (Some u)
sees s asked u unnoted = rw unnoted

-- Where its use isn't noted, `mg` of a live item shows it and leaves it at its place in the order of use.
pub meta_see_hit : (held : ShardContents) (state : State) (asked : op.MetaFetch) (item : Item) → asked.unnoted ≡ true
    → Keeps held state → Some item ≡ live held.time (lookup (pointwise nat_eq asked.key) held.entries)
    → Ends (without_dead state (Some asked.key)) (MetaGet asked)
    (MetaHit (hit_of item asked.touch asked.recache held.time))
    (with_entries held (set_value (pointwise nat_eq asked.key) held.entries (seen asked item held.time)))
unfolding step_of kind_of is_lawful
meta_see_hit held state asked item unnoted h is =
    ends (without_dead state (Some asked.key)) (MetaGet asked)
    (MetaHit (hit_of item asked.touch asked.recache held.time)) _ (λ _. refl)
    (at_live held state asked.key item h is
    (λ i time settled. Closes settled (here (λ s o. meta_get_step s asked o) settled asked.key)
    (MetaHit (hit_of i asked.touch asked.recache time))
    (with_entries held (set_value (pointwise nat_eq asked.key) held.entries (seen asked i time))))
    (λ u found. (
      with_items state (insert state.items asked.key (record u { item = seen asked u.item state.time })),
      inr (sees state asked u unnoted ∙ sym (ap (λ o. meta_get_step state asked o) found)),
      set_in_place held state asked.key u (seen asked u.item state.time) h found refl,
    )))

-- the key was settled, and is settled once more by what makes the item
pub meta_get_absent : (held : ShardContents) (state : State) (asked : op.MetaFetch) (answer : Answer)
    (new : ShardContents) → Keeps held state → None
    ≡ live held.time (lookup (pointwise nat_eq asked.key) held.entries) →
    (let again = without_dead (without_dead state (Some asked.key)) (Some asked.key) in
    Closes again (absent_meta_get again asked.key asked.vivify) answer new)
    → Ends (without_dead state (Some asked.key)) (MetaGet asked) answer new
unfolding step_of kind_of is_lawful
meta_get_absent held state asked answer new h none closes =
    let settled = without_dead state (Some asked.key) in
    let once = subst (λ s. Closes s (absent_meta_get s asked.key asked.vivify) answer new)
    (settled_again settled asked.key (misses held state asked.key h none).gone) closes in
    ends settled (MetaGet asked) answer new (λ _. refl)
    (along settled (absent_meta_get settled asked.key asked.vivify)
    (meta_get_step settled asked (get settled.items asked.key)) answer new
    (absent_as held state asked.key (λ s o. meta_get_step s asked o) (λ s. absent_meta_get s asked.key asked.vivify) h
    none (λ s. refl)) once)

-- an item that mg makes, before it has a unique
abbrev pub empty_item : Expiry → ℕ → Item
empty_item expiry unique =
    record {
      value = [];
      flags = 0;
      expiry = expiry;
      unique = unique;
      last_access = 0;
      fetched = false;
      stale = false;
      sent = true;
    }

pub vivified_is : (held : ShardContents) (state : State) (key : List ℕ) (exptime : ℤ) → Keeps held state →
    numbered (without_dead state (Some key)) None
    (λ unique given. (
      MetaHit (made_hit (empty_item (expiry_of exptime held.time) unique) held.time),
      entered given None key (empty_item (expiry_of exptime held.time) unique),
    )) ≡ absent_meta_get (without_dead state (Some key)) key (Some exptime)
vivified_is held state key exptime h =
    let time : (without_dead state (Some key)).time ≡ held.time = met_time state key ∙ h.time in
    subst (λ t. numbered (without_dead state (Some key)) None
    (λ unique given. (
      MetaHit (made_hit (empty_item (expiry_of exptime t) unique) t),
      entered given None key (empty_item (expiry_of exptime t) unique),
    )) ≡ absent_meta_get (without_dead state (Some key)) key (Some exptime)) time refl

-- To write an empty item with its expiry and the shard's next unique is what `mg` does where it makes one of a miss.
pub vivified_item_as : (held : ShardContents) (state : State) (key : List ℕ) (exptime : ℤ) (item : Item)
    (answer : Answer) (new : ShardContents) → Keeps held state → item ≡ empty_item (expiry_of exptime held.time) 0 →
    Closes (without_dead state (Some key))
    (numbered (without_dead state (Some key)) None
    (λ unique given. (
      MetaHit (made_hit (record item { unique = unique }) held.time),
      entered given None key (record item { unique = unique }),
    ))) answer new → Closes (without_dead state (Some key)) (absent_meta_get (without_dead state (Some key)) key (Some
    exptime)) answer new
vivified_item_as held state key exptime item answer new h is closes =
    along (without_dead state (Some key))
    (numbered (without_dead state (Some key)) None
    (λ unique given. (
      MetaHit (made_hit (empty_item (expiry_of exptime held.time) unique) held.time),
      entered given None key (empty_item (expiry_of exptime held.time) unique),
    ))) (absent_meta_get (without_dead state (Some key)) key (Some exptime)) answer new
    (vivified_is held state key exptime h)
    (subst (λ i. Closes (without_dead state (Some key))
    (numbered (without_dead state (Some key)) None
    (λ unique given. (
      MetaHit (made_hit (record i { unique = unique }) held.time),
      entered given None key (record i { unique = unique }),
    ))) answer new) is closes)

-- `touch` where the exptime is an option
pub vivified_as : (settled : State) (key : List ℕ) (vivify : Option ℤ) (exptime : ℤ) (answer : Answer)
    (new : ShardContents) → vivify ≡ Some exptime
    → Closes settled (absent_meta_get settled key (Some exptime)) answer new
    → Closes settled (absent_meta_get settled key vivify) answer new
vivified_as settled key vivify exptime answer new is closes =
    subst (λ v. Closes settled (absent_meta_get settled key v) answer new) (sym is) closes

-- Of an item that it made, `mg` shows an empty value, flags 0, its unique and its time left, with `W`.
pub made_hit_is : (item : Item) (expiry : Expiry) (unique time : ℕ) (left : Option ℕ) → item ≡ empty_item expiry 0
    → left ≡ seconds_left item.expiry time → made_hit (record item { unique = unique }) time
    ≡ record {
      value = [];
      flags = 0;
      unique = unique;
      fetched = false;
      idle = 0;
      left = left;
      marks = record { won = true; stale = false; sent = false };
    }
made_hit_is item expiry unique time left is left_is = rw (left_is, is)
