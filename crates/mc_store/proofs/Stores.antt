-- The outcomes of storing: which row of the table a look-up leads to.
use Rattle.std.proofs.Common.{◌≡◌, ℕ, ◌+◌, ◌⊎◌, Bool, true, false, List, length, Option, Some, None, is_some, refl, sym}
use Rattle.std.proofs.Common.{◌∙◌, inl, inr, arith, nat_eq, subst, length-append}
use Rattle.std.specs.Cmp.Lexicographic.{pointwise}
use Rattle.std.specs.Prelude.{◌||◌, nat_lt}
use Rattle.std.specs.FinMap.{get}
use Rattle.std.specs.Map.{lookup, set_value}
use Rattle.lru.specs.LruCache.{promoted}
use Rattle.mc_command.specs.declared.command.StoreMode.{StoreMode}
use Rattle.mc_command.specs.declared.command.StoreRequest.{StoreRequest}
use Rattle.mc_command.specs.declared.command.StoreMode.TheVariants.{Set, Add, Append, Prepend}
use Rattle.mc_item.specs.declared.item.Item.{Item}
use Rattle.mc_item.specs.declared.item.Expiry.{Expiry}
use Rattle.mc_item.specs.declared.op.Op.TheVariants.{Store, MetaStore}
use Rattle.mc_item.specs.declared.answer.Answer.{Answer}
use Rattle.mc_item.specs.declared.answer.Answer.TheVariants.{Stored, NotFound, NotStored, Exists, TooLarge, MetaDone}
use Rattle.mc_item.specs.Expiry.{expiry_of}
use Rattle.mc_item.specs.Value.{joined}
use Rattle.mc_item.specs.Kind.{kind_of, is_lawful}
use Rattle.mc_store.specs.internal.Found.{live, joining, is_unconditional}
use Rattle.mc_store.specs.State.{Used, State, without_dead, first, item_overhead, entered}
use Rattle.mc_store.specs.Step.{Outcome, Reply, numbered, is_too_large, is_other, writes, stores, joins, absent_store}
use Rattle.mc_store.specs.Step.{present_store, store_step, step_of}
use Rattle.mc_store.specs.Shard.{ShardContents, Keeps}
use Rattle.mc_store.proofs.Shards.{with_entries, at_now}
use Rattle.mc_store.proofs.Changes.{settled_live}
use Rattle.mc_store.proofs.Writes.{Closes, along, met_time, large_there, too_large, writes_is}
use Rattle.mc_store.proofs.Outcomes.{Ends, ends, absent_as, present_as, unchanged_as, uses_as}

-- a new item of this value, which no client has fetched yet
abbrev pub fresh : List ℕ → ℕ → Expiry → ℕ → Item
fresh value flags expiry unique =
    record {
      value = value;
      flags = flags;
      expiry = expiry;
      unique = unique;
      last_access = 0;
      fetched = false;
      stale = false;
      sent = false;
    }

-- an item that was made for this value, before it has a unique
abbrev pub fresh_of : List ℕ → ℕ → Expiry → Item
fresh_of value flags expiry = fresh value flags expiry 0

pub made_as : (settled : State) (key : List ℕ) (token : Option ℕ) (item made : Item) (reply : Reply) (answer : Answer)
    (new : ShardContents) → item ≡ made
    → Closes settled (writes settled key token item.value (λ unique. record item { unique = unique }) reply) answer new
    → Closes settled (writes settled key token made.value (λ unique. record made { unique = unique }) reply) answer new
made_as settled key token item made reply answer new is closes =
    subst (λ i. Closes settled (writes settled key token i.value (λ unique. record i { unique = unique }) reply) answer
    new) is closes

-- What is asked is stored, with the expiry that the shard's time gives.
stores_is : (held : ShardContents) (state : State) (asked : StoreRequest (List ℕ)) (reply : Reply) → Keeps held state →
    writes (without_dead state (Some asked.key)) asked.key asked.unique asked.value
    (λ unique. fresh asked.value asked.flags (expiry_of asked.exptime held.time) unique) reply
    ≡ stores (without_dead state (Some asked.key)) asked reply
stores_is held state asked reply h =
    let time : (without_dead state (Some asked.key)).time ≡ held.time = met_time state asked.key ∙ h.time in
    subst (λ t. writes (without_dead state (Some asked.key)) asked.key asked.unique asked.value
    (λ unique. fresh asked.value asked.flags (expiry_of asked.exptime t) unique) reply
    ≡ stores (without_dead state (Some asked.key)) asked reply) time refl

-- To write a new item with the value, flags and expiry asked for is to store what is asked.
pub stored_as : (held : ShardContents) (state : State) (asked : StoreRequest (List ℕ)) (item : Item) (reply : Reply)
    (answer : Answer) (new : ShardContents) → Keeps held state → item
    ≡ fresh_of asked.value asked.flags (expiry_of asked.exptime held.time) →
    Closes (without_dead state (Some asked.key))
    (writes (without_dead state (Some asked.key)) asked.key asked.unique item.value
    (λ unique. record item { unique = unique }) reply) answer new
    → Closes (without_dead state (Some asked.key)) (stores (without_dead state (Some asked.key)) asked reply) answer new
stored_as held state asked item reply answer new h made closes =
    along (without_dead state (Some asked.key))
    (writes (without_dead state (Some asked.key)) asked.key asked.unique asked.value
    (λ unique. fresh asked.value asked.flags (expiry_of asked.exptime held.time) unique) reply) (stores
    (without_dead state (Some asked.key)) asked reply) answer new
    (stores_is held state asked reply h)
    (made_as (without_dead state (Some asked.key)) asked.key asked.unique item
    (fresh_of asked.value asked.flags (expiry_of asked.exptime held.time)) reply answer new made closes)

-- a set whose value is not too large
pub set_stored : (held : ShardContents) (state : State) (asked : StoreRequest (List ℕ)) (item : Item) (answer : Answer)
    (new : ShardContents) → Keeps held state → item
    ≡ fresh_of asked.value asked.flags (expiry_of asked.exptime held.time) →
    is_too_large (without_dead state (Some asked.key)) asked.key asked.value ≡ false →
    Closes (without_dead state (Some asked.key))
    (numbered (without_dead state (Some asked.key)) asked.unique
    (λ unique after. (Stored, entered after asked.unique asked.key (record item { unique = unique })))) answer new →
    Closes (without_dead state (Some asked.key)) (stores (without_dead state (Some asked.key)) asked (λ _. Stored))
    answer new
set_stored held state asked item answer new h made small closes =
    let settled = without_dead state (Some asked.key) in
    let item_of : ℕ → Item = λ unique. record item { unique = unique } in
    let is : is_too_large settled asked.key item.value ≡ false = rw made small in
    stored_as held state asked item (λ _. Stored) answer new h made
    (along settled (numbered settled asked.unique
    (λ unique after. (Stored, entered after asked.unique asked.key (item_of unique)))) (writes settled asked.key
    asked.unique item.value item_of (λ _. Stored)) answer new
    (writes_is settled asked.key asked.unique item.value item_of (λ _. Stored) is) closes)

-- Under an absent key

-- Under an absent key, storing at a unique changes nothing and is answered not found.
pub absent_compared : (settled : State) (asked : StoreRequest (List ℕ)) (reply : Reply) (mode : StoreMode)
    (compare : Option ℕ) → true ≡ is_some compare → (NotFound, settled) ≡ absent_store settled asked reply mode compare
absent_compared settled asked reply mode None h = absurd cc
absent_compared settled asked reply mode (Some unique) h = refl

-- Under an absent key, a set or an add at no unique stores what is asked.
pub absent_stored : (settled : State) (asked : StoreRequest (List ℕ)) (reply : Reply) (mode : StoreMode)
    (compare : Option ℕ) → false ≡ is_some compare → (mode ≡ Set) ⊎ (mode ≡ Add) → stores settled asked reply
    ≡ absent_store settled asked reply mode compare
absent_stored settled asked reply mode None h (inl is) = rw is
absent_stored settled asked reply mode None h (inr is) = rw is
absent_stored settled asked reply mode (Some unique) h is = absurd cc

-- Under an absent key, a replace, an append or a prepend at no unique changes nothing and isn't stored.
pub absent_refused : (settled : State) (asked : StoreRequest (List ℕ)) (reply : Reply) (mode : StoreMode)
    (compare : Option ℕ) → false ≡ is_some compare → ¬ (mode ≡ Set) → ¬ (mode ≡ Add) → (NotStored, settled)
    ≡ absent_store settled asked reply mode compare
absent_refused settled asked reply Set None h s a = absurd (s refl)
absent_refused settled asked reply Add None h s a = absurd (a refl)
absent_refused settled asked reply mode None h s a = refl
absent_refused settled asked reply mode (Some unique) h s a = absurd cc

-- Where nothing alive is under the key, storing is as under an absent key.
pub store_misses : (held : ShardContents) (state : State) (asked : StoreRequest (List ℕ)) (reply : Reply)
    → Keeps held state → None ≡ live held.time (lookup (pointwise nat_eq asked.key) held.entries) →
    absent_store (without_dead state (Some asked.key)) asked reply asked.mode asked.compare
    ≡ store_step (without_dead state (Some asked.key)) asked reply
    (get (without_dead state (Some asked.key)).items asked.key)
store_misses held state asked reply h none =
    absent_as held state asked.key (λ s o. store_step s asked reply o)
    (λ s. absent_store s asked reply asked.mode asked.compare) h none (λ s. refl)

-- a set at no unique stores, whatever is there
set_both : (settled : State) (asked : StoreRequest (List ℕ)) (reply : Reply) (mode : StoreMode) (compare : Option ℕ)
    → true ≡ is_unconditional mode compare → asked.mode ≡ mode → asked.compare ≡ compare → (o : Option Used)
    → stores settled asked reply ≡ store_step settled asked reply o
set_both settled asked reply Set None t m n None = rw (m, n)
set_both settled asked reply Set None t m n (Some u) = rw (m, n)
set_both settled asked reply mode compare t m n o = absurd cc

-- A set at no unique stores what is asked, whatever is under the key.
pub set_is : (settled : State) (asked : StoreRequest (List ℕ)) (reply : Reply) → true
    ≡ is_unconditional asked.mode asked.compare → stores settled asked reply
    ≡ store_step settled asked reply (get settled.items asked.key)
set_is settled asked reply t =
    set_both settled asked reply asked.mode asked.compare t refl refl (get settled.items asked.key)

-- Under a key that is there

differs : (s : State) (asked : StoreRequest (List ℕ)) (reply : Reply) (item : Item) (mode : StoreMode) → ¬ (mode ≡ Add)
    → is_other asked.compare item.unique ≡ true → (Exists, s) ≡ present_store s asked reply mode item
differs s asked reply item Add a o = absurd (a refl)
differs s asked reply item mode a o = rw o

-- Storing where the item has another unique changes nothing and is answered that it exists, but for an add.
pub store_exists : (held : ShardContents) (state : State) (item : Item) (asked : StoreRequest (List ℕ)) (reply : Reply)
    → Keeps held state → Some item ≡ live held.time (lookup (pointwise nat_eq asked.key) held.entries) →
    ¬ (asked.mode ≡ Add) → is_other asked.compare item.unique ≡ true
    → Closes (without_dead state (Some asked.key))
    (store_step (without_dead state (Some asked.key)) asked reply
    (get (without_dead state (Some asked.key)).items asked.key)) Exists held
store_exists held state item asked reply h is not_add other =
    unchanged_as held state asked.key item (λ s o. store_step s asked reply o) Exists h is
    (λ s u i. differs s asked reply u.item asked.mode not_add (rw i other))

replaces : (s : State) (asked : StoreRequest (List ℕ)) (reply : Reply) (item : Item) (mode : StoreMode) → ¬ (mode ≡ Add)
    → None ≡ joining mode → is_other asked.compare item.unique ≡ false → stores s asked reply
    ≡ present_store s asked reply mode item
replaces s asked reply item Add a j o = absurd (a refl)
replaces s asked reply item Append a j o = absurd cc
replaces s asked reply item Prepend a j o = absurd cc
replaces s asked reply item mode a j o = rw o

-- a mode that stores what is asked
pub replaced_is : (held : ShardContents) (state : State) (item : Item) (asked : StoreRequest (List ℕ)) (reply : Reply)
    → Keeps held state → Some item ≡ live held.time (lookup (pointwise nat_eq asked.key) held.entries) →
    ¬ (asked.mode ≡ Add) → None ≡ joining asked.mode → is_other asked.compare item.unique ≡ false
    → stores (without_dead state (Some asked.key)) asked reply
    ≡ store_step (without_dead state (Some asked.key)) asked
    reply (get (without_dead state (Some asked.key)).items asked.key)
replaced_is held state item asked reply h is not_add mode other =
    present_as held state asked.key item (λ s o. store_step s asked reply o) (λ _ _ s. stores s asked reply) h is
    (λ s u i. replaces s asked reply u.item asked.mode not_add mode (rw i other))

-- a mode that joins
joint : (s : State) (asked : StoreRequest (List ℕ)) (reply : Reply) (item : Item) (after : Bool) (mode : StoreMode)
    → Some after ≡ joining mode → is_other asked.compare item.unique ≡ false
    → joins s item asked (joined item.value asked.value after) reply ≡ present_store s asked reply mode item
joint s asked reply item after Append j o = let side : after ≡ true = cc in rw (o, side)
joint s asked reply item after Prepend j o = let side : after ≡ false = cc in rw (o, side)
joint s asked reply item after mode j o = absurd cc

pub joined_is : (held : ShardContents) (state : State) (item : Item) (asked : StoreRequest (List ℕ)) (reply : Reply)
    (after : Bool) → Keeps held state → Some item ≡ live held.time (lookup (pointwise nat_eq asked.key) held.entries) →
    Some after ≡ joining asked.mode → is_other asked.compare item.unique ≡ false
    → joins (without_dead state (Some asked.key)) item asked (joined item.value asked.value after) reply
    ≡ store_step (without_dead state (Some asked.key)) asked
    reply (get (without_dead state (Some asked.key)).items asked.key)
joined_is held state item asked reply after h is mode other =
    present_as held state asked.key item (λ s o. store_step s asked reply o)
    (λ i _ s. joins s i asked (joined i.value asked.value after) reply) h is
    (λ s u i. joint s asked reply u.item after asked.mode mode (rw i other))

length_joined : (value block : List ℕ) (after : Bool) → length (joined value block after) ≡ length value + length block
length_joined value block true = length-append value block
length_joined value block false = omega (arith, length-append block value)

-- An append or a prepend that would make a value too large changes nothing and is answered so.
pub joined_large : (held : ShardContents) (state : State) (item : Item) (asked : StoreRequest (List ℕ)) (reply : Reply)
    (after : Bool) → Keeps held state → Some item ≡ live held.time (lookup (pointwise nat_eq asked.key) held.entries) →
    Some after ≡ joining asked.mode → is_other asked.compare item.unique ≡ false → (size : ℕ) → size
    ≡ length item.value + length asked.value
    → (nat_lt held.limit size || nat_lt held.budget (length asked.key + size + item_overhead)) ≡ true
    → Closes (without_dead state (Some asked.key))
    (store_step (without_dead state (Some asked.key)) asked reply
    (get (without_dead state (Some asked.key)).items asked.key)) TooLarge held
joined_large held state item asked reply after h is mode other size size_is test =
    let settled = without_dead state (Some asked.key) in
    let value = joined item.value asked.value after in
    along settled (joins settled item asked value reply) (store_step settled asked reply (get settled.items asked.key))
    TooLarge held
    (joined_is held state item asked reply after h is mode other)
    (too_large settled asked.key asked.unique value
    (λ unique. record item { value = value; unique = unique; fetched = false; stale = false; sent = false }) reply held
    (large_there held state asked.key value size true h (length_joined item.value asked.value after ∙ sym size_is) test)
    (settled_live held state asked.key item h is))

-- To write a new item with the joined value and the old flags and expiry is to append or to prepend.
pub joined_as : (held : ShardContents) (state : State) (item : Item) (asked : StoreRequest (List ℕ)) (reply : Reply)
    (after : Bool) (made : Item) (answer : Answer) (new : ShardContents) → Keeps held state → Some item
    ≡ live held.time (lookup (pointwise nat_eq asked.key) held.entries) →
    Some after ≡ joining asked.mode → is_other asked.compare item.unique ≡ false → made
    ≡ fresh_of (joined item.value asked.value after) item.flags item.expiry →
    Closes (without_dead state (Some asked.key))
    (writes (without_dead state (Some asked.key)) asked.key asked.unique made.value
    (λ unique. record made { unique = unique }) reply) answer new
    → Closes (without_dead state (Some asked.key))
    (store_step (without_dead state (Some asked.key)) asked reply
    (get (without_dead state (Some asked.key)).items asked.key)) answer new
joined_as held state item asked reply after made answer new h is mode other made_is closes =
    let settled = without_dead state (Some asked.key) in
    let value = joined item.value asked.value after in
    along settled (joins settled item asked value reply) (store_step settled asked reply (get settled.items asked.key))
    answer new
    (joined_is held state item asked reply after h is mode other)
    (made_as settled asked.key asked.unique made (fresh_of value item.flags item.expiry) reply answer new made_is
    closes)

-- an add of a key that is there makes the item the first
adds : (s : State) (asked : StoreRequest (List ℕ)) (reply : Reply) (u : Used) (mode : StoreMode) → mode ≡ Add
    → ◌≡◌ {A = Outcome} (NotStored, first s asked.key u.item) (present_store s asked reply mode u.item)
adds s asked reply u mode is = rw is

-- An add under a key that is there isn't stored, but makes the item the most recently used one.
pub add_refused : (held : ShardContents) (state : State) (item : Item) (asked : StoreRequest (List ℕ)) (reply : Reply)
    → Keeps held state → Some item ≡ live held.time (lookup (pointwise nat_eq asked.key) held.entries) → asked.mode
    ≡ Add →
    Closes (without_dead state (Some asked.key))
    (store_step (without_dead state (Some asked.key)) asked reply
    (get (without_dead state (Some asked.key)).items asked.key)) NotStored (with_entries held
    (set_value (pointwise nat_eq asked.key) (promoted (pointwise nat_eq asked.key) held.entries)
    (at_now item held.time)))
add_refused held state item asked reply h is mode =
    uses_as held state asked.key item (λ s o. store_step s asked reply o) (λ _ _. NotStored) (λ i _. i) (λ _ _. refl) h
    is (λ s u _. adds s asked reply u asked.mode mode)

-- From the outcome to the answer of the operation

-- A classic storage command stores as it asks.
pub classic_store : (settled : State) (asked : StoreRequest (List ℕ)) (answer : Answer) (new : ShardContents) →
    Closes settled (store_step settled asked (λ _. Stored) (get settled.items asked.key)) answer new
    → Ends settled (Store asked) answer new
unfolding step_of kind_of is_lawful
classic_store settled asked answer new closes = ends settled (Store asked) answer new (λ _. refl) closes

-- `set` stores what is asked, whatever is under the key.
pub set_classic : (settled : State) (asked : StoreRequest (List ℕ)) (answer : Answer) (new : ShardContents) → true
    ≡ is_unconditional asked.mode asked.compare →
    Closes settled (stores settled asked (λ _. Stored)) answer new → Ends settled (Store asked) answer new
set_classic settled asked answer new is closes =
    classic_store settled asked answer new
    (along settled (stores settled asked (λ _. Stored))
    (store_step settled asked (λ _. Stored) (get settled.items asked.key)) answer new
    (set_is settled asked (λ _. Stored) is) closes)

-- `ms` stores as its flags ask.
pub meta_store : (settled : State) (asked : StoreRequest (List ℕ)) (answer : Answer) (new : ShardContents) →
    Closes settled (store_step settled asked (λ done. MetaDone done) (get settled.items asked.key)) answer new
    → Ends settled (MetaStore asked) answer new
unfolding step_of kind_of is_lawful
meta_store settled asked answer new closes = ends settled (MetaStore asked) answer new (λ _. refl) closes
