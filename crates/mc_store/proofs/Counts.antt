-- The outcomes of counting.
use Rattle.std.proofs.Common.{◌≡◌, ℕ, true, false, List, Option, Some, None, refl, sym, ap, ◌∙◌, nat_eq, subst}
use Rattle.std.specs.Cmp.Lexicographic.{pointwise}
use Rattle.std.specs.FinMap.{get}
use Rattle.std.specs.Map.{lookup}
use Rattle.mc_command.specs.declared.command.Direction.{Direction}
use Rattle.mc_item.specs.declared.item.Item.{Item}
use Rattle.mc_command.specs.declared.meta.Vivify.{Vivify}
use Rattle.mc_item.specs.declared.op.Op.TheVariants.{Count, MetaCount}
use Rattle.mc_command.specs.declared.meta.MetaCount as op
use Rattle.mc_item.specs.declared.answer.Answer.{Answer}
use Rattle.mc_item.specs.declared.answer.Answer.TheVariants.{Exists, NonNumeric, Number, MetaDone}
use Rattle.mc_item.specs.Expiry.{expiry_of}
use Rattle.mc_item.specs.Value.{number_in, number_text}
use Rattle.mc_item.specs.Kind.{kind_of, is_lawful}
use Rattle.mc_store.specs.internal.Found.{live}
use Rattle.mc_store.specs.State.{State, without_dead, entered}
use Rattle.mc_store.specs.Rows.{counted_item, done_of}
use Rattle.mc_store.specs.Step.{Outcome, Reply, is_other, numbered, new_number, changes, counting, absent_count}
use Rattle.mc_store.specs.Step.{count_step, step_of}
use Rattle.mc_store.specs.Shard.{ShardContents, Keeps}
use Rattle.mc_store.proofs.Writes.{Closes, along, met_time}
use Rattle.mc_store.proofs.Outcomes.{Ends, ends, absent_as, present_as, unchanged_as}
use Rattle.mc_store.proofs.Stores.{fresh, fresh_of}

-- what is written, with a new unique and what is answered of it
abbrev pub done_with : State → List ℕ → Option ℕ → (ℕ → Item) → ℕ → Reply → Outcome
done_with settled key token item_of number reply =
    numbered settled token (λ unique given.
    (reply (done_of (item_of unique) number settled.time), entered given token key (item_of unique)))

pub written_as : (settled : State) (key : List ℕ) (token : Option ℕ) (item made : Item) (number : ℕ) (reply : Reply)
    (answer : Answer) (new : ShardContents) → item ≡ made
    → Closes settled (done_with settled key token (λ unique. record item { unique = unique }) number reply) answer new
    → Closes settled (done_with settled key token (λ unique. record made { unique = unique }) number reply) answer new
written_as settled key token item made number reply answer new is closes =
    subst (λ i. Closes settled (done_with settled key token (λ unique. record i { unique = unique }) number reply)
    answer new) is closes

-- a counter that is made of a miss
counter_is : (held : ShardContents) (state : State) (key : List ℕ) (token : Option ℕ) (made : Vivify) (reply : Reply)
    → Keeps held state →
    done_with (without_dead state (Some key)) key token
    (λ unique. fresh (number_text made.initial) 0 (expiry_of made.exptime held.time) unique) made.initial reply
    ≡ absent_count (without_dead state (Some key)) key token reply (Some made)
counter_is held state key token made reply h =
    let time : (without_dead state (Some key)).time ≡ held.time = met_time state key ∙ h.time in
    subst (λ t. done_with (without_dead state (Some key)) key token
    (λ unique. fresh (number_text made.initial) 0 (expiry_of made.exptime t) unique) made.initial reply
    ≡ absent_count (without_dead state (Some key)) key token reply (Some made)) time refl

-- To write a new item with the initial number and its expiry is what counting does where it makes a counter of a miss.
pub counter_as : (held : ShardContents) (state : State) (key : List ℕ) (token : Option ℕ) (made : Vivify) (item : Item)
    (reply : Reply) (answer : Answer) (new : ShardContents) → Keeps held state → item
    ≡ fresh_of (number_text made.initial) 0 (expiry_of made.exptime held.time) →
    Closes (without_dead state (Some key))
    (done_with (without_dead state (Some key)) key token (λ unique. record item { unique = unique }) made.initial reply)
    answer new → Closes (without_dead state (Some key))
    (absent_count (without_dead state (Some key)) key token reply (Some made)) answer new
counter_as held state key token made item reply answer new h is closes =
    along (without_dead state (Some key))
    (done_with (without_dead state (Some key)) key token
    (λ unique. fresh (number_text made.initial) 0 (expiry_of made.exptime held.time) unique) made.initial reply)
    (absent_count (without_dead state (Some key)) key token reply (Some made)) answer new
    (counter_is held state key token made reply h)
    (written_as (without_dead state (Some key)) key token item
    (fresh_of (number_text made.initial) 0 (expiry_of made.exptime held.time)) made.initial reply answer new is closes)

-- Where nothing alive is under the key, counting is as under an absent key.
pub count_misses : (held : ShardContents) (state : State) (asked : op.MetaCount) (reply : Reply) (answer : Answer)
    (new : ShardContents) → Keeps held state → None
    ≡ live held.time (lookup (pointwise nat_eq asked.key) held.entries) →
    Closes (without_dead state (Some asked.key))
    (absent_count (without_dead state (Some asked.key)) asked.key asked.unique reply asked.vivify) answer new
    → Closes (without_dead state (Some asked.key))
    (count_step (without_dead state (Some asked.key)) asked reply (get (without_dead state (Some asked.key)).items
    asked.key)) answer new
count_misses held state asked reply answer new h none closes =
    along (without_dead state (Some asked.key))
    (absent_count (without_dead state (Some asked.key)) asked.key asked.unique reply asked.vivify)
    (count_step (without_dead state (Some asked.key))
    asked reply (get (without_dead state (Some asked.key)).items asked.key)) answer new
    (absent_as held state asked.key (λ s o. count_step s asked reply o)
    (λ s. absent_count s asked.key asked.unique reply asked.vivify) h none (λ s. refl)) closes

-- Counting an item whose unique isn't the one asked for changes nothing and is answered that it exists.
pub count_exists : (held : ShardContents) (state : State) (item : Item) (asked : op.MetaCount) (reply : Reply)
    → Keeps held state → Some item ≡ live held.time (lookup (pointwise nat_eq asked.key) held.entries)
    → is_other asked.compare item.unique ≡ true →
    Closes (without_dead state (Some asked.key))
    (count_step (without_dead state (Some asked.key)) asked reply
    (get (without_dead state (Some asked.key)).items asked.key)) Exists held
count_exists held state item asked reply h is other =
    unchanged_as held state asked.key item (λ s o. count_step s asked reply o) Exists h is
    (λ s u i. let o : is_other asked.compare u.item.unique ≡ true = rw i other in rw o)

-- Counting an item whose value is no number, at its unique or at none, changes nothing and is answered so.
pub count_fails : (held : ShardContents) (state : State) (item : Item) (asked : op.MetaCount) (reply : Reply)
    → Keeps held state → Some item ≡ live held.time (lookup (pointwise nat_eq asked.key) held.entries)
    → is_other asked.compare item.unique ≡ false → None ≡ number_in item.value →
    Closes (without_dead state (Some asked.key))
    (count_step (without_dead state (Some asked.key)) asked reply
    (get (without_dead state (Some asked.key)).items asked.key)) NonNumeric held
count_fails held state item asked reply h is other none =
    unchanged_as held state asked.key item (λ s o. count_step s asked reply o) NonNumeric h is (λ s u i.
    let o : is_other asked.compare u.item.unique ≡ false = rw i other in
    let no_number : None ≡ number_in u.item.value = rw i none in
    rw (o, ← no_number))

-- the item with its new number, before it has a new unique
pub counted_as : (held : ShardContents) (state : State) (item : Item) (asked : op.MetaCount) (reply : Reply)
    (number : ℕ) (new_item : Item) (answer : Answer) (new : ShardContents) → Keeps held state → Some item
    ≡ live held.time (lookup (pointwise nat_eq asked.key) held.entries) →
    is_other asked.compare item.unique ≡ false → Some number ≡ number_in item.value → new_item
    ≡ counted_item item (new_number asked.direction number asked.amount) asked.exptime held.time item.unique →
    Closes (without_dead state (Some asked.key))
    (done_with (without_dead state (Some asked.key)) asked.key asked.unique
    (λ unique. record new_item { unique = unique }) (new_number asked.direction number asked.amount) reply) answer new →
    Closes (without_dead state (Some asked.key))
    (count_step (without_dead state (Some asked.key)) asked reply
    (get (without_dead state (Some asked.key)).items asked.key)) answer new
counted_as held state item asked reply number new_item answer new h is other number_is made closes =
    let settled = without_dead state (Some asked.key) in
    let to = new_number asked.direction number asked.amount in
    let time : settled.time ≡ held.time = met_time state asked.key ∙ h.time in
    let same : done_with settled asked.key asked.unique (λ unique. counted_item item to asked.exptime held.time unique)
    to reply ≡ changes settled item asked to reply
    =
    subst (λ t. done_with settled asked.key asked.unique (λ unique. counted_item item to asked.exptime t unique) to
    reply ≡ changes settled item asked to reply) time refl in
    along settled (changes settled item asked to reply) (count_step settled asked reply (get settled.items asked.key))
    answer new
    (present_as held state asked.key item (λ s o. count_step s asked reply o) (λ i _ s. changes s i asked to reply) h is
    (λ s u i.
    let o : is_other asked.compare u.item.unique ≡ false = rw i other in
    let number_there : Some number ≡ number_in u.item.value = rw i number_is in
    rw (o, ← number_there)))
    (along settled (done_with settled asked.key asked.unique
    (λ unique. counted_item item to asked.exptime held.time unique) to reply) (changes settled item asked to reply)
    answer new same
    (written_as settled asked.key asked.unique new_item (counted_item item to asked.exptime held.time item.unique) to
    reply answer new made closes))

-- counting where the new number was computed
pub counted_by : (held : ShardContents) (state : State) (item : Item) (asked : op.MetaCount) (reply : Reply)
    (number to : ℕ) (new_item : Item) (answer : Answer) (new : ShardContents) → Keeps held state → Some item
    ≡ live held.time (lookup (pointwise nat_eq asked.key) held.entries) →
    is_other asked.compare item.unique ≡ false → Some number ≡ number_in item.value → to
    ≡ new_number asked.direction number asked.amount → new_item
    ≡ counted_item item to asked.exptime held.time item.unique →
    Closes (without_dead state (Some asked.key))
    (done_with (without_dead state (Some asked.key)) asked.key asked.unique
    (λ unique. record new_item { unique = unique }) to reply) answer new →
    Closes (without_dead state (Some asked.key))
    (count_step (without_dead state (Some asked.key)) asked reply
    (get (without_dead state (Some asked.key)).items asked.key)) answer new
counted_by held state item asked reply number to new_item answer new h is other number_is to_is made closes =
    counted_as held state item asked reply number new_item answer new h is other number_is
    (made ∙ ap (λ n. counted_item item n asked.exptime held.time item.unique) to_is)
    (subst (λ n. Closes (without_dead state (Some asked.key))
    (done_with (without_dead state (Some asked.key)) asked.key asked.unique
    (λ unique. record new_item { unique = unique }) n reply) answer new) to_is closes)

-- `incr` and `decr` count at no unique, make nothing of a miss and leave the expiry.
pub classic_count : (settled : State) (key : List ℕ) (direction : Direction) (amount : ℕ) (answer : Answer)
    (new : ShardContents) →
    Closes settled (count_step settled (counting key direction amount) (λ done. Number done.number)
    (get settled.items key)) answer new → Ends settled (Count key direction amount) answer new
unfolding step_of kind_of is_lawful
classic_count settled key direction amount answer new closes =
    ends settled (Count key direction amount) answer new (λ _. refl) closes

-- `ma` counts as its flags ask.
pub meta_count : (settled : State) (asked : op.MetaCount) (answer : Answer) (new : ShardContents) →
    Closes settled (count_step settled asked (λ done. MetaDone done) (get settled.items asked.key)) answer new
    → Ends settled (MetaCount asked) answer new
unfolding step_of kind_of is_lawful
meta_count settled asked answer new closes = ends settled (MetaCount asked) answer new (λ _. refl) closes

-- counting where what is to be made is an option
pub vivified_as : (settled : State) (key : List ℕ) (token : Option ℕ) (vivify : Option Vivify) (made : Vivify)
    (reply : Reply) (answer : Answer) (new : ShardContents) → vivify ≡ Some made
    → Closes settled (absent_count settled key token reply (Some made)) answer new
    → Closes settled (absent_count settled key token reply vivify) answer new
vivified_as settled key token vivify made reply answer new is closes =
    subst (λ v. Closes settled (absent_count settled key token reply v) answer new) (sym is) closes
