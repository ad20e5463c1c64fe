-- The laws of the step.
use Rattle.std.proofs.Common.{◌≡◌, ℕ, ◌+◌, ◌*◌, ◌<◌, ◌^◌, ℤ, Bool, true, false, ◌⊎◌, List, [], ◌++◌, Option, Some, None}
use Rattle.std.proofs.Common.{refl, sym, ap, ◌∙◌, inl, inr, arith, nat_lt, max, min, subst}
use Rattle.std.specs.Prelude.{◌||◌, not, if◌then◌else◌}
use Rattle.std.specs.FinMap.{get, insert, remove}
use Rattle.std.proofs.lemmas.Bool.{cases_Bool, both_ways, not-true, and_parts, or_right}
use Rattle.std.proofs.lemmas.Nat.{same_from_place}
use Rattle.std.proofs.Math.Nat.{mul_comm}
use Rattle.mc_command.specs.declared.command.StoreMode.{StoreMode}
use Rattle.mc_command.specs.declared.command.StoreMode.TheVariants.{Set, Add, Append, Prepend}
use Rattle.mc_wire.specs.Limits.{latest_moment}
use Rattle.mc_item.specs.declared.item.Item.{Item}
use Rattle.mc_item.specs.declared.op.Op.{Op}
use Rattle.mc_item.specs.declared.op.Op.TheVariants.{Store, Fetch, Count, Delete, Discard, Touch, Flush, Stats}
use Rattle.mc_item.specs.declared.op.Op.TheVariants.{ResetStats, MetaGet, MetaStore, MetaDelete, MetaCount}
use Rattle.mc_command.specs.declared.meta.MetaRemoval as op
use Rattle.mc_command.specs.declared.meta.MetaFetch as mg
use Rattle.mc_command.specs.declared.command.StoreRequest.{StoreRequest}
use Rattle.mc_command.specs.declared.meta.MetaCount as ma
use Rattle.mc_command.specs.declared.meta.Vivify.{Vivify}
use Rattle.mc_item.specs.declared.answer.Kind.{Kind}
use Rattle.mc_item.specs.declared.answer.Kind.TheVariants as kind
use Rattle.mc_item.specs.declared.answer.Answer.{Answer}
use Rattle.mc_item.specs.declared.answer.Answer.TheVariants.{NoCas, NoMemory, NotFound, Stored, Number, MetaDone, Hit}
use Rattle.mc_item.specs.declared.answer.Answer.TheVariants.{Miss, MetaHit, Touched, Exists, Deleted, Done, TooLarge}
use Rattle.mc_item.specs.declared.answer.Answer.TheVariants.{NotStored, NonNumeric, Reset}
use Rattle.mc_item.specs.declared.answer.Answer.TheVariants as shown
use Rattle.mc_item.specs.declared.answer.MetaDone as done
use Rattle.mc_item.specs.declared.answer.MetaHit as hit
use Rattle.mc_item.specs.declared.op_stats.OpStats.{OpStats}
use Rattle.mc_item.specs.Expiry.{expiry_of, seconds_left}
use Rattle.mc_item.specs.Value.{number_in}
use Rattle.mc_item.specs.Kind.{kind_of, key_of, is_lawful}
use Rattle.mc_item.specs.OpStats.{no_counts}
use Rattle.mc_store.specs.State.{Used, Items, Turn, State, is_due, arrived, is_dead_at, with_items, without_dead}
use Rattle.mc_store.specs.State.{settle, first, evicting, used_since, costs, entered, next_unique, with_given}
use Rattle.mc_store.specs.Rows.{fetched_item, touched_item, stored_item, joined_item, counted_item, counter_item}
use Rattle.mc_store.specs.Rows.{vivified_item, stale_item, shown_item, hit_of, made_hit, done_of, is_won}
use Rattle.mc_store.specs.Rows.{has_fewer_left}
use Rattle.mc_store.specs.Step.{Outcome, Reply, is_other, compared, numbered, is_too_large, writes, stores, joins}
use Rattle.mc_store.specs.Step.{absent_store, present_store, store_step, counting, absent_count, counts, count_step}
use Rattle.mc_store.specs.Step.{fetch_step, touch_step, absent_meta_get, meta_get_step, shows, delete_step, stales}
use Rattle.mc_store.specs.Step.{meta_delete_step, new_number, coming, flush_step, stats_of, noted_in, step_of, Answers}
use Rattle.mc_store.specs.Step.{IsStep}
use Rattle.mc_store.specs.Laws.{StaysUnless, tells_stored, IsEvicted, IsReclaimed, SameStored, IsKept, HasNewUnique}
use Rattle.mc_store.specs.Laws.{token_of, is_sent, may_clear_sent, AnswersAreLawful, StepsAgree, OthersStay}
use Rattle.mc_store.specs.Laws.{UniquesRise, UniquesDiffer, UniquesTell, TokensAreTaken, TimeRises, WinnersAreFirst}
use Rattle.mc_store.specs.Laws.{SentStays}
use Rattle.mc_store.proofs.Lists.{same, same_is, by_key, nothing, get_nothing, get_gone, get_apart, get_here, get_other}
use Rattle.mc_store.proofs.Lists.{get_kept, inserted_all}
use Rattle.mc_store.proofs.Costs.{fitting_key, fitting_other}
use Rattle.mc_store.proofs.Shards.{at_now}
use Rattle.mc_store.proofs.Turns.{twice_other, twice_entering}

-- what a step leaves of the place and the budget of its shard
pub record SamePlace (old new : State) : Type 0 where
  pub index : new.index ≡ old.index
  pub shards : new.shards ≡ old.shards
  pub budget : new.budget ≡ old.budget

-- Why another item may go
abbrev Reason : State → Kind → Option (List ℕ) → Answer → Items → List ℕ → Type 0
Reason settled asked key answer new other =
    (asked ≡ kind.Flush) ⊎ (IsEvicted settled key answer new other ⊎ IsReclaimed settled key answer other)

-- What an outcome of an operation on the key, which gives this unique of the client's, keeps of the settled state
record Follows (settled : State) (asked : Kind) (token : Option ℕ) (key : Option (List ℕ)) (outcome : Outcome) : Type 0
  where
    given : (outcome.1.given ≡ settled.given) ⊎ (outcome.1.given ≡ settled.given + 1)
    taken : (unique : ℕ) → token ≡ Some unique → (outcome.1.given ≡ settled.given) × ¬ (outcome.0 ≡ NoCas)
    time : outcome.1.time ≡ settled.time
    place : SamePlace settled outcome.1
    others : (other : List ℕ) → ¬ (key ≡ Some other)
        → StaysUnless (Reason settled asked key outcome.0 outcome.1.items other) settled.items outcome.1.items other
    lawful : is_lawful asked outcome.0 ≡ true
    items : (k : List ℕ) (u : Used) → get outcome.1.items k ≡ Some u → IsKept settled.items k u.item
        ⊎ HasNewUnique settled outcome.1 token u.item
    sent : may_clear_sent asked ≡ false → (k : List ℕ) → is_sent settled.items k ≡ true → (get outcome.1.items k ≡ None)
        ⊎ (is_sent outcome.1.items k ≡ true)

-- what is to be shown of the items that such an outcome leaves, where the shard gives no unique
record Leaves (s : State) (asked : Kind) (token : Option ℕ) (key : Option (List ℕ)) (answer : Answer) (items : Items) :
    Type 0 where
  others : (other : List ℕ) → ¬ (key ≡ Some other)
      → StaysUnless (Reason s asked key answer items other) s.items items other
  items_are : (k : List ℕ) (u : Used) → get items k ≡ Some u → IsKept s.items k u.item ⊎ (token ≡ Some u.item.unique)
  sent : may_clear_sent asked ≡ false → (k : List ℕ) → is_sent s.items k ≡ true → (get items k ≡ None)
      ⊎ (is_sent items k ≡ true)

-- no unique is wanting where the client gives one
abbrev HasUnique : Option ℕ → Answer → Type 0
HasUnique token answer = (unique : ℕ) → token ≡ Some unique → ¬ (answer ≡ NoCas)

follows : (s : State) (asked : Kind) (token : Option ℕ) (key : Option (List ℕ)) (answer : Answer) (items : Items)
    (turns : List Turn) (uses : ℕ) (flush : Option ℕ) (op_stats : OpStats) (evicted : ℕ) →
    HasUnique token answer → is_lawful asked answer ≡ true → Leaves s asked token key answer items
    → Follows s asked token key (
      answer,
      record s {
        items = items;
        turns = turns;
        uses = uses;
        flush = flush;
        op_stats = op_stats;
        evicted = evicted;
      },
    )
follows s asked token key answer items turns uses flush op_stats evicted has lawful leaves = record {
  given = inl refl;
  taken = λ unique is. (refl, has unique is);
  time = refl;
  place = assumption;
  others = leaves.others;
  lawful = lawful;
  items = λ k u h. elim (leaves.items_are k u h) [ inl kept ↦ inl kept | inr new ↦ inr (inr new) ];
  sent = leaves.sent;
}

-- the shard's next unique in place of the client's: one more is given
by_shard : (s new : State) (asked : Kind) (key : Option (List ℕ)) (answer : Answer)
    → Follows s asked (Some (next_unique s)) key (answer, new) →
    Follows s asked None key (answer, with_given new)
by_shard s new asked key answer by_client =
    let given : new.given + 1 ≡ s.given + 1 = ap (λ n. n + 1) (by_client.taken (next_unique s) refl).0 in
    record {
      given = inr given;
      taken = λ unique is. absurd cc;
      time = by_client.time;
      place = assumption;
      others = by_client.others;
      lawful = by_client.lawful;
      items = λ k u h. elim (by_client.items k u h) [
        | inl kept ↦ inl kept
        | inr new_is ↦ inr (inl (elim new_is [ inl fresh ↦ fresh.0 | inr is ↦ cc ], given))
      ];
      sent = by_client.sent;
    }

-- Items under each key

itself : (m : Items) (k : List ℕ) (u : Used) → get m k ≡ Some u → IsKept m k u.item
itself m k u h = (u, h, assumption)

-- Two keys that aren't one differ.
pub apart : (key other : List ℕ) → ¬ (Some key ≡ Some other) → same other key ≡ false
apart key other differ = elim (cases_Bool (same other key)) [
  | inl t ↦ absurd (differ (ap (λ k. Some k) (sym (same_is other key t))))
  | inr f ↦ f
]

-- an item, as it is put first
abbrev pub put_at : State → Item → Used
put_at s item = record { item = at_now item s.time; number = s.uses + 1 }

-- the items where one was put, and those where others went for it
inserted_are : (m : Items) (token : Option ℕ) (key : List ℕ) (u : Used) → IsKept m key u.item
    ⊎ (token ≡ Some u.item.unique) →
    (k : List ℕ) (v : Used) → get (insert m key u) k ≡ Some v → IsKept m k v.item ⊎ (token ≡ Some v.item.unique)
inserted_are m token key u here =
    inserted_all m key u (λ k v. IsKept m k v.item ⊎ (token ≡ Some v.item.unique)) here (λ k v h. inl (itself m k v h))

sent_inserted : (m : Items) (key : List ℕ) (u : Used) → (is_sent m key ≡ true → u.item.sent ≡ true) → (k : List ℕ)
    → is_sent m k ≡ true →
    is_sent (insert m key u) k ≡ true
sent_inserted m key u keeps k = by_key (λ q. is_sent m q ≡ true → is_sent (insert m key u) q ≡ true) key k
    (λ h. rw (get_here m key u) (keeps h)) (λ f h. rw (get_other m key k u f) h)

-- Each form of an outcome

unchanged : (s : State) (asked : Kind) (token : Option ℕ) (key : Option (List ℕ)) (answer : Answer)
    → HasUnique token answer →
    is_lawful asked answer ≡ true → Follows s asked token key (answer, s)
unchanged s asked token key answer has lawful =
    follows s asked token key answer s.items s.turns s.uses s.flush s.op_stats s.evicted has lawful (record {
      others = λ _ _. inl refl;
      items_are = λ k u h. inl (itself s.items k u h);
      sent = λ _ k h. inr h;
    })

uses : (s : State) (asked : Kind) (token : Option ℕ) (key : List ℕ) (u : Used) (item : Item) (answer : Answer)
    → HasUnique token answer →
    get s.items key ≡ Some u → SameStored u.item item → (u.item.sent ≡ true → item.sent ≡ true) → is_lawful asked answer
    ≡ true →
    Follows s asked token (Some key) (answer, first s key item)
uses s asked token key u item answer has is stored keeps lawful =
    let items = insert s.items key (put_at s item) in
    follows s asked token (Some key) answer items s.turns (s.uses + 1) s.flush s.op_stats s.evicted has lawful (record {
      others = λ other differ. inl (get_other s.items key other (put_at s item) (apart key other differ));
      items_are = inserted_are s.items token key (put_at s item) (inl (u, is, assumption));
      sent = λ _ k h. inr (sent_inserted s.items key (put_at s item) (λ had. keeps (rw is at had)) k h);
    })

-- the items where one was put
abbrev all_with : State → List ℕ → Item → Items
all_with s key item = insert s.items key (put_at s item)

-- the state before turns are looked at
abbrev evicted_for : State → List ℕ → Item → State
evicted_for s key item = evicting (first s key item) key

-- What becomes of an item once another entered: it stays, or it costs too much, or it was dead.
abbrev Fate : State → Option ℕ → List ℕ → Item → List ℕ → Type 0
Fate s token key item k =
    (get (entered s token key item).items k ≡ get (all_with s key item) k)
    ⊎ (((get (entered s token key item).items k ≡ None) × (s.budget < costs (used_since (all_with s key item) k)))
    ⊎ ((get (entered s token key item).items k ≡ None) × (is_dead_at s.time (get (all_with s key item) k) ≡ true)))

fate : (s : State) (token : Option ℕ) (key : List ℕ) (item : Item) (k : List ℕ) → Fate s token key item k
fate s token key item k = elim (twice_other item.unique (evicted_for s key item) k) [
  | inl same_there ↦ elim (fitting_other (all_with s key item) s.budget key k) [
    | inl stays ↦ inl (same_there ∙ stays)
    | inr gone ↦ inr (inl (same_there ∙ gone.0, gone.1))
  ]
  | inr dead ↦ elim (fitting_other (all_with s key item) s.budget key k) [
    | inl stays ↦ inr (inr (dead.0, rw (← stays) dead.1))
    | inr gone ↦ inr (inl (dead.0, gone.1))
  ]
]

-- The item that entered is there.
entered_here : (s : State) (token : Option ℕ) (key : List ℕ) (item : Item) → get (entered s token key item).items key
    ≡ Some (put_at s item)
entered_here s token key item =
    twice_entering item.unique (evicted_for s key item) key (put_at s item)
    (fitting_key (all_with s key item) s.budget key ∙ get_here s.items key (put_at s item)) refl

enters : (s : State) (asked : Kind) (token : Option ℕ) (key : List ℕ) (item : Item) (answer : Answer)
    → ¬ (answer ≡ NoCas) → tells_stored answer (get s.items key) ≡ true →
    (may_clear_sent asked ≡ false → is_sent s.items key ≡ true → item.sent ≡ true) → is_lawful asked answer ≡ true →
    Follows s asked (Some item.unique) (Some key) (answer, entered s token key item)
enters s asked token key item answer not_no_cas told keeps lawful =
    let new = entered s token key item in
    follows s asked (Some item.unique) (Some key) answer new.items new.turns (s.uses + 1) s.flush new.op_stats
    new.evicted (λ _ _. not_no_cas) lawful (record {
      others = λ other differ.
          let before = get_other s.items key other (put_at s item) (apart key other differ) in
          elim (fate s token key item other) [
            | inl stays ↦ inl (stays ∙ before)
            | inr goes ↦ elim goes [
              | inl gone ↦ inr (
                gone.0,
                inr (inl (record {
                  asked = key;
                  key_is = refl;
                  told = told;
                  stored = put_at s item;
                  stands = entered_here s token key item;
                  too_much = gone.1;
                })),
              )
              | inr dead ↦ inr (
                dead.0,
                inr (inr (record { asked = key; key_is = refl; told = told; dead = rw (← before) dead.1 })),
              )
            ]
          ];
      items_are = λ k u h. elim (fate s token key item k) [
        | inl stays ↦ inserted_are s.items (Some item.unique) key (put_at s item) (inr refl) k u (sym stays ∙ h)
        | inr goes ↦ absurd (let none : get new.items k ≡ None = elim goes [ inl gone ↦ gone.0 | inr dead ↦ dead.0 ] in
            cc)
      ];
      sent = λ may k h. elim (fate s token key item k) [
        | inl stays ↦ inr (rw stays (sent_inserted s.items key (put_at s item) (keeps may) k h))
        | inr goes ↦ inl (elim goes [ inl gone ↦ gone.0 | inr dead ↦ dead.0 ])
      ];
    })

goes : (s : State) (asked : Kind) (token : Option ℕ) (key : List ℕ) (answer : Answer) → HasUnique token answer
    → is_lawful asked answer ≡ true →
    Follows s asked token (Some key) (answer, with_items s (remove s.items key))
goes s asked token key answer has lawful =
    follows s asked token (Some key) answer (remove s.items key) s.turns s.uses s.flush s.op_stats s.evicted has lawful
    (record {
      others = λ other differ. inl (get_apart s.items key other (apart key other differ));
      items_are = λ k u h. inl (itself s.items k u (get_kept s.items key k u h));
      sent =
          λ _ k. by_key (λ q. is_sent s.items q ≡ true → (get (remove s.items key) q ≡ None)
          ⊎ (is_sent (remove s.items key) q ≡ true)) key k
          (λ _. inl (get_gone s.items key)) (λ f h. inr (rw (get_apart s.items key k f) h));
    })

-- an item that gets a unique, the client's or the shard's
numbers : (s : State) (asked : Kind) (token : Option ℕ) (key : Option (List ℕ)) (reply : ℕ → Answer)
    (put : ℕ → State → State) →
    ((unique : ℕ) → put unique (with_given s) ≡ with_given (put unique s)) →
    is_lawful asked NoCas ≡ true → ((unique : ℕ) → Follows s asked (Some unique) key (reply unique, put unique s))
    → Follows s asked token key
    (numbered s token (λ unique after. (reply unique, put unique after)))
numbers s asked (Some token) key reply put moves refused each = each token
numbers s asked None key reply put moves refused each = elim (cases_Bool (nat_lt (next_unique s) (2 ^ 64))) [
  | inl t ↦ rw (t, moves (next_unique s))
      (by_shard s (put (next_unique s) s) asked key (reply (next_unique s)) (each (next_unique s)))
  | inr f ↦ rw f (unchanged s asked None key NoCas (λ unique is. absurd cc) refused)
]

numbers_first : (s : State) (asked : Kind) (token : Option ℕ) (key : List ℕ) (reply : ℕ → Answer) (item : Item) →
    ((unique : ℕ) → ¬ (reply unique ≡ NoCas)) → ((unique : ℕ) → tells_stored (reply unique) (get s.items key) ≡ true) →
    (may_clear_sent asked ≡ false → is_sent s.items key ≡ true → item.sent ≡ true) →
    is_lawful asked NoCas ≡ true → ((unique : ℕ) → is_lawful asked (reply unique) ≡ true) →
    Follows s asked token (Some key)
    (numbered s token (λ unique after. (reply unique, entered after token key (record item { unique = unique }))))
numbers_first s asked token key reply item not_no_cas told keeps refused lawful =
    numbers s asked token (Some key) reply (λ unique after. entered after token key (record item { unique = unique }))
    (λ _. refl) refused
    (λ unique. enters s asked token key (record item { unique = unique }) (reply unique) (not_no_cas unique)
    (told unique) keeps (lawful unique))

compares : (s : State) (asked : Kind) (token : Option ℕ) (key : Option (List ℕ)) (compare : Option ℕ) (item : Item)
    (outcome : Outcome) → is_lawful asked Exists ≡ true → Follows s asked token key outcome
    → Follows s asked token key (compared s compare item outcome)
compares s asked token key compare item outcome refused done = elim (cases_Bool (is_other compare item.unique)) [
  | inl t ↦ rw t (unchanged s asked token key Exists (λ _ _ e. cc) refused)
  | inr f ↦ rw f done
]

-- the refusals that are lawful of storing
record Refusals (asked : Kind) (reply : Reply) : Type 0 where
  clears : may_clear_sent asked ≡ true
  absent : is_lawful asked NotFound ≡ true
  not_stored : is_lawful asked NotStored ≡ true
  exists : is_lawful asked Exists ≡ true
  large : is_lawful asked TooLarge ≡ true
  no_cas : is_lawful asked NoCas ≡ true
  replies : (shown : done.MetaDone) → is_lawful asked (reply shown) ≡ true
  not_no_cas : (shown : done.MetaDone) → ¬ (reply shown ≡ NoCas)
  told : (shown : done.MetaDone) (before : Option Used) → tells_stored (reply shown) before ≡ true

module _ (s : State) (asked : Kind) (what : StoreRequest (List ℕ)) (reply : Reply) (may : Refusals asked reply) where
  writing : (value : List ℕ) (item : Item) →
      Follows s asked what.unique (Some what.key)
      (writes s what.key what.unique value (λ unique. record item { unique = unique }) reply)
  writing value item = elim (cases_Bool (is_too_large s what.key value)) [
    | inl t ↦ rw t (unchanged s asked what.unique (Some what.key) TooLarge (λ _ _ e. cc) may.large)
    | inr f ↦
        let shown : ℕ → done.MetaDone = λ u. done_of (record item { unique = u }) 0 s.time in
        rw f (numbers_first s asked what.unique what.key (λ u. reply (shown u)) item (λ u. may.not_no_cas (shown u))
        (λ u. may.told (shown u) (get s.items what.key))
        (λ keeps _. absurd (both_ways (may_clear_sent asked) keeps may.clears)) may.no_cas (λ u. may.replies (shown u)))
  ]

  stores_follow : Follows s asked what.unique (Some what.key) (stores s what reply)
  stores_follow = writing what.value (stored_item what.value what.flags what.exptime s.time 0)

  joins_follow : (item : Item) (value : List ℕ)
      → Follows s asked what.unique (Some what.key) (joins s item what value reply)
  joins_follow item value = writing value (joined_item item value 0)

  storing_absent : (mode : StoreMode) (compare : Option ℕ)
      → Follows s asked what.unique (Some what.key) (absent_store s what reply mode compare)
  storing_absent mode (Some unique) = unchanged s asked what.unique (Some what.key) NotFound (λ _ _ e. cc) may.absent
  storing_absent Set None = stores_follow
  storing_absent Add None = stores_follow
  storing_absent mode None = unchanged s asked what.unique (Some what.key) NotStored (λ _ _ e. cc) may.not_stored

  storing_present : (mode : StoreMode) (u : Used) → get s.items what.key ≡ Some u →
      Follows s asked what.unique (Some what.key) (present_store s what reply mode u.item)
  storing_present Add u is =
      uses s asked what.unique what.key u u.item NotStored (λ _ _ e. cc) is (assumption) (λ h. h) may.not_stored
  storing_present Append u is = compares s asked what.unique (Some what.key) what.compare u.item
      (joins s u.item what (u.item.value ++ what.value) reply) may.exists
      (joins_follow u.item (u.item.value ++ what.value))
  storing_present Prepend u is =
      compares s asked what.unique (Some what.key) what.compare u.item
      (joins s u.item what (what.value ++ u.item.value) reply) may.exists
      (joins_follow u.item (what.value ++ u.item.value))
  storing_present mode u is =
      compares s asked what.unique (Some what.key) what.compare u.item (stores s what reply) may.exists stores_follow

  storing_follows : (o : Option Used) → get s.items what.key ≡ o
      → Follows s asked what.unique (Some what.key) (store_step s what reply o)
  storing_follows None is = storing_absent what.mode what.compare
  storing_follows (Some u) is = storing_present what.mode u is

-- the refusals that are lawful of counting
record CountRefusals (asked : Kind) (reply : Reply) : Type 0 where
  absent : is_lawful asked NotFound ≡ true
  no_number : is_lawful asked NonNumeric ≡ true
  no_cas : is_lawful asked NoCas ≡ true
  replies : (shown : done.MetaDone) → is_lawful asked (reply shown) ≡ true
  not_no_cas : (shown : done.MetaDone) → ¬ (reply shown ≡ NoCas)
  told : (shown : done.MetaDone) (before : Option Used) → tells_stored (reply shown) before ≡ true

module _ (s : State) (asked : Kind) (key : List ℕ) (reply : Reply) (may : CountRefusals asked reply) where
  -- an item with a number, which takes no mark away
  numbers_to : (token : Option ℕ) (item : Item) (number : ℕ) → (is_sent s.items key ≡ true → item.sent ≡ true) →
      Follows s asked token (Some key)
      (numbered s token (λ unique after. (
        reply (done_of (record item { unique = unique }) number s.time),
        entered after token key (record item { unique = unique }),
      )))
  numbers_to token item number keeps =
      let shown : ℕ → done.MetaDone = λ u. done_of (record item { unique = u }) number s.time in
      numbers_first s asked token key (λ u. reply (shown u)) item (λ u. may.not_no_cas (shown u))
      (λ u. may.told (shown u) (get s.items key)) (λ _. keeps) may.no_cas (λ u. may.replies (shown u))

  counting_absent : (token : Option ℕ) → get s.items key ≡ None → (vivify : Option Vivify) →
      Follows s asked token (Some key) (absent_count s key token reply vivify)
  counting_absent token none None = unchanged s asked token (Some key) NotFound (λ _ _ e. cc) may.absent
  counting_absent token none (Some made) =
      numbers_to token (counter_item made.initial made.exptime s.time 0) made.initial
      (λ had. absurd (let h = rw none at had in cc))

module _ (s : State) (asked : Kind) (what : ma.MetaCount) (reply : Reply) (may : CountRefusals asked reply) where
  counting_present : (u : Used) → get s.items what.key ≡ Some u → (number : Option ℕ) →
      Follows s asked what.unique (Some what.key) (counts s u.item what reply number)
  counting_present u is None = unchanged s asked what.unique (Some what.key) NonNumeric (λ _ _ e. cc) may.no_number
  counting_present u is (Some number) =
      let to = new_number what.direction number what.amount in
      numbers_to s asked what.key reply may what.unique (counted_item u.item to what.exptime s.time 0) to
      (λ had. rw is at had)

-- Each kind

fetch_follows : (s : State) (key : List ℕ) (touch : Option ℤ) (o : Option Used) → get s.items key ≡ o
    → Follows s kind.Fetch None (Some key) (fetch_step s key touch o)
unfolding is_lawful
fetch_follows s key touch None is = unchanged s kind.Fetch None (Some key) Miss (λ _ _ e. cc) refl
fetch_follows s key touch (Some u) is =
    uses s kind.Fetch None key u (fetched_item u.item touch s.time) (Hit u.item.flags u.item.unique u.item.value)
    (λ _ _ e. cc) is (assumption)
    (λ h. h) refl

touch_follows : (s : State) (key : List ℕ) (exptime : ℤ) (o : Option Used) → get s.items key ≡ o
    → Follows s kind.Touch None (Some key) (touch_step s key exptime o)
unfolding is_lawful
touch_follows s key exptime None is = unchanged s kind.Touch None (Some key) NotFound (λ _ _ e. cc) refl
touch_follows s key exptime (Some u) is =
    uses s kind.Touch None key u (touched_item u.item exptime s.time) Touched (λ _ _ e. cc) is (assumption) (λ h. h)
    refl

-- what an unnoted hit leaves of the item
abbrev seen : State → Used → Option ℤ → Option ℤ → Used
seen s u touch recache =
    record u { item = record (shown_item u.item touch recache s.time) { fetched = u.item.fetched } }

-- what mg asks
abbrev getting : List ℕ → Option ℤ → Option ℤ → Option ℤ → Bool → mg.MetaFetch
getting key touch vivify recache unnoted =
    record { key = key; touch = touch; vivify = vivify; recache = recache; unnoted = unnoted }

meta_get_follows : (s : State) (key : List ℕ) (touch vivify recache : Option ℤ) (unnoted : Bool) (o : Option Used)
    → get s.items key ≡ o → Follows s kind.MetaGet None (Some key)
    (meta_get_step s (getting key touch vivify recache unnoted) o)
unfolding is_lawful
meta_get_follows s key touch None recache unnoted None is =
    unchanged s kind.MetaGet None (Some key) Miss (λ _ _ e. cc) refl
meta_get_follows s key touch (Some exptime) recache unnoted None is =
    numbers_first s kind.MetaGet None key (λ u. MetaHit (made_hit (vivified_item exptime s.time u) s.time))
    (vivified_item exptime s.time 0)
    (λ _ e. cc) (λ _. rw is refl) (λ _ _. refl) refl (λ _. refl)
meta_get_follows s key touch vivify recache false (Some u) is =
    uses s kind.MetaGet None key u (shown_item u.item touch recache s.time)
    (MetaHit (hit_of u.item touch recache s.time)) (λ _ _ e. cc) is
    (assumption) (λ h. rw h) refl
meta_get_follows s key touch vivify recache true (Some u) is =
    let keeps : u.item.sent ≡ true → (seen s u touch recache).item.sent ≡ true = λ h. rw h in
    follows s kind.MetaGet None (Some key) (MetaHit (hit_of u.item touch recache s.time))
    (insert s.items key (seen s u touch recache)) s.turns s.uses s.flush s.op_stats s.evicted
    (λ _ _ e. cc) refl (record {
      others = λ other differ. inl (get_other s.items key other (seen s u touch recache) (apart key other differ));
      items_are = inserted_are s.items None key (seen s u touch recache) (inl (u, is, assumption));
      sent = λ _ k h. inr (sent_inserted s.items key (seen s u touch recache) (λ had. keeps (rw is at had)) k h);
    })

delete_follows : (s : State) (key : List ℕ) (o : Option Used)
    → Follows s kind.Delete None (Some key) (delete_step s key o)
unfolding is_lawful
delete_follows s key None = unchanged s kind.Delete None (Some key) NotFound (λ _ _ e. cc) refl
delete_follows s key (Some u) = goes s kind.Delete None key Deleted (λ _ _ e. cc) refl

stale_follows : (s : State) (asked : op.MetaRemoval) (u : Used)
    → Follows s kind.MetaDelete asked.unique (Some asked.key) (stales s asked u)
unfolding is_lawful
stale_follows s asked u =
    let stale : ℕ → Used = λ unique. record u { item = stale_item u.item asked.exptime s.time unique } in
    numbers s kind.MetaDelete asked.unique (Some asked.key) (λ _. Done)
    (λ unique after. with_items after (insert s.items asked.key (stale unique)))
    (λ _. refl) refl
    (λ unique. follows s kind.MetaDelete (Some unique) (Some asked.key) Done (insert s.items asked.key (stale unique))
    s.turns s.uses s.flush s.op_stats s.evicted
    (λ _ _ e. cc) refl (record {
      others = λ other differ. inl (get_other s.items asked.key other (stale unique) (apart asked.key other differ));
      items_are = inserted_are s.items (Some unique) asked.key (stale unique) (inr refl);
      sent = λ may k h. absurd (let both : true ≡ false = may in cc);
    }))

meta_delete_follows : (s : State) (asked : op.MetaRemoval) (o : Option Used)
    → Follows s kind.MetaDelete asked.unique (Some asked.key) (meta_delete_step s asked o)
unfolding is_lawful
meta_delete_follows s asked None = unchanged s kind.MetaDelete asked.unique (Some asked.key) NotFound (λ _ _ e. cc) refl
meta_delete_follows s asked (Some u) =
    compares s kind.MetaDelete asked.unique (Some asked.key) asked.compare u.item
    (if asked.invalidate then stales s asked u else delete_step s asked.key (Some u)) refl
    (elim (cases_Bool asked.invalidate) [
      | inl t ↦ rw t (stale_follows s asked u)
      | inr f ↦ rw f (goes s kind.MetaDelete asked.unique asked.key Deleted (λ _ _ e. cc) refl)
    ])

flush_follows : (s : State) (o : Option ℕ) → Follows s kind.Flush None None (Done, flush_step s o)
unfolding is_lawful
flush_follows s None =
    follows s kind.Flush None None Done nothing [] s.uses None s.op_stats s.evicted (λ _ _ e. cc) refl (record {
      others = λ other _. inr (get_nothing other, inl refl);
      items_are = λ k u h. absurd (let h' = rw (get_nothing k) at h in cc);
      sent = λ _ k _. inl (get_nothing k);
    })
flush_follows s (Some second) =
    follows s kind.Flush None None Done s.items s.turns s.uses (Some second) s.op_stats s.evicted (λ _ _ e. cc) refl
    (record {
      others = λ _ _. inl refl;
      items_are = λ k u h. inl (itself s.items k u h);
      sent = λ _ k h. inr h;
    })

reset_follows : (s : State)
    → Follows s kind.ResetStats None None (Reset, record s { op_stats = no_counts; evicted = 0 })
unfolding is_lawful
reset_follows s =
    follows s kind.ResetStats None None Reset s.items s.turns s.uses s.flush no_counts 0 (λ _ _ e. cc) refl (record {
      others = λ _ _. inl refl;
      items_are = λ k u h. inl (itself s.items k u h);
      sent = λ _ k h. inr h;
    })

classic_count_follows : (s : State) (what : ma.MetaCount) (reply : Reply) → what.compare ≡ None
    → CountRefusals kind.Count reply → (o : Option Used) → get s.items what.key ≡ o
    → Follows s kind.Count what.unique (Some what.key) (count_step s what reply o)
classic_count_follows s what reply free may None is =
    counting_absent s kind.Count what.key reply may what.unique is what.vivify
classic_count_follows s what reply free may (Some u) is =
    rw free (counting_present s kind.Count what reply may u is (number_in u.item.value))

meta_count_follows : (s : State) (what : ma.MetaCount) (reply : Reply) → CountRefusals kind.MetaCount reply
    → (o : Option Used) → get s.items what.key ≡ o
    → Follows s kind.MetaCount what.unique (Some what.key) (count_step s what reply o)
unfolding is_lawful
meta_count_follows s what reply may None is =
    counting_absent s kind.MetaCount what.key reply may what.unique is what.vivify
meta_count_follows s what reply may (Some u) is =
    compares s kind.MetaCount what.unique (Some what.key) what.compare u.item
    (counts s u.item what reply (number_in u.item.value)) refl
    (counting_present s kind.MetaCount what reply may u is (number_in u.item.value))

step_follows : (s : State) (op : Op) → Follows s (kind_of op) (token_of op) (key_of op) (step_of s op)
unfolding step_of kind_of key_of is_lawful
step_follows s (Fetch key touch) = fetch_follows s key touch (get s.items key) refl
step_follows s (Store asked) =
    storing_follows s kind.Store asked (λ _. Stored)
    (record {
      clears = refl;
      absent = refl;
      not_stored = refl;
      exists = refl;
      large = refl;
      no_cas = refl;
      replies = λ _. refl;
      not_no_cas = λ _ e. cc;
      told = λ _ _. refl;
    }) (get s.items asked.key) refl
step_follows s (Count key direction amount) =
    classic_count_follows s (counting key direction amount) (λ shown. Number shown.number) refl
    (record {
      absent = refl;
      no_number = refl;
      no_cas = refl;
      replies = λ _. refl;
      not_no_cas = λ _ e. cc;
      told = λ _ _. refl;
    }) (get s.items key) refl
step_follows s (Delete key) = delete_follows s key (get s.items key)
step_follows s (Discard key) = delete_follows s key (get s.items key)
step_follows s (Touch key exptime) = touch_follows s key exptime (get s.items key) refl
step_follows s (Flush delay) = flush_follows s (coming (expiry_of delay s.time) s.time)
step_follows s Stats = unchanged s kind.Stats None None (shown.Stats (stats_of s)) (λ _ _ e. cc) refl
step_follows s ResetStats = reset_follows s
step_follows s (MetaGet asked) =
    meta_get_follows s asked.key asked.touch asked.vivify asked.recache asked.unnoted (get s.items asked.key) refl
step_follows s (MetaStore asked) =
    storing_follows s kind.MetaStore asked (λ shown. MetaDone shown)
    (record {
      clears = refl;
      absent = refl;
      not_stored = refl;
      exists = refl;
      large = refl;
      no_cas = refl;
      replies = λ _. refl;
      not_no_cas = λ _ e. cc;
      told = λ _ _. refl;
    }) (get s.items asked.key) refl
step_follows s (MetaDelete asked) = meta_delete_follows s asked (get s.items asked.key)
step_follows s (MetaCount asked) =
    meta_count_follows s asked (λ shown. MetaDone shown)
    (record {
      absent = refl;
      no_number = refl;
      no_cas = refl;
      replies = λ _. refl;
      not_no_cas = λ _ e. cc;
      told = λ _ _. refl;
    }) (get s.items asked.key) refl

-- The laws

-- what settling keeps
record Settles (old settled : State) (key : Option (List ℕ)) (time : ℕ) : Type 0 where
  given : settled.given ≡ old.given
  time_is : settled.time ≡ time
  place : SamePlace old settled
  others : (other : List ℕ) → ¬ (key ≡ Some other)
      → StaysUnless (is_due old.flush time ≡ true) old.items settled.items other
  items : (k : List ℕ) (u : Used) → get settled.items k ≡ Some u → get old.items k ≡ Some u

arrived_settles : (old : State) (moment : ℕ)
    → Settles old (arrived old moment) None (max old.time (min moment latest_moment))
arrived_settles old moment = elim (cases_Bool (is_due old.flush (max old.time (min moment latest_moment)))) [
  | inl t ↦ rw t (record {
    given = refl;
    time_is = refl;
    place = assumption;
    others = λ other _. inr (get_nothing other, t);
    items = λ k u h. absurd (let h' = rw (get_nothing k) at h in cc);
  })
  | inr f ↦ rw f (record {
    given = refl;
    time_is = refl;
    place = assumption;
    others = λ _ _. inl refl;
    items = λ k u h. h;
  })
]

met_settles : (old s : State) (time : ℕ) (key : Option (List ℕ)) → Settles old s None time
    → Settles old (without_dead s key) key time
met_settles old s time None settles = settles
met_settles old s time (Some key) settles = elim (cases_Bool (is_dead_at s.time (get s.items key))) [
  | inl t ↦ rw t (record {
    given = settles.given;
    time_is = settles.time_is;
    place = assumption;
    others = λ other differ. rw (get_apart s.items key other (apart key other differ)) (settles.others other (λ e. cc));
    items = λ k u h. settles.items k u (get_kept s.items key k u h);
  })
  | inr f ↦ rw f (record {
    given = settles.given;
    time_is = settles.time_is;
    place = settles.place;
    others = λ other _. settles.others other (λ e. cc);
    items = settles.items;
  })
]

settle_settles : (old : State) (key : Option (List ℕ)) (moment : ℕ)
    → Settles old (settle old key moment) key (max old.time (min moment latest_moment))
settle_settles old key moment =
    met_settles old (arrived old moment) (max old.time (min moment latest_moment)) key (arrived_settles old moment)

answered_is : (settled new : State) (op : Op) (answer : Answer) → Answers settled op answer new
    → Follows settled (kind_of op) (token_of op) (key_of op) (answer, new)
unfolding Answers
answered_is settled new op answer (inl none) =
    rw (none.0, none.2) (unchanged settled (kind_of op) (token_of op) (key_of op) NoMemory (λ _ _ e. cc) none.1)
answered_is settled new op answer (inr is) =
    subst (λ o. Follows settled (kind_of op) (token_of op) (key_of op) o) (sym is) (step_follows settled op)

-- counting what was asked changes nothing of that
noted_follows : (s settled new : State) (asked : Kind) (token : Option ℕ) (key : Option (List ℕ)) (op : Op)
    (answer : Answer) → Follows s asked token key (answer, new)
    → Follows s asked token key (answer, noted_in settled new op answer)
noted_follows s settled new asked token key op answer done = record {
  given = done.given;
  taken = done.taken;
  time = done.time;
  place = (let place = done.place in assumption);
  others = done.others;
  lawful = done.lawful;
  items = done.items;
  sent = done.sent;
}

step_is : (old new : State) (op : Op) (moment : ℕ) (answer : Answer) → IsStep old op moment answer new
    → Follows (settle old (key_of op) moment) (kind_of op) (token_of op) (key_of op) (answer, new)
unfolding IsStep
step_is old new op moment answer step =
    let settled = settle old (key_of op) moment in
    rw step.2 (noted_follows settled settled step.0 (kind_of op) (token_of op) (key_of op) op answer
    (answered_is settled step.0 op answer step.1))

-- An answer is one that its kind of operation may have.
pub answers_are_lawful : AnswersAreLawful
answers_are_lawful old new op moment answer step = (step_is old new op moment answer step).lawful

-- what stays while a shard settles and then while it answers
stays_through : (due flushes evicted : Type 0) (a b c : Items) (k : List ℕ) → StaysUnless due a b k
    → StaysUnless (flushes ⊎ evicted) b c k →
    StaysUnless ((due ⊎ flushes) ⊎ evicted) a c k
stays_through due flushes evicted a b c k (inl before) (inl after) = inl (after ∙ before)
stays_through due flushes evicted a b c k (inr gone) (inl after) = inr (after ∙ gone.0, inl (inl gone.1))
stays_through due flushes evicted a b c k before (inr gone) =
    inr (gone.0, elim gone.1 [ inl flush ↦ inl (inr flush) | inr more ↦ inr more ])

-- An operation leaves the item under any other key as it is, unless a flush or eviction for what it stored takes it.
pub others_stay : OthersStay
others_stay old new op moment answer step other differ =
    let settled = settle old (key_of op) moment in
    stays_through (is_due old.flush (max old.time (min moment latest_moment)) ≡ true) (kind_of op ≡ kind.Flush)
    (IsEvicted settled (key_of op) answer new.items other ⊎ IsReclaimed settled (key_of op) answer other) old.items
    settled.items new.items other
    ((settle_settles old (key_of op) moment).others other differ)
    ((step_is old new op moment answer step).others other differ)

given_through : (a b c : ℕ) → b ≡ a → (c ≡ b) ⊎ (c ≡ b + 1) → (c ≡ a) ⊎ (c ≡ a + 1)
given_through a b c is more = rw (← is) more

-- A step gives one unique or none.
pub uniques_rise : UniquesRise
uniques_rise old new op moment answer step =
    given_through old.given (settle old (key_of op) moment).given new.given
    (settle_settles old (key_of op) moment).given
    (step_is old new op moment answer step).given

-- A step moves the time to its moment, the latest one at most, and never back.
pub time_rises : TimeRises
time_rises old new op moment answer step =
    (step_is old new op moment answer step).time ∙ (settle_settles old (key_of op) moment).time_is

tells : (old settled new : State) (token : Option ℕ) (key : Option (List ℕ)) (time : ℕ) (k : List ℕ) (item : Item)
    → Settles old settled key time → IsKept settled.items k item ⊎ HasNewUnique settled new token item
    → IsKept old.items k item ⊎ HasNewUnique old new token item
tells old settled new token key time k item settles (inl kept) = inl (kept.0, settles.items k kept.0 kept.1, kept.2)
tells old settled new token key time k item settles (inr fresh) =
    inr (rw (settles.place.index, settles.place.shards, settles.given) at fresh)

-- A step gives an item a new unique, the shard's next one or the client's, where it changes its value or its flags.
pub uniques_tell : UniquesTell
uniques_tell old new op moment answer step k u h =
    tells old (settle old (key_of op) moment) new (token_of op) (key_of op) (max old.time (min moment latest_moment)) k
    u.item (settle_settles old (key_of op) moment) ((step_is old new op moment answer step).items k u h)

-- Where the client gives a unique, the shard gives none, and none is wanting.
pub tokens_are_taken : TokensAreTaken
tokens_are_taken old new op moment answer token step is =
    let taken = (step_is old new op moment answer step).taken token is in
    (taken.0 ∙ (settle_settles old (key_of op) moment).given, taken.1)

-- The mark that a client is to recompute stays with its item, unless a storage command or `md` takes it away.
pub sent_stays : SentStays
sent_stays old new op moment answer step = (step_is old new op moment answer step).sent

-- A step leaves the number of the shard, how many shards there are and the budget as they are.
pub same_place : (old new : State) (op : Op) (moment : ℕ) (answer : Answer) → IsStep old op moment answer new
    → SamePlace old new
same_place old new op moment answer step =
    let before = (settle_settles old (key_of op) moment).place in
    let after = (step_is old new op moment answer step).place in
    record {
      index = after.index ∙ before.index;
      shards = after.shards ∙ before.shards;
      budget = after.budget ∙ before.budget;
    }

-- A hit with W

abbrev Wins : State → List ℕ → State → Type 0
Wins s key new = (is_sent s.items key ≡ false) × (is_sent new.items key ≡ true)

made_wins : (s : State) (key : List ℕ) (vivify : Option ℤ) (shown : hit.MetaHit) (new : State) → get s.items key ≡ None
    → ◌≡◌ {A = Outcome} (MetaHit shown, new) (absent_meta_get s key vivify) → Wins s key new
made_wins s key None shown new none is = absurd (let answer : MetaHit shown ≡ Miss = ap (λ o. o.0) is in cc)
made_wins s key (Some exptime) shown new none is = elim (cases_Bool (nat_lt (next_unique s) (2 ^ 64))) [
  | inl t ↦
      let item = vivified_item exptime s.time (next_unique s) in
      let is' = rw t at is in
      let after : new ≡ entered (with_given s) None key item = ap (λ o. o.1) is' in
      (rw none, rw (after, entered_here (with_given s) None key item))
  | inr f ↦ absurd (let is' = rw f at is in let answer : MetaHit shown ≡ NoCas = ap (λ o. o.0) is' in cc)
]

-- what an item is that was put where the key was
sent_at : (m : Items) (key : List ℕ) (u : Used) → u.item.sent ≡ true → is_sent (insert m key u) key ≡ true
sent_at m key u sent = rw (get_here m key u) sent

shown_wins : (s : State) (key : List ℕ) (touch recache : Option ℤ) (unnoted : Bool) (u : Used)
    → (shown_item u.item touch recache s.time).sent ≡ true
    → is_sent (shows unnoted s key u (shown_item u.item touch recache s.time)).items key ≡ true
shown_wins s key touch recache false u sent =
    sent_at s.items key (put_at s (shown_item u.item touch recache s.time)) sent
shown_wins s key touch recache true u sent = sent_at s.items key (seen s u touch recache) sent

get_wins : (s : State) (key : List ℕ) (touch vivify recache : Option ℤ) (unnoted : Bool) (shown : hit.MetaHit)
    (new : State) (o : Option Used) → get s.items key ≡ o
    → ◌≡◌ {A = Outcome} (MetaHit shown, new) (meta_get_step s (getting key touch vivify recache unnoted) o)
    → shown.marks.won ≡ true → Wins s key new
get_wins s key touch vivify recache unnoted shown new None is step won = made_wins s key vivify shown new is step
get_wins s key touch vivify recache unnoted shown new (Some u) is step won =
    let answer : MetaHit shown ≡ MetaHit (hit_of u.item touch recache s.time) = ap (λ o. o.0) step in
    let alike : shown ≡ hit_of u.item touch recache s.time = cc in
    let wins : is_won u.item recache s.time ≡ true = sym (ap (λ h. h.marks.won) alike) ∙ won in
    let after : new ≡ shows unnoted s key u (shown_item u.item touch recache s.time) = ap (λ o. o.1) step in
    let free = and_parts (not u.item.sent) (u.item.stale || has_fewer_left (seconds_left u.item.expiry s.time) recache)
    wins in (
      rw is (not-true u.item.sent free.0),
      rw after (shown_wins s key touch recache unnoted u (or_right u.item.sent (is_won u.item recache s.time) wins)),
    )

-- only mg answers such a hit
not_lawful : (asked : Kind) (shown : hit.MetaHit) (answer : Answer) → is_lawful asked (MetaHit shown) ≡ false
    → is_lawful asked answer ≡ true → MetaHit shown ≡ answer → ⊥
not_lawful asked shown answer never lawful is = both_ways (is_lawful asked answer) (rw (← is) never) lawful

op_wins : (s : State) (op : Op) (shown : hit.MetaHit) (new : State)
    → ◌≡◌ {A = Outcome} (MetaHit shown, new) (step_of s op) → shown.marks.won ≡ true → (key : List ℕ) → key_of op
    ≡ Some key → Wins s key new
unfolding step_of kind_of key_of is_lawful
op_wins s (MetaGet asked) shown new is won k at =
    let same_key : asked.key ≡ k = (let both : ◌≡◌ {A = Option (List ℕ)} (Some asked.key) (Some k) = at in cc) in
    subst (λ q. Wins s q new) same_key
    (get_wins s asked.key asked.touch asked.vivify asked.recache asked.unnoted shown new (get s.items asked.key) refl is
    won)
op_wins s op shown new is won k at =
    absurd (not_lawful (kind_of op) shown (step_of s op).0 refl (step_follows s op).lawful (ap (λ o. o.0) is))

answer_wins : (settled new : State) (op : Op) (shown : hit.MetaHit) → Answers settled op (MetaHit shown) new
    → shown.marks.won ≡ true → (key : List ℕ) → key_of op ≡ Some key → Wins settled key new
unfolding Answers
answer_wins settled new op shown (inl none) won key at = absurd (let answer : MetaHit shown ≡ NoMemory = none.0 in cc)
answer_wins settled new op shown (inr is) won key at = op_wins settled op shown new is won key at

-- A hit with `W` is of an item that no client was to recompute until then, and one is from then on.
pub winners_are_first : WinnersAreFirst
unfolding IsStep
winners_are_first old new op moment shown step won key at =
    rw step.2 (answer_wins (settle old (key_of op) moment) step.0 op shown step.1 won key at)

answers_agree : (settled one other : State) (op : Op) (answer second : Answer) → Answers settled op answer one
    → Answers settled op second other →
    ¬ (answer ≡ NoMemory) → ¬ (second ≡ NoMemory) → ◌≡◌ {A = Outcome} (answer, one) (second, other)
unfolding Answers
answers_agree settled one other op answer second (inl none) b had had_too = absurd (had none.0)
answers_agree settled one other op answer second (inr is) (inl none) had had_too = absurd (had_too none.0)
answers_agree settled one other op answer second (inr is) (inr too) had had_too = is ∙ sym too

-- Where memory isn't wanting, the state, the operation and the moment determine the answer and the new state.
pub steps_agree : StepsAgree
unfolding IsStep
steps_agree old one other op moment answer second a b had had_too =
    let both = answers_agree (settle old (key_of op) moment) a.0 b.0 op answer second a.1 b.1 had had_too in
    (ap (λ o. o.0) both, a.2 ∙ ap (λ o. noted_in (settle old (key_of op) moment) o.1 op o.0) both ∙ sym b.2)

-- no multiple of the number of shards lies between two places
same_next : (shards index given other more : ℕ) → index < shards → other < shards → index + 1 + shards * given
    ≡ other + 1 + shards * more →
    (index ≡ other) × (given ≡ more)
same_next shards index given other more place other_place e =
    let both = same_from_place given index more other shards place other_place
    (omega (arith, mul_comm shards given, mul_comm shards more)) in
    (both.1, both.0)

-- Of one number of shards, two give the same unique next only where they are one and have given as many.
pub uniques_differ : UniquesDiffer
uniques_differ one other shards place other_place same_unique =
    same_next one.shards one.index one.given other.index other.given place (rw shards other_place)
    (rw (← shards) at same_unique)
