-- The outcomes of deleting and flushing.
use Rattle.std.proofs.Common.{◌≡◌, ℕ, ℤ, true, false, List, Option, Some, None, refl, sym, ap, ◌∙◌, inr, nat_eq}
use Rattle.std.specs.Cmp.Lexicographic.{pointwise}
use Rattle.std.specs.FinMap.{get, insert}
use Rattle.std.specs.Map.{lookup, remove_entry, set_value}
use Rattle.mc_item.specs.declared.item.Item.{Item}
use Rattle.mc_item.specs.declared.op.Op.TheVariants.{Delete, MetaDelete, Flush}
use Rattle.mc_command.specs.declared.meta.MetaRemoval as op
use Rattle.mc_item.specs.declared.answer.Answer.TheVariants.{NotFound, Exists, Deleted, Done, NoCas}
use Rattle.mc_item.specs.Expiry.{expiry_of}
use Rattle.mc_item.specs.Kind.{kind_of, is_lawful}
use Rattle.mc_store.specs.internal.Found.{live, unique_for, given_after}
use Rattle.mc_store.specs.State.{Used, State, without_dead, with_items, flushed}
use Rattle.mc_store.specs.Rows.{stale_item}
use Rattle.mc_store.specs.Step.{Outcome, Answers, is_other, delete_step, stales, meta_delete_step, coming, flush_step}
use Rattle.mc_store.specs.Step.{step_of}
use Rattle.mc_store.specs.Shard.{ShardContents, Keeps}
use Rattle.mc_store.proofs.Shards.{with_entries, set_in_place, giving, gives}
use Rattle.mc_store.proofs.Writes.{Closes, next_of, numbered_some, numbered_none, unique_now}
use Rattle.mc_store.proofs.Outcomes.{Ends, ends, here, at_live, misses_as, unchanged_as, goes_as}

-- Where nothing alive is under the key, `delete` finds none, and a dead item there is removed.
pub delete_miss : (held : ShardContents) (state : State) (key : List ℕ) → Keeps held state → None
    ≡ live held.time (lookup (pointwise nat_eq key) held.entries)
    → Ends (without_dead state (Some key)) (Delete key) NotFound
    (with_entries held (remove_entry (pointwise nat_eq key) held.entries))
unfolding step_of kind_of is_lawful
delete_miss held state key h none =
    ends (without_dead state (Some key)) (Delete key) NotFound _ (λ e. absurd cc)
    (misses_as held state key (λ s o. delete_step s key o) NotFound h none (λ s. refl))

-- `delete` takes out the item that is alive under the key.
pub delete_hit : (held : ShardContents) (state : State) (key : List ℕ) (item : Item) → Keeps held state → Some item
    ≡ live held.time (lookup (pointwise nat_eq key) held.entries)
    → Ends (without_dead state (Some key)) (Delete key) Deleted
    (with_entries held (remove_entry (pointwise nat_eq key) held.entries))
unfolding step_of kind_of is_lawful
delete_hit held state key item h is =
    ends (without_dead state (Some key)) (Delete key) Deleted _ (λ e. absurd cc)
    (goes_as held state key item (λ s o. delete_step s key o) Deleted h is (λ s u _. refl))

-- Where nothing alive is under the key, `md` finds none, and a dead item there is removed.
pub meta_delete_miss : (held : ShardContents) (state : State) (asked : op.MetaRemoval) → Keeps held state → None
    ≡ live held.time (lookup (pointwise nat_eq asked.key) held.entries)
    → Ends (without_dead state (Some asked.key)) (MetaDelete asked) NotFound
    (with_entries held (remove_entry (pointwise nat_eq asked.key) held.entries))
unfolding step_of kind_of is_lawful
meta_delete_miss held state asked h none =
    ends (without_dead state (Some asked.key)) (MetaDelete asked) NotFound _ (λ e. absurd cc)
    (misses_as held state asked.key (λ s o. meta_delete_step s asked o) NotFound h none (λ s. refl))

-- `md` of an item whose unique isn't the one asked for changes nothing and is answered that it exists.
pub meta_delete_exists : (held : ShardContents) (state : State) (asked : op.MetaRemoval) (item : Item)
    → Keeps held state → Some item ≡ live held.time (lookup (pointwise nat_eq asked.key) held.entries)
    → is_other asked.compare item.unique ≡ true
    → Ends (without_dead state (Some asked.key)) (MetaDelete asked) Exists held
unfolding step_of kind_of is_lawful
meta_delete_exists held state asked item h is other =
    ends (without_dead state (Some asked.key)) (MetaDelete asked) Exists held (λ e. absurd cc)
    (unchanged_as held state asked.key item (λ s o. meta_delete_step s asked o) Exists h is
    (λ s u i. let o : is_other asked.compare u.item.unique ≡ true = rw i other in rw o))

-- `md` without `I`, at the item's unique or at none, takes out the item that is alive under the key.
pub meta_delete_hit : (held : ShardContents) (state : State) (asked : op.MetaRemoval) (item : Item) → Keeps held state
    → Some item ≡ live held.time (lookup (pointwise nat_eq asked.key) held.entries) → is_other asked.compare item.unique
    ≡ false → asked.invalidate ≡ false
    → Ends (without_dead state (Some asked.key)) (MetaDelete asked) Deleted
    (with_entries held (remove_entry (pointwise nat_eq asked.key) held.entries))
unfolding step_of kind_of is_lawful
meta_delete_hit held state asked item h is other no_mark =
    ends (without_dead state (Some asked.key)) (MetaDelete asked) Deleted _ (λ e. absurd cc)
    (goes_as held state asked.key item (λ s o. meta_delete_step s asked o) Deleted h is
    (λ s u i. let o : is_other asked.compare u.item.unique ≡ false = rw i other in rw (o, no_mark)))

marks : (s : State) (asked : op.MetaRemoval) (u : Used) → is_other asked.compare u.item.unique ≡ false
    → asked.invalidate ≡ true → stales s asked u ≡ meta_delete_step s asked (Some u)
marks s asked u o mark = rw (o, mark)

-- the outcome with this unique
abbrev staling : State → op.MetaRemoval → Used → ℕ → State → Outcome
staling state asked u unique after = (
  Done,
  with_items after (insert state.items asked.key
      (record u { item = stale_item u.item asked.exptime state.time unique })),
)

-- `md` with `I` changes nothing where the client gives no unique and the shard has none left.
pub stale_refused : (held : ShardContents) (state : State) (asked : op.MetaRemoval) (item : Item) → Keeps held state
    → Some item ≡ live held.time (lookup (pointwise nat_eq asked.key) held.entries) → is_other asked.compare item.unique
    ≡ false → asked.invalidate ≡ true → None ≡ unique_for asked.unique (next_of held) →
    Ends (without_dead state (Some asked.key)) (MetaDelete asked) NoCas held
unfolding step_of kind_of is_lawful
stale_refused held state asked item h is other mark none =
    ends (without_dead state (Some asked.key)) (MetaDelete asked) NoCas held (λ e. absurd cc)
    (at_live held state asked.key item h is
    (λ i _ settled. i ≡ item → Closes settled (here (λ s o. meta_delete_step s asked o) settled asked.key) NoCas held)
    (λ u found i. (
      state,
      inr
          (sym (numbered_none state asked.unique (staling state asked u)
          (unique_now held state asked.unique None h none)) ∙ marks state asked u (rw i other) mark
          ∙ sym (ap (λ o. meta_delete_step state asked o) found)),
      h,
    )) refl)

stale_keeps : (held : ShardContents) (state : State) (key : List ℕ) (u : Used) (item : Item) (token : Option ℕ)
    → Keeps held state → get state.items key ≡ Some u → item.value ≡ u.item.value →
    Keeps (record held {
      entries = set_value (pointwise nat_eq key) held.entries item;
      given = given_after token held.given;
    }) (with_items (giving token state) (insert state.items key (record u { item = item })))
stale_keeps held state key u item (Some token) h found value = set_in_place held state key u item h found value
stale_keeps held state key u item None h found value =
    gives (with_entries held (set_value (pointwise nat_eq key) held.entries item))
    (with_items state (insert state.items key (record u { item = item }))) None
    (set_in_place held state key u item h found value)

-- `md` with `I`, at the item's unique or at none, marks the item stale in place and gives it a new unique.
pub stale_done : (held : ShardContents) (state : State) (asked : op.MetaRemoval) (item : Item) (unique : ℕ)
    → Keeps held state → Some item ≡ live held.time (lookup (pointwise nat_eq asked.key) held.entries)
    → is_other asked.compare item.unique ≡ false → asked.invalidate ≡ true → Some unique
    ≡ unique_for asked.unique (next_of held) →
    Ends (without_dead state (Some asked.key)) (MetaDelete asked) Done
    (record held {
      entries = set_value (pointwise nat_eq asked.key) held.entries
          (stale_item item asked.exptime held.time unique);
      given = given_after asked.unique held.given;
    })
unfolding step_of kind_of is_lawful
stale_done held state asked item unique h is other mark there =
    ends (without_dead state (Some asked.key)) (MetaDelete asked) Done _ (λ e. absurd cc)
    (at_live held state asked.key item h is
    (λ i time settled. i ≡ item
    → Closes settled (here (λ s o. meta_delete_step s asked o) settled asked.key) Done
    (record held {
      entries = set_value (pointwise nat_eq asked.key) held.entries
          (stale_item i asked.exptime time unique);
      given = given_after asked.unique held.given;
    }))
    (λ u found i. (
      with_items (giving asked.unique state)
          (insert state.items asked.key (record u { item = stale_item u.item asked.exptime state.time unique })),
      inr (sym (numbered_some state asked.unique unique (staling state asked u)
          (unique_now held state asked.unique (Some unique) h there)) ∙ marks state asked u (rw i other) mark
          ∙ sym (ap (λ o. meta_delete_step state asked o) found)),
      stale_keeps held state asked.key u (stale_item u.item asked.exptime state.time unique) asked.unique h found refl,
    )) refl)

-- a flush that comes later
pending : (held : ShardContents) (state : State) (second : ℕ) → Keeps held state
    → Keeps (record held { flush = Some second }) (record state { flush = Some second })
pending held state second h = assumption

-- A flush that is to come in the future only becomes the pending one.
pub flush_later : (held : ShardContents) (state : State) (delay : ℤ) (second : ℕ) → Keeps held state → Some second
    ≡ coming (expiry_of delay held.time) held.time → Ends state (Flush delay) Done (record held { flush = Some second })
unfolding step_of Answers
flush_later held state delay second h is =
    let here_is : coming (expiry_of delay state.time) state.time ≡ Some second = rw h.time (sym is) in (
      record state { flush = Some second },
      inr (ap (λ o. (Done, flush_step state o)) (sym here_is)),
      pending held state second h,
    )

-- A flush that isn't to come in the future is done once the shard holds no item and no flush pends.
pub flush_now : (held : ShardContents) (state : State) (delay : ℤ) (new : ShardContents) → Keeps held state → None
    ≡ coming (expiry_of delay held.time) held.time → Keeps new (flushed state) → Ends state (Flush delay) Done new
unfolding step_of Answers
flush_now held state delay new h is kept =
    let here_is : coming (expiry_of delay state.time) state.time ≡ None = rw h.time (sym is) in
    (flushed state, inr (ap (λ o. (Done, flush_step state o)) (sym here_is)), kept)
