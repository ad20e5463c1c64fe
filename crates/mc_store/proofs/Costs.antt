-- What the items of a map cost, and which of them stay within a budget.
use Rattle.std.proofs.Common.{◌≡◌, ℕ, ◌+◌, ◌-◌, ◌<◌, ◌≤◌, Bool, false, cond, ◌⊎◌, List, [], ◌∷◌, length, Option, Some}
use Rattle.std.proofs.Common.{None, refl, sym, ap, ◌∙◌, inl, inr, arith, nat_le}
use Rattle.std.specs.Prelude.{◌||◌}
use Rattle.std.specs.List.{sum_by}
use Rattle.std.specs.Cmp.Lexicographic.{slice_cmp, texts_ties, nat_list_cmp_total}
use Rattle.std.specs.Ordering.{nat_cmp}
use Rattle.std.specs.declared.cmp.Ordering.{Ordering}
use Rattle.std.specs.declared.cmp.Ordering.TheVariants.{Less, Equal, Greater}
use Rattle.std.specs.FinMap.{get, insert, remove, retain_keys, entries, find, put, get-entries, len-entries, len-empty}
use Rattle.std.specs.FinMap.{entries-insert}
use Rattle.std.proofs.lemmas.Bool.{cases_Bool, or_parts, le-leb, lt-leb, leb-true, leb-false}
use Rattle.std.proofs.lemmas.List.Sums.{sum_by-cons}
use Rattle.mc_wire.specs.SameKey.{same_key}
use Rattle.mc_store.specs.State.{Used, Items, number_at, cost, cost_of, costs, used_since, fitting}
use Rattle.mc_store.specs.Shard.{AllBelow, Shows}
use Rattle.mc_store.specs.internal.Listed.{ListedItem, entry_cost, listed_cost, within}
use Rattle.mc_store.proofs.Lists.{same, used, nothing, same_self, not_same, same_items, same_but, none_either}
use Rattle.mc_store.proofs.Lists.{get_nothing, get_retained, get_here, get_other, get_gone, get_apart, get_kept}
use Rattle.mc_store.proofs.Lists.{retained_is, insert-remove, insert_same, remove_none, Shows-first}
use Rattle.mc_store.proofs.Listed.{cost_cons}

-- Maps that keep some keys

get_since : (m : Items) (k q : List ℕ) → get (used_since m k) q
    ≡ cond (nat_le (number_at m k) (number_at m q)) (get m q) None
unfolding used_since
get_since m k q = get_retained m (λ other. nat_le (number_at m k) (number_at m other)) q

get_fitting : (m : Items) (budget : ℕ) (k q : List ℕ) →
    get (fitting m budget k) q ≡ cond (same_key k q || nat_le (costs (used_since m q)) budget) (get m q) None
unfolding fitting
get_fitting m budget k q = get_retained m (λ other. same_key k other || nat_le (costs (used_since m other)) budget) q

-- the items that fit a room, whatever key is to stay
abbrev pub kept : Items → ℕ → Items
kept m room = retain_keys m (λ other. nat_le (costs (used_since m other)) room)

get_kept_in : (m : Items) (room : ℕ) (q : List ℕ) → get (kept m room) q
    ≡ cond (nat_le (costs (used_since m q)) room) (get m q) None
get_kept_in m room q = get_retained m (λ other. nat_le (costs (used_since m other)) room) q

AllBelow-retained : (m : Items) (p : List ℕ → Bool) (n : ℕ) → AllBelow m n → AllBelow (retain_keys m p) n
AllBelow-retained m p n below q u there = below q u (retained_is m p q u there)

-- Where all numbers of last use are below a number, those of the items that eviction leaves are so too.
pub AllBelow-fitting : (m : Items) (budget : ℕ) (k : List ℕ) (n : ℕ) → AllBelow m n → AllBelow (fitting m budget k) n
unfolding fitting
AllBelow-fitting m budget k n below =
    AllBelow-retained m (λ other. same_key k other || nat_le (costs (used_since m other)) budget) n below

-- the item under the key stays; another one stays, or those used no earlier cost too much with it
pub fitting_key : (m : Items) (budget : ℕ) (k : List ℕ) → get (fitting m budget k) k ≡ get m k
fitting_key m budget k = rw (get_fitting m budget k k, texts_ties k k, same_self k)

-- Eviction leaves an item as it is, or takes it where it and all used no earlier cost more than the budget.
pub fitting_other : (m : Items) (budget : ℕ) (k q : List ℕ) →
    (get (fitting m budget k) q ≡ get m q) ⊎ ((get (fitting m budget k) q ≡ None) × (budget < costs (used_since m q)))
fitting_other m budget k q = elim (cases_Bool (same_key k q || nat_le (costs (used_since m q)) budget)) [
  | inl t ↦ inl (rw (get_fitting m budget k q, t))
  | inr f ↦ inr (
    rw (get_fitting m budget k q, f),
    leb-false (costs (used_since m q)) budget
        (or_parts (same_key k q) (nat_le (costs (used_since m q)) budget) f).1,
  )
]

-- What they cost

no_entries : entries nothing ≡ []
no_entries = nil (entries nothing) (sym (len-entries nothing) ∙ len-empty (slice_cmp nat_cmp) Used) where
  nil : (es : List (List ℕ × Used)) → length es ≡ 0 → es ≡ []
  nil [] h = refl
  nil (e ∷ es) h = absurd (omega arith)

-- Where there are no items, they cost nothing.
pub costs_nothing : costs nothing ≡ 0
unfolding costs
costs_nothing = ap (λ es. sum_by cost_of es) no_entries

abbrev SumsWith : List ℕ → Used → List (List ℕ × Used) → Type 0
SumsWith k u es = sum_by cost_of (put (slice_cmp nat_cmp) k u es) ≡ cost_of (k, u) + sum_by cost_of es

sum_put_by : (k : List ℕ) (u : Used) (e : List ℕ × Used) (es : List (List ℕ × Used)) (o : Ordering)
    → slice_cmp nat_cmp k e.0 ≡ o → find (slice_cmp nat_cmp) k (e ∷ es) ≡ None
    → (find (slice_cmp nat_cmp) k es ≡ None → SumsWith k u es) → SumsWith k u (e ∷ es)
sum_put_by k u e es Less is none rest = rw is (sum_by-cons cost_of (k, u) (e ∷ es))
sum_put_by k u e es Equal is none rest = absurd (let none' = rw is at none in cc)
sum_put_by k u e es Greater is none rest =
    let after = rest (rw is at none) in
    rw is (omega (arith, sum_by-cons cost_of e (put (slice_cmp nat_cmp) k u es), sum_by-cons cost_of e es))

-- an item under a new key, in its place
sum_put : (k : List ℕ) (u : Used) (es : List (List ℕ × Used)) → find (slice_cmp nat_cmp) k es ≡ None → SumsWith k u es
sum_put k u [] none = sum_by-cons cost_of (k, u) []
sum_put k u (e ∷ es) none = sum_put_by k u e es (slice_cmp nat_cmp k e.0) refl none (λ after. sum_put k u es after)

costs_new : (m : Items) (k : List ℕ) (u : Used) → get m k ≡ None → costs (insert m k u) ≡ cost k u.item.value + costs m
unfolding costs
costs_new m k u none =
    ap (λ es. sum_by cost_of es) (entries-insert nat_list_cmp_total m k u)
    ∙ sum_put k u (entries m) (sym (get-entries m k) ∙ none)

-- an item, and the others
pub costs_inserted : (m : Items) (k : List ℕ) (u : Used) → costs (insert m k u)
    ≡ cost k u.item.value + costs (remove m k)
costs_inserted m k u = ap costs (sym (insert-remove m k u)) ∙ costs_new (remove m k) k u (get_gone m k)

-- All items together cost what the one under the key and the others do.
pub costs_with : (m : Items) (k : List ℕ) (u : Used) → get m k ≡ Some u → costs m
    ≡ cost k u.item.value + costs (remove m k)
costs_with m k u is = ap costs (sym (insert_same m k u is)) ∙ costs_inserted m k u

-- the list costs what the map does
pub costs_shown : (es : List ListedItem) (m : Items) → Shows es m → costs m ≡ listed_cost es
costs_shown [] m h = rw h costs_nothing
costs_shown (e ∷ es) m h =
    costs_with m e.0 (used e.1 h.0) h.1 ∙ ap (λ n. entry_cost e + n) (costs_shown es (remove m e.0) h.3)
    ∙ sym (cost_cons e es)

-- Which of them stay

number_of : (m : Items) (k : List ℕ) (u : Used) → get m k ≡ Some u → number_at m k ≡ u.number
number_of m k u is = rw is

fits_less : (a room c : ℕ) → c ≤ room → nat_le (c + a) room ≡ nat_le a (room - c)
fits_less a room c h = elim (cases_Bool (nat_le a (room - c))) [
  | inl t ↦ le-leb (c + a) room (omega (arith, leb-true a (room - c) t)) ∙ sym t
  | inr f ↦ lt-leb (c + a) room (omega (arith, leb-false a (room - c) f)) ∙ sym f
]

-- Where an item was used after all others
module _ (m : Items) (k : List ℕ) (first : Used) (is : get m k ≡ Some first)
    (below : AllBelow (remove m k) first.number) where
  -- another one costs with it, and with the others used no earlier
  since_with : (q : List ℕ) (u : Used) → get (remove m k) q ≡ Some u → costs (used_since m q)
      ≡ cost k first.item.value + costs (used_since (remove m k) q)
  since_with q u there =
      let others = remove m k in
      let one = number_of m q u (get_kept m k q u there) in
      let two = number_of others q u there in
      let less = below q u there in
      let found : get (used_since m q) k ≡ Some first =
      rw (get_since m q k, one, number_of m k first is, le-leb u.number first.number (omega arith)) is in
      let without : remove (used_since m q) k ≡ used_since others q =
      same_but (remove (used_since m q) k) (used_since others q) k
      (rw (get_gone (used_since m q) k, get_since others q k, get_gone m k)
      (sym (none_either (nat_le (number_at others q) 0))))
      (λ x f. rw (get_apart (used_since m q) k x f, get_since m q x, get_since others q x, get_apart m k x f, one, two))
      in
      costs_with (used_since m q) k first found ∙ ap (λ n. cost k first.item.value + costs n) without

  since_other : (x : List ℕ) → same x k ≡ false → (o : Option Used) → get m x ≡ o → get (used_since m k) x ≡ None
  since_other x apart None none = rw (get_since m k x, none) (none_either (nat_le (number_at m k) 0))
  since_other x apart (Some u) there =
      let less = below x u (get_apart m k x apart ∙ there) in
      rw (get_since m k x, number_of m k first is, number_of m x u there, lt-leb first.number u.number less)

  -- nothing was used after it
  since_first : costs (used_since m k) ≡ cost k first.item.value
  since_first =
      let found : get (used_since m k) k ≡ Some first =
      rw (get_since m k k, number_of m k first is, le-leb first.number first.number (omega arith)) is in
      let none : remove (used_since m k) k ≡ nothing = same_but (remove (used_since m k) k) nothing k
      (get_gone (used_since m k) k ∙ sym (get_nothing k))
      (λ x f. get_apart (used_since m k) k x f ∙ since_other x f (get m x) refl ∙ sym (get_nothing x)) in
      let zero = ap costs none ∙ costs_nothing in
      costs_with (used_since m k) k first found ∙ omega arith

  -- where it stays
  keeps_first : (room : ℕ) → cost k first.item.value ≤ room → kept m room
      ≡ insert (kept (remove m k) (room - cost k first.item.value)) k first
  keeps_first room small =
      let c = cost k first.item.value in
      let others = kept (remove m k) (room - c) in
      same_but (kept m room) (insert others k first) k
      (rw (get_kept_in m room k, get_here others k first, since_first, le-leb c room small) is)
      (λ x f. rw (
        get_kept_in m room x,
        get_other others k x first f,
        get_kept_in (remove m k) (room - c) x,
        get_apart m k x f,
      )
      (at x f (get m x) refl)) where
        at : (x : List ℕ) → same x k ≡ false → (o : Option Used) → get m x ≡ o →
            cond (nat_le (costs (used_since m x)) room) (get m x) None ≡
            cond (nat_le (costs (used_since (remove m k) x)) (room - cost k first.item.value)) (get m x) None
        at x apart None none = rw none
            (none_either (nat_le (costs (used_since m x)) room) ∙ sym
            (none_either (nat_le (costs (used_since (remove m k) x)) (room - cost k first.item.value))))
        at x apart (Some u) there =
            rw (
              since_with x u (get_apart m k x apart ∙ there),
              fits_less (costs (used_since (remove m k) x)) room (cost k first.item.value) small,
            )

  -- where it alone costs too much
  keeps_none : (room : ℕ) → room < cost k first.item.value → kept m room ≡ nothing
  keeps_none room large = same_but (kept m room) nothing k
      (rw (get_kept_in m room k, get_nothing k, since_first, lt-leb (cost k first.item.value) room large))
      (λ x f. rw (get_kept_in m room x, get_nothing x) (at x f (get m x) refl)) where
        at : (x : List ℕ) → same x k ≡ false → (o : Option Used) → get m x ≡ o
            → cond (nat_le (costs (used_since m x)) room) (get m x) None ≡ None
        at x apart None none = rw none (none_either (nat_le (costs (used_since m x)) room))
        at x apart (Some u) there =
            rw (
              since_with x u (get_apart m k x apart ∙ there),
              lt-leb (cost k first.item.value + costs (used_since (remove m k) x)) room (omega arith),
            )

  -- where it fits and is to stay, no other is favoured by that
  pub fitting_is : (budget : ℕ) → cost k first.item.value ≤ budget → fitting m budget k ≡ kept m budget
  fitting_is budget small = same_but (fitting m budget k) (kept m budget) k
      (rw (fitting_key m budget k, get_kept_in m budget k, since_first, le-leb (cost k first.item.value) budget small))
      (λ x f. rw (get_fitting m budget k x, get_kept_in m budget x, texts_ties k x, not_same x k f))

-- the list within a room shows the items that fit it
pub Shows-within : (room : ℕ) (es : List ListedItem) (m : Items) → Shows es m → Shows (within room es) (kept m room)
Shows-within room [] m h =
    rw h (same_items (kept nothing room) nothing
    (λ x. rw (get_kept_in nothing room x, get_nothing x) (none_either (nat_le (costs (used_since nothing x)) room))))
Shows-within room (e ∷ es) m h = elim (cases_Bool (nat_le (entry_cost e) room)) [
  | inl t ↦
      let left = room - entry_cost e in
      let others = kept (remove m e.0) left in
      let gone : get others e.0 ≡ None =
      rw (get_kept_in (remove m e.0) left e.0, get_gone m e.0)
      (none_either (nat_le (costs (used_since (remove m e.0) e.0)) left)) in
      let out = remove_none others e.0 gone in
      let below = AllBelow-retained (remove m e.0) (λ other. nat_le (costs (used_since (remove m e.0) other)) left) h.0
      h.2 in
      rw (t, keeps_first m e.0 (used e.1 h.0) h.1 h.2 room (leb-true (entry_cost e) room t))
      (Shows-first (within left es) others e.0 e.1 h.0 (rw out (Shows-within left es (remove m e.0) h.3))
      (rw out below))
  | inr f ↦ rw (f, keeps_none m e.0 (used e.1 h.0) h.1 h.2 room (leb-false (entry_cost e) room f))
]
