-- The laws of whole lists of operations.
use Rattle.std.proofs.Common.{◌≡◌, ℕ, ◌+◌, ◌*◌, ◌<◌, ◌≤◌, Bool, true, false, ◌⊎◌, List, [], ◌∷◌, length, Option, Some}
use Rattle.std.proofs.Common.{None, refl, sym, ap, ◌∙◌, inl, inr, arith, subst, add-one, zero, suc}
use Rattle.std.specs.Prelude.{◌==◌, ◌&&◌, not, All, slice_index_or}
use Rattle.std.specs.List.{AllZip, AllByRecursion}
use Rattle.std.specs.List.Sorted.{IsStrictlyIncreasing}
use Rattle.std.specs.Cmp.Lexicographic.{texts_ties}
use Rattle.std.specs.FinMap.{get}
use Rattle.std.proofs.lemmas.Bool.{eq-eqb, ne_eqb, and_parts}
use Rattle.std.proofs.lemmas.List.Elements.{All-head, All-tail, All-contains, All-from_recursion}
use Rattle.std.proofs.lemmas.List.Sorted.{IsNonDecreasingBy-from_all_adjacent}
use Rattle.mc_item.specs.declared.item.Item.{Item}
use Rattle.mc_item.specs.declared.op.Op.{Op}
use Rattle.mc_item.specs.declared.answer.Answer.{Answer}
use Rattle.mc_item.specs.declared.answer.Answer.TheVariants.{MetaHit}
use Rattle.mc_item.specs.declared.answer.MetaHit as hit
use Rattle.mc_item.specs.Kind.{kind_of, key_of, is_lawful}
use Rattle.mc_store.specs.State.{Used, Items, State, settle, next_unique}
use Rattle.mc_store.specs.Step.{IsStep}
use Rattle.mc_store.specs.Laws.{StaysUnless, IsKept, HasNewUnique, token_of, is_sent}
use Rattle.mc_store.specs.Runs.{TimedOp, StepsInOrder, last_of, uniques_of, times_of}
use Rattle.mc_store.specs.RunLaws.{RunsAreOrderly, RunsShareNoUnique, RunsLeaveOthers, HasGivenUniques, NewIsGiven}
use Rattle.mc_store.specs.RunLaws.{SameUniqueSameItem, one_if, is_telling, is_asked, told, cleared, ToldAlone}
use Rattle.mc_store.proofs.Lists.{same_is, get_nothing}
use Rattle.mc_store.proofs.StepLaws.{SamePlace, same_place, answers_are_lawful, others_stay, uniques_rise}
use Rattle.mc_store.proofs.StepLaws.{uniques_differ, uniques_tell, time_rises, winners_are_first}

-- Of every run: what holds of no operation, and of one more where it holds of those after it.
of_runs : (P : State → List TimedOp → List Answer → List State → Type 0) → ((old : State) → P old [] [] [])
    → ((old : State) (ask : TimedOp) (rest : List TimedOp) (answer : Answer) (answers : List Answer) (new : State)
    (states : List State) → IsStep old ask.0 ask.1 answer new → P new rest answers states
    → P old (ask ∷ rest) (answer ∷ answers) (new ∷ states))
    → (old : State) (asked : List TimedOp) (answers : List Answer) (states : List State)
    → StepsInOrder old asked answers states → P old asked answers states
of_runs P none more old [] [] [] runs = none old
of_runs P none more old (ask ∷ rest) (other ∷ answers) (next ∷ states) runs =
    more old ask rest other answers next states runs.0 (of_runs P none more next rest answers states runs.1)
of_runs P none more old asked answers states runs = absurd runs

-- Answers

abbrev IsAnswered : TimedOp → Answer → Type 0
IsAnswered ask answer = is_lawful (kind_of ask.0) answer ≡ true

lawful_runs : (old : State) (asked : List TimedOp) (answers : List Answer) (states : List State)
    → StepsInOrder old asked answers states → AllZip IsAnswered asked answers
lawful_runs =
    of_runs (λ old asked answers states. AllZip IsAnswered asked answers) (λ old. tt)
    (λ old ask rest answer answers new states step after. (answers_are_lawful old new ask.0 ask.1 answer step, after))

-- Uniques

-- each number is greater than those before it, and the first is at least this
abbrev RisesFrom : ℕ → List ℕ → Type 0
RisesFrom low [] = Unit {0}
RisesFrom low (x ∷ xs) = (low ≤ x) × RisesFrom (x + 1) xs

from_lower : (low high : ℕ) (xs : List ℕ) → low ≤ high → RisesFrom high xs → RisesFrom low xs
from_lower low high [] h rises = tt
from_lower low high (x ∷ xs) h rises = (omega (arith, rises.0), rises.1)

rises : (low : ℕ) (xs : List ℕ) → RisesFrom low xs → IsStrictlyIncreasing xs
rises low (x ∷ y ∷ xs) h zero less = omega (arith, h.1.0)
rises low (x ∷ y ∷ xs) h (suc k) less = let after : k + 1 < length (y ∷ xs) =
    omega arith in rw (add-one (suc k)) (rw (add-one k) at (rises (x + 1) (y ∷ xs) h.1 k after))
rises low xs h k less = absurd (omega arith)

-- what a step does to the unique that comes next
record Gives (old new : State) : Type 0 where
  place : SamePlace old new
  cases : ((new.given ≡ old.given) × (next_unique new ≡ next_unique old))
      ⊎ ((new.given ≡ old.given + 1) × (next_unique new ≡ next_unique old + old.shards))

gives_by : (old new : State) → SamePlace old new → (new.given ≡ old.given) ⊎ (new.given ≡ old.given + 1) → Gives old new
gives_by old new place (inl e) = record { place = place; cases = inl (e, rw (place.index, place.shards, e)) }
gives_by old new place (inr e) =
    record { place = place; cases = inr (e, rw (place.index, place.shards, e) (omega arith)) }

gives_of : (old new : State) (op : Op) (moment : ℕ) (answer : Answer) → IsStep old op moment answer new → Gives old new
gives_of old new op moment answer step =
    gives_by old new (same_place old new op moment answer step) (uniques_rise old new op moment answer step)

other_given : (a b : ℕ) → a ≡ b + 1 → (a == b) ≡ false
other_given a b e = ne_eqb a b (λ same. omega arith)

rises_more : (old new : State) (states : List State) → Gives old new → 0 < old.shards
    → RisesFrom (next_unique new) (uniques_of new states) → RisesFrom (next_unique old) (uniques_of old (new ∷ states))
rises_more old new states gives some after = elim gives.cases [
  | inl e ↦ rw (eq-eqb new.given old.given e.0)
      (from_lower (next_unique old) (next_unique new) (uniques_of new states) (omega (arith, e.1)) after)
  | inr e ↦ rw (other_given new.given old.given e.0) (
    omega arith,
    from_lower (next_unique old + 1) (next_unique new) (uniques_of new states) (omega (arith, e.1))
        after,
  )
]

uniques_rise_in : (old : State) (asked : List TimedOp) (answers : List Answer) (states : List State)
    → StepsInOrder old asked answers states → 0 < old.shards → RisesFrom (next_unique old) (uniques_of old states)
uniques_rise_in =
    of_runs (λ old asked answers states. 0 < old.shards → RisesFrom (next_unique old) (uniques_of old states))
    (λ old some. tt) (λ old ask rest answer answers new states step after some.
    let gives = gives_of old new ask.0 ask.1 answer step in
    rises_more old new states gives some (after (omega (arith, gives.place.shards))))

-- a unique of the shard in this place
abbrev IsOf : ℕ → ℕ → ℕ → Type 0
IsOf index shards unique = (given : ℕ) × (unique ≡ index + 1 + shards * given)

of_place : (old : State) (states : List State) (new : State) → Gives old new
    → AllByRecursion (IsOf new.index new.shards) (uniques_of new states)
    → AllByRecursion (IsOf old.index old.shards) (uniques_of old (new ∷ states))
of_place old states new gives after =
    let index = gives.place.index in
    let shards = gives.place.shards in
    let rest : AllByRecursion (IsOf old.index old.shards) (uniques_of new states) =
    subst (λ i. AllByRecursion (IsOf i old.shards) (uniques_of new states)) index
    (subst (λ n. AllByRecursion (IsOf new.index n) (uniques_of new states)) shards after) in
    elim gives.cases [
      | inl e ↦ rw (eq-eqb new.given old.given e.0) rest
      | inr e ↦ rw (other_given new.given old.given e.0) ((old.given, refl), rest)
    ]

uniques_of_place : (old : State) (asked : List TimedOp) (answers : List Answer) (states : List State)
    → StepsInOrder old asked answers states → AllByRecursion (IsOf old.index old.shards) (uniques_of old states)
uniques_of_place =
    of_runs (λ old asked answers states. AllByRecursion (IsOf old.index old.shards) (uniques_of old states)) (λ old. tt)
    (λ old ask rest answer answers new states step after. of_place old states new
    (gives_of old new ask.0 ask.1 answer step) after)

-- Two different shards of one number of shards never give the same unique.
pub runs_share_no_unique : RunsShareNoUnique
runs_share_no_unique one other asked more answers replies states after run second shards place other_place differ unique
    there here =
    let first_is = All-contains (IsOf one.index one.shards) (uniques_of one states) unique
    (All-from_recursion (IsOf one.index one.shards) (uniques_of one states)
    (uniques_of_place one asked answers states run)) there in
    let second_is = All-contains (IsOf other.index other.shards) (uniques_of other after) unique
    (All-from_recursion (IsOf other.index other.shards) (uniques_of other after)
    (uniques_of_place other more replies after second)) here in
    differ (uniques_differ (record one { given = first_is.0 }) (record other { given = second_is.0 }) shards place
    other_place (sym first_is.1 ∙ second_is.1)).0

-- Budget

-- Whatever a shard is asked, its budget stays the same.
pub same_budget : (old : State) (asked : List TimedOp) (answers : List Answer) (states : List State)
    → StepsInOrder old asked answers states → (last_of old states).budget ≡ old.budget
same_budget =
    of_runs (λ old asked answers states. (last_of old states).budget ≡ old.budget) (λ old. refl)
    (λ old ask rest answer answers new states step after. after ∙ (same_place old new ask.0 ask.1 answer step).budget)

-- Time

abbrev NoneBelow : ℕ → List ℕ → Type 0
NoneBelow low [] = Unit {0}
NoneBelow low (x ∷ xs) = (low ≤ x) × NoneBelow x xs

adjacent : (low : ℕ) (xs : List ℕ) → NoneBelow low xs → (k : ℕ) (d : ℕ) → k + 1 < length (low ∷ xs)
    → slice_index_or (low ∷ xs) k d ≤ slice_index_or (low ∷ xs) (k + 1) d
adjacent low [] h k d less = absurd (omega arith)
adjacent low (x ∷ xs) h zero d less = h.0
adjacent low (x ∷ xs) h (suc k) d less = let after : k + 1 < length (x ∷ xs) =
    omega arith in rw (add-one (suc k)) (rw (add-one k) at (adjacent x xs h.1 k d after))

times_runs : (old : State) (asked : List TimedOp) (answers : List Answer) (states : List State)
    → StepsInOrder old asked answers states → NoneBelow old.time (times_of states)
times_runs = of_runs (λ old asked answers states. NoneBelow old.time (times_of states)) (λ old. tt)
    (λ old ask rest answer answers new states step after.
    (omega (arith, time_rises old new ask.0 ask.1 answer step), after))

-- All of a run

-- Whatever a shard is asked, its answers are lawful, its uniques rise and its time never goes back.
pub runs_are_orderly : RunsAreOrderly
runs_are_orderly old asked answers states some run = record {
  lawful = lawful_runs old asked answers states run;
  uniques = rises (next_unique old) (uniques_of old states) (uniques_rise_in old asked answers states run some);
  time =
      IsNonDecreasingBy-from_all_adjacent (λ n. n) (old.time ∷ times_of states)
      (adjacent old.time (times_of states) (times_runs old asked answers states run));
}

-- Other items

stays_or_goes : (why : Type 0) (m n : Items) (k : List ℕ) (o : Option Used) → StaysUnless why m n k → (o ≡ get n k)
    ⊎ (o ≡ None) → (o ≡ get m k) ⊎ (o ≡ None)
stays_or_goes why m n k o (inl e) (inl f) = inl (f ∙ e)
stays_or_goes why m n k o (inr gone) (inl f) = inr (f ∙ gone.0)
stays_or_goes why m n k o before (inr f) = inr f

-- An item whose key no operation names is at the end as it was, or gone.
pub runs_leave_others : RunsLeaveOthers
runs_leave_others =
    of_runs (λ old asked answers states. (key : List ℕ) → All (λ (ask : TimedOp). ¬ (key_of ask.0 ≡ Some key)) asked
    → (get (last_of old states).items key ≡ get old.items key)
    ⊎ (get (last_of old states).items key ≡ None)) (λ old key apart. inl refl) (λ old ask rest answer answers new states
    step after key apart.
    let asks_other : TimedOp → Type 0 = λ a. ¬ (key_of a.0 ≡ Some key) in
    stays_or_goes _ old.items new.items key (get (last_of new states).items key)
    (others_stay old new ask.0 ask.1 answer step key (All-head asks_other ask rest apart))
    (after key (All-tail asks_other ask rest apart)))

-- What cas rests on

-- A new shard has no item, so none has a unique that is still to be given.
pub new_is_given : NewIsGiven
new_is_given index shards budget given limit key used is = absurd (let h' = rw (get_nothing key) at is in cc)

abbrev HasNoToken : TimedOp → Type 0
HasNoToken ask = token_of ask.0 ≡ None

-- what a run keeps of the items, and those that it changed
record Traces (old new : State) : Type 0 where
  given : HasGivenUniques new
  traced : (key : List ℕ) (used : Used) → get new.items key ≡ Some used → IsKept old.items key used.item
      ⊎ (next_unique old ≤ used.item.unique)

not_less : (old new : State) → Gives old new → next_unique old ≤ next_unique new
not_less old new gives = elim gives.cases [ inl e ↦ omega (arith, e.1) | inr e ↦ omega (arith, e.1) ]

-- where the client gives no unique
plainly : (old new : State) (token : Option ℕ) (key : List ℕ) (item : Item) → token ≡ None → IsKept old.items key item
    ⊎ HasNewUnique old new token item →
    IsKept old.items key item ⊎ ((item.unique ≡ next_unique old) × (new.given ≡ old.given + 1))
plainly old new token key item none (inl kept) = inl kept
plainly old new token key item none (inr (inl fresh)) = inr fresh
plainly old new token key item none (inr (inr is)) = absurd cc

tells_plainly : (old new : State) (ask : TimedOp) (answer : Answer) → IsStep old ask.0 ask.1 answer new → token_of ask.0
    ≡ None → (key : List ℕ) (used : Used) → get new.items key ≡ Some used → IsKept old.items key used.item
    ⊎ ((used.item.unique ≡ next_unique old) × (new.given ≡ old.given + 1))
tells_plainly old new ask answer step none key used is =
    plainly old new (token_of ask.0) key used.item none (uniques_tell old new ask.0 ask.1 answer step key used is)

given_by : (old new : State) (key : List ℕ) (used : Used) → Gives old new → 0 < old.shards → HasGivenUniques old
    → IsKept old.items key used.item ⊎ ((used.item.unique ≡ next_unique old) × (new.given ≡ old.given + 1))
    → used.item.unique < next_unique new
given_by old new key used gives some given (inl kept) =
    omega (arith, kept.2.unique, given key kept.0 kept.1, not_less old new gives)
given_by old new key used gives some given (inr fresh) = elim gives.cases [
  | inl e ↦ absurd (omega (arith, e.0, fresh.1))
  | inr e ↦ omega (arith, e.1, fresh.0)
]

traced_by : (old mid : State) (key : List ℕ) (item : Item) → Gives old mid
    → ((used : Used) → get mid.items key ≡ Some used → IsKept old.items key used.item
    ⊎ ((used.item.unique ≡ next_unique old) × (mid.given ≡ old.given + 1))) → IsKept mid.items key item
    ⊎ (next_unique mid ≤ item.unique) → IsKept old.items key item ⊎ (next_unique old ≤ item.unique)
traced_by old mid key item gives tells (inr later) = inr (omega (arith, not_less old mid gives))
traced_by old mid key item gives tells (inl kept) = elim (tells kept.0 kept.1) [
  | inl before ↦
      let more = kept.2 in
      inl (
        before.0,
        before.1,
        record {
          unique = more.unique ∙ before.2.unique;
          value = more.value ∙ before.2.value;
          flags = more.flags ∙ before.2.flags;
        },
      )
  | inr fresh ↦ inr (omega (arith, fresh.0, kept.2.unique))
]

traces : (old : State) (asked : List TimedOp) (answers : List Answer) (states : List State)
    → StepsInOrder old asked answers states → 0 < old.shards → HasGivenUniques old → All HasNoToken asked
    → Traces old (last_of old states)
traces =
    of_runs (λ old asked answers states. 0 < old.shards → HasGivenUniques old → All HasNoToken asked
    → Traces old (last_of old states)) (λ old some given _.
    record {
      given = given;
      traced = λ key used is. inl
          (used, is, record { unique = refl; value = refl; flags = refl });
    }) (λ old ask rest answer answers new states step after some given plain.
    let gives = gives_of old new ask.0 ask.1 answer step in
    let still : 0 < new.shards = omega (arith, gives.place.shards) in
    let none = All-head HasNoToken ask rest plain in
    let rest = after still (λ key used is. given_by old new key used gives some given
    (tells_plainly old new ask answer step none key used is)) (All-tail HasNoToken ask rest plain) in
    record {
      given = rest.given;
      traced =
          λ key used is. traced_by old new key used.item gives
          (λ mid there. tells_plainly old new ask answer step none key mid there) (rest.traced key used is);
    })

tell_apart : (old : State) (key : List ℕ) (before after : Used) → HasGivenUniques old → get old.items key ≡ Some before
    → after.item.unique ≡ before.item.unique → IsKept old.items key after.item ⊎ (next_unique old ≤ after.item.unique)
    → (after.item.value ≡ before.item.value) × (after.item.flags ≡ before.item.flags)
tell_apart old key before after given is same_unique (inl kept) =
    let there : kept.0 ≡ before = (let found = kept.1 in cc) in
    (kept.2.value ∙ ap (λ u. u.item.value) there, kept.2.flags ∙ ap (λ u. u.item.flags) there)
tell_apart old key before after given is same_unique (inr later) = absurd (omega (arith, given key before is))

-- Where no client gives a unique, the same unique under a key means the same value and flags: `cas` rests on it.
pub same_unique_same_item : SameUniqueSameItem
same_unique_same_item old asked answers states run some given plain =
    let all = traces old asked answers states run some given plain in (
      all.given,
      λ key before after is there same_unique. tell_apart old key before after given is same_unique
          (all.traced key after there),
    )

-- Who is to recompute

bits : (before settled after tells : Bool) → (tells ≡ true → (settled ≡ false) × (after ≡ true))
    → one_if tells + one_if before ≤ one_if (before && not settled) + (one_if (settled && not after) + one_if after)
bits before true after true h = absurd (let none = (h refl).0 in let both : true ≡ false = none in cc)
bits before false false true h = absurd (let none = (h refl).1 in let both : false ≡ true = none in cc)
bits true false true true h = omega arith
bits false false true true h = omega arith
bits true true true false h = omega arith
bits true true false false h = omega arith
bits true false true false h = omega arith
bits true false false false h = omega arith
bits false true true false h = omega arith
bits false true false false h = omega arith
bits false false true false h = omega arith
bits false false false false h = omega arith

asks_for : (o : Option (List ℕ)) (key : List ℕ) → is_asked o key ≡ true → o ≡ Some key
asks_for None key h = cc
asks_for (Some asked) key h = ap (λ k. Some k) (same_is asked key (rw (texts_ties asked key) at h))

telling : (answer : Answer) → is_telling answer ≡ true → (shown : hit.MetaHit) × (answer ≡ MetaHit shown)
    × (shown.marks.won ≡ true)
telling (MetaHit shown) h = (shown, refl, h)
telling _ h = cc

telling_first : (old new : State) (ask : TimedOp) (answer : Answer) (key : List ℕ) → IsStep old ask.0 ask.1 answer new
    → (is_asked (key_of ask.0) key && is_telling answer) ≡ true
    → (is_sent (settle old (key_of ask.0) ask.1).items key ≡ false) × (is_sent new.items key ≡ true)
telling_first old new ask answer key step h =
    let parts = and_parts (is_asked (key_of ask.0) key) (is_telling answer) h in
    let shown = telling answer parts.1 in
    winners_are_first old new ask.0 ask.1 shown.0 (rw (← shown.1) step) shown.2 key
    (asks_for (key_of ask.0) key parts.0)

one_more : (tells before first second after told_after cleared_after last : ℕ)
    → tells + before ≤ first + (second + after) → told_after + after ≤ cleared_after + last
    → tells + told_after + before ≤ first + (second + cleared_after) + last
one_more tells before first second after told_after cleared_after last now then_ = omega arith

-- At most one client is to recompute an item, and one more for each time that the item's mark was taken.
pub told_alone : ToldAlone
told_alone =
    of_runs (λ old asked answers states. (key : List ℕ)
    → told key asked answers + one_if (is_sent old.items key) ≤ cleared key old asked states + one_if
    (is_sent (last_of old states).items key)) (λ old key. omega arith) (λ old ask rest answer answers new states step
    after key.
    let before = is_sent old.items key in
    let settled = is_sent (settle old (key_of ask.0) ask.1).items key in
    let now = is_sent new.items key in
    let tells = is_asked (key_of ask.0) key && is_telling answer in
    one_more (one_if tells) (one_if before) (one_if (before && not settled)) (one_if (settled && not now)) (one_if now)
    (told key rest answers) (cleared key new rest states) (one_if (is_sent (last_of new states).items key))
    (bits before settled now tells (telling_first old new ask answer key step)) (after key))
