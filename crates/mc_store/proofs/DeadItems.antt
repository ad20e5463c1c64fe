-- A dead item that waits for its turn is removed when the turn comes, and each item that enters brings the turn nearer.
use Rattle.std.proofs.Common.{◌≡◌, ℕ, ◌-◌, ◌≤◌, true, false, ◌⊎◌, List, [], ◌∷◌, ◌++◌, length, Option, Some, None}
use Rattle.std.proofs.Common.{refl, ap, ◌∙◌, inl, inr, arith, append_assoc}
use Rattle.std.specs.Prelude.{◌==◌}
use Rattle.std.specs.FinMap.{get}
use Rattle.std.proofs.lemmas.Bool.{cases_Bool, eq-eqb, eqb-true}
use Rattle.mc_item.specs.declared.item.Item.{Item}
use Rattle.mc_item.specs.Expiry.{is_dead}
use Rattle.mc_store.specs.State.{Used, Items, Turn, State, first, evicting, is_reclaimed, comes_again, items_after}
use Rattle.mc_store.specs.State.{turns_after, looked, waits, with_turn}
use Rattle.mc_store.specs.Laws.{Waits, DeadGo}
use Rattle.mc_store.proofs.Lists.{get_gone, get_other}
use Rattle.mc_store.proofs.Costs.{fitting_other}
use Rattle.mc_store.proofs.StepLaws.{put_at, apart}
use Rattle.mc_store.proofs.Turns.{after_other}

-- the turn's item is there, and dead
record Lies (state : State) (turn : Turn) : Type 0 where
  item : Used
  found : get state.items turn.0 ≡ Some item
  own : item.item.unique ≡ turn.1
  dead : is_dead item.item.expiry state.time ≡ true

-- a look takes the item, or brings its turn nearer
abbrev Nears : State → State → Turn → ℕ → Type 0
Nears old new turn ahead = (get new.items turn.0 ≡ None) ⊎ (Lies new turn × ((1 ≤ ahead) × Waits new turn (ahead - 1)))

differ : (a b : ℕ) → ¬ (a ≡ b) → (a == b) ≡ false
differ a b apart = elim (cases_Bool (a == b)) [ inl t ↦ absurd (apart (eqb-true a b t)) | inr f ↦ f ]

-- what is gone stays so
none_stays : (entering time : ℕ) (m : Items) (turns : List Turn) (k : List ℕ) → get m k ≡ None
    → get (items_after entering time m turns) k ≡ None
none_stays entering time m turns k none =
    elim (after_other entering time m turns k) [ inl same ↦ same ∙ none | inr gone ↦ gone.0 ]

look_nears : (s : State) (entering : ℕ) (turn : Turn) (ahead : ℕ) → Lies s turn → ¬ (turn.1 ≡ entering)
    → (before after : List Turn) → s.turns ≡ before ++ turn ∷ after → length before ≡ ahead
    → Nears s (looked entering s) turn ahead
unfolding items_after turns_after
look_nears s entering turn ahead lies other [] after turns place =
    let own : (lies.item.item.unique == turn.1) ≡ true = eq-eqb lies.item.item.unique turn.1 lies.own in
    let goes : is_reclaimed entering s.time s.items turn ≡ true =
    rw (lies.found, own, lies.dead, differ turn.1 entering other) refl in
    inl (rw (turns, goes) (get_gone s.items turn.0))
look_nears s entering turn ahead lies other (b ∷ bs) after turns place =
    elim (after_other entering s.time s.items s.turns turn.0) [
      | inr gone ↦ inl gone.0
      | inl same ↦
          let less : length bs ≡ ahead - 1 = (let whole : length (b ∷ bs) ≡ ahead = place in omega arith) in
          let some : 1 ≤ ahead = (let whole : length (b ∷ bs) ≡ ahead = place in omega arith) in
          inr (
            record { item = lies.item; found = same ∙ lies.found; own = lies.own; dead = lies.dead },
            (
              some,
              elim (cases_Bool (comes_again entering s.time s.items b)) [
                | inl t ↦ record {
                  before = bs;
                  after = after ++ b ∷ [];
                  turns = rw (turns, t) (append_assoc bs (turn ∷ after) (b ∷ []));
                  place = less;
                }
                | inr f ↦ record { before = bs; after = after; turns = rw (turns, f) refl; place = less }
              ],
            ),
          )
    ]

-- the turn of the item that entered comes behind
waits_on : (s : State) (token : Option ℕ) (key : List ℕ) (item : Item) (turn : Turn) (n m : ℕ) → n ≡ m → Waits s turn n
    → Waits (with_turn s token key item) turn m
waits_on s token key item turn n m same w = elim (cases_Bool (waits token item)) [
  | inl t ↦ record {
    before = w.before;
    after = w.after ++ (key, item.unique) ∷ [];
    turns =
        rw t (ap (λ ts. ts ++ (key, item.unique) ∷ []) w.turns
        ∙ append_assoc w.before (turn ∷ w.after) ((key, item.unique) ∷ []));
    place = w.place ∙ same;
  }
  | inr f ↦ record { before = w.before; after = w.after; turns = rw f w.turns; place = w.place ∙ same }
]

-- A dead item whose turn waits is gone once another enters, or its turn comes two places nearer.
pub dead_go : DeadGo
dead_go state token key item turn ahead used is own dead other_key other_unique w =
    let s = evicting (first state key item) key in
    let u = item.unique in
    let once = looked u s in
    elim (fitting_other (first state key item).items state.budget key turn.0) [
      | inr gone ↦ inl (none_stays u s.time once.items once.turns turn.0
          (none_stays u s.time s.items s.turns turn.0 gone.0))
      | inl stays ↦
          let before = get_other state.items key turn.0 (put_at state item)
          (apart key turn.0 (λ e. other_key (let same : key ≡ turn.0 = cc in cc))) in
          let lies : Lies s turn = record { item = used; found = stays ∙ before ∙ is; own = own; dead = dead } in
          elim (look_nears s u turn ahead lies other_unique w.before w.after w.turns w.place) [
            | inl none ↦ inl (none_stays u s.time once.items once.turns turn.0 none)
            | inr near ↦
                let there = near.1.1 in
                elim (look_nears once u turn (ahead - 1) near.0 other_unique there.before there.after there.turns
                there.place) [
                  | inl none ↦ inl none
                  | inr nearer ↦
                      let a = near.1.0 in
                      let b = nearer.1.0 in
                      inr (
                        omega arith,
                        waits_on (looked u once) token key item turn (ahead - 1 - 1) (ahead - 2)
                            (omega arith) nearer.1.1,
                      )
                ]
          ]
    ]
