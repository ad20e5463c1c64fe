-- Closing a history.
use Rattle.std.proofs.Common.{◌≡◌, ℕ, ◌+◌, ◌<◌, ◌≤◌, List, [], ◌++◌, inl, inr, length, set, get_or, Some}
use Rattle.std.proofs.Common.{refl, sym, ap, ◌∙◌, subst, arith, append-nil, length-append}
use Rattle.std.specs.List.{AllByRecursion, slice_get}
use Rattle.std.proofs.lemmas.Bool.{cases_lt}
use Rattle.std.proofs.lemmas.List.{nil_from_length, set-get_or}
use Rattle.std.proofs.lemmas.List.Elements.{filter-append}
use Rattle.std.proofs.lemmas.Option.{same_Some, slice_get-get_or, slice_get_within}
use Rattle.mc_ring.specs.Route.{Name}
use Rattle.mc_model.specs.Grows.{Lengthens}
use Rattle.mc_model.proofs.Growing.{further, set_other}
use Rattle.mc_model.proofs.Lists.{all_from}
use Rattle.mc_ring.proofs.Lists.{all_at}
use Rattle.mc_history.specs.declared.event.Event.{Event}
use Rattle.mc_history.specs.declared.knowledge.Role.{Role}
use Rattle.mc_history.specs.Roles.{is_own, own_part}
use Rattle.mc_history.specs.Tokens.{Acting, Sees, Sight as Shows}
use Rattle.mc_history.proofs.Seeing.{part_heard}
use Rattle.mc_record.specs.Closing.{IsWholeIn}

-- The part of a role in a longer history begins with that in the shorter one.
part_grows : (role : Role) (seen history : List Event) → Lengthens seen history
    → Lengthens (own_part role seen) (own_part role history)
part_grows role seen history more =
    (own_part role more.0, ap (own_part role) more.1 ∙ filter-append (is_own role) seen more.0)

-- Two lists of which each begins with the other are the same.
same_length : {X : Type 0} (xs ys : List X) → Lengthens xs ys → Lengthens ys xs → xs ≡ ys
same_length xs ys one other =
    let longer = ap length one.1 ∙ length-append xs one.0 in
    let shorter = ap length other.1 ∙ length-append ys other.0 in
    let none : one.0 ≡ [] = nil_from_length one.0 (omega (arith, longer, shorter)) in
    sym (one.1 ∙ (ap (λ l. xs ++ l) none ∙ append-nil xs))

-- The witness has seen what the first clerks have. They are kept.
pub record HearsFirst (name : Name) (count : ℕ) (clerks now : List Acting) (witness : Acting) : Type 0 where
  pub kept : now ≡ clerks
  pub name_is : witness.name ≡ name
  pub seen : (i : ℕ) (clerk : Acting) → i < count → slice_get clerks i ≡ Some clerk
      → Lengthens clerk.events witness.events

-- One clerk more is heard.
pub hears_one : (name : Name) (count : ℕ) (clerks now : List Acting) (witness witness' d clerk' : Acting)
    (shown : Shows) → count < length now → clerk' ≡ get_or now count d
    → shown ≡ record { name = (get_or now count d).name; events = (get_or now count d).events }
    → Sees shown.events witness witness'
    → HearsFirst name count clerks now witness
    → HearsFirst name (count + 1) clerks (set now count clerk') witness'
hears_one name count clerks now witness witness' d clerk' shown within same is sees first =
    let clerk = get_or now count d in
    let as_it_was : set now count clerk' ≡ now = ap (set now count) same ∙ set-get_or now count d in
    let found : slice_get clerks count ≡ Some clerk = ap (λ cs. slice_get cs count) (sym first.kept)
    ∙ slice_get-get_or now count d within in
    record {
      kept = as_it_was ∙ first.kept;
      name_is = sees.name ∙ first.name_is;
      seen = λ i one below there. elim (cases_lt i count) [
        | inl before ↦ further one.events witness.events witness'.events (first.seen i one before there) sees.more
        | inr last ↦
            let i_is : i ≡ count = omega (arith, below, last) in
            let one_is : one ≡ clerk = same_Some one clerk (sym there ∙ (ap (slice_get clerks) i_is ∙ found)) in
            subst (λ (a : Acting). Lengthens a.events witness'.events) (sym one_is)
            (subst (λ (s : Shows). Lengthens s.events witness'.events) is sees.heard_too)
      ];
    }

-- What was shown to an actor that had seen no more holds no event of the actor's own that it had not seen.
whole_in : (history : List Event) (clerk clerk' : Acting) → Lengthens clerk.events history
    → Sees history clerk clerk' → IsWholeIn history clerk
whole_in history clerk clerk' more sees =
    let part = own_part clerk.role in
    let shown = part_grows clerk.role history clerk'.events sees.heard_too in
    let same : part clerk'.events ≡ part clerk.events = part_heard clerk.role history clerk clerk' refl sees in
    record {
      seen = more;
      own =
          same_length (part history) (part clerk.events)
          (subst (λ l. Lengthens (part history) l) same shown)
          (part_grows clerk.role clerk.events history more);
    }

-- The first clerks have been shown the history, the others have not.
pub record ShowsFirst (history : List Event) (count : ℕ) (clerks now : List Acting) : Type 0 where
  pub whole : (i : ℕ) (clerk : Acting) → i < count → slice_get clerks i ≡ Some clerk → IsWholeIn history clerk
  pub others : (i : ℕ) → count ≤ i → slice_get now i ≡ slice_get clerks i

-- None has been shown it.
pub shows_none : (history : List Event) (clerks : List Acting) → ShowsFirst history 0 clerks clerks
shows_none history clerks =
    record { whole = λ i clerk below here. absurd (omega (arith, below)); others = λ i from. refl }

-- One clerk more is shown it.
pub shows_one : (history : List Event) (count : ℕ) (clerks now : List Acting) (d clerk' : Acting)
    → count < length now → AllByRecursion (λ (one : Acting). Lengthens one.events history) clerks
    → Sees history (get_or now count d) clerk' → ShowsFirst history count clerks now
    → ShowsFirst history (count + 1) clerks (set now count clerk')
shows_one history count clerks now d clerk' within all sees first =
    let clerk = get_or now count d in
    let was : slice_get clerks count ≡ Some clerk = sym (first.others count (omega arith))
    ∙ slice_get-get_or now count d within in
    record {
      whole = λ i one below there. elim (cases_lt i count) [
        | inl before ↦ first.whole i one before there
        | inr last ↦
            let i_is : i ≡ count = omega (arith, below, last) in
            let one_is : clerk ≡ one = same_Some clerk one (sym was ∙ (ap (slice_get clerks) (sym i_is) ∙ there)) in
            subst (IsWholeIn history) one_is
            (whole_in history clerk clerk'
            (all_at (λ (a : Acting). Lengthens a.events history) clerks count clerk all was) sees)
      ];
      others = λ i from.
          set_other now count clerk' i (λ e. absurd (omega (arith, e, from)))
          ∙ first.others i (omega (arith, from));
    }

-- What holds of the clerk at each place holds of all.
pub heard_all : (name : Name) (count : ℕ) (clerks now : List Acting) (witness : Acting) → length clerks ≤ count
    → HearsFirst name count clerks now witness
    → AllByRecursion (λ (clerk : Acting). Lengthens clerk.events witness.events) clerks
heard_all name count clerks now witness all first =
    all_from (λ (clerk : Acting). Lengthens clerk.events witness.events) clerks
    (λ i clerk here. first.seen i clerk (let below = slice_get_within clerks i clerk here in omega (arith, below, all))
    here)

-- Where the history has all of the clerk at each place, it has all of every clerk.
pub shown_all : (history : List Event) (count : ℕ) (clerks now : List Acting) → length clerks ≤ count
    → ShowsFirst history count clerks now → AllByRecursion (IsWholeIn history) clerks
shown_all history count clerks now all first =
    all_from (IsWholeIn history) clerks
    (λ i clerk here. first.whole i clerk (let below = slice_get_within clerks i clerk here in omega (arith, below, all))
    here)
