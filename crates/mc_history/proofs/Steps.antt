-- Each step of a token keeps the rule.
use Rattle.std.proofs.Common.{◌≡◌, ℕ, ◌+◌, false, List, [], ◌∷◌, ◌++◌, slice_set, inl, inr, refl, sym, ap, subst, ◌∙◌}
use Rattle.std.proofs.Common.{true, append-nil}
use mathlib.Core.Option.{some}
use lib.ListN.{get_elem?}
use Rattle.atomic_table.specs.Table.{State, keeps, Allows, Splits, Joins}
use Rattle.atomic_table.proofs.Lists.{at_set, set_again}
use Rattle.mc_sizes.specs.declared.sizes.Sizes.{Sizes}
use Rattle.std.specs.List.{AllByRecursion}
use Rattle.std.proofs.lemmas.List.Elements.{filter-append}
use Rattle.mc_ring.proofs.Lists.{all_weaken}
use Rattle.mc_model.proofs.Growing.{further, stays}
use Rattle.mc_history.specs.declared.event.Event.{Event}
use Rattle.mc_history.specs.declared.knowledge.Knowledge.{Knowledge}
use Rattle.mc_history.specs.declared.knowledge.Role.{Role}
use Rattle.mc_history.specs.declared.knowledge.Role.TheVariants.{Rest, Seat, Shard}
use Rattle.mc_history.specs.Lawful.{IsHistory, MayAllFollow}
use Rattle.mc_history.specs.Roles.{AreApart, IsWithin, is_own, own_part, seat_of}
use Rattle.mc_history.specs.Rule.{Extends, Fits, IsKept, Learns, MayJoin, first_seat, first_shard, hearing, later_seats}
use Rattle.mc_history.specs.Rule.{later_shards, reader, seeing, shards_from, used_up}
use Rattle.mc_history.proofs.Lists.{filter_none}
use Rattle.mc_history.proofs.Roles.{apart_reader, apart_seats, apart_shards, apart_within, first_seat_within}
use Rattle.mc_history.proofs.Roles.{first_shard_within, later_seats_within, later_shards_within, none_own, part_within}
use Rattle.mc_history.proofs.Follows.{history_join}
use Rattle.mc_history.proofs.Views.{apart_set, apart_snoc, fit_set, fit_snoc}

-- what a token knows fits after events of another's
fits_later : (history events : List Event) (v : Knowledge) → Fits history v
    → AllByRecursion (λ event. is_own v.role event ≡ false) events → Fits (history ++ events) v
fits_later history events v fits other = record {
  seen = further v.seen history (history ++ events) fits.seen (events, refl);
  heard = further v.heard history (history ++ events) fits.heard (events, refl);
  own =
      filter-append (is_own v.role) history events
      ∙ (ap (λ l. own_part v.role history ++ l) (filter_none (is_own v.role) events other)
      ∙ (append-nil (own_part v.role history) ∙ fits.own));
}

-- what is the token's own is nobody else's
all_others : (one other : Role) (events : List Event) → AreApart one other
    → AllByRecursion (λ event. is_own one event ≡ true) events
    → AllByRecursion (λ event. is_own other event ≡ false) events
all_others one other events apart own =
    all_weaken (λ event. is_own one event ≡ true) (λ event. is_own other event ≡ false) (λ event mine. apart event mine)
    events own

-- who has seen all
fits_whole : (history : List Event) (v : Knowledge) → Fits history (seeing v history)
fits_whole history v = record { seen = stays history; heard = (history, refl); own = refl }

-- Events that are the token's own, and may follow whatever others did meanwhile, are added.
pub adds_allows : (sizes : Sizes) (slots id word : ℕ) (v : Knowledge) (c : List (ℕ × ℕ)) (events : List Event) → v.sizes
    ≡ sizes → AllByRecursion (λ event. is_own v.role event ≡ true) events → MayJoin v.sizes v.role v.seen events
    → Allows (λ (s : State ℕ Knowledge). IsKept sizes s.views) slots id (v, c) word (λ n. n)
    (λ found new. (new.1 ≡ c) × Extends events v new.0)
adds_allows sizes slots id word v c events same own may s kept count at small =
    let history = kept.history in
    let fits = kept.fit id v at in
    let follow : MayAllFollow sizes history events =
    (subst (λ z. MayJoin z v.role v.seen events) same may) history kept.lawful fits.seen fits.own in
    let lawful : IsHistory sizes (history ++ events) = history_join sizes history events kept.lawful follow in
    let w : Knowledge = seeing v (history ++ events) in (
      w,
      keeps,
      tt,
      record {
        history = history ++ events;
        lawful = lawful;
        fit = fit_set (history ++ events) s.views id w
            (fits_whole (history ++ events) v)
            (λ j u other here. fits_later history events u (kept.fit j u here)
            (all_others v.role u.role events (kept.apart id j v u (λ is. other (sym is)) at here) own));
        apart = apart_set s.views id v w kept.apart at (λ e is. is);
      },
      (
        refl,
        record {
          before = history;
          more = fits.seen;
          own = fits.own;
          new = refl;
          lawful = subst (λ z. IsHistory z (history ++ events)) (sym same) lawful;
        },
      ),
    )

-- A token looks at all that has happened.
pub looks_allows : (sizes : Sizes) (slots id word : ℕ) (v : Knowledge) (c : List (ℕ × ℕ)) → v.sizes ≡ sizes
    → Allows (λ (s : State ℕ Knowledge). IsKept sizes s.views) slots id (v, c) word (λ n. n)
    (λ found new. (new.1 ≡ c) × Learns v new.0)
looks_allows sizes slots id word v c same s kept count at small =
    let history = kept.history in
    let fits = kept.fit id v at in (
      seeing v history,
      keeps,
      tt,
      record {
        history = history;
        lawful = kept.lawful;
        fit =
            fit_set history s.views id (seeing v history) (fits_whole history v) (λ j u other here. kept.fit j u here);
        apart = apart_set s.views id v (seeing v history) kept.apart at (λ e is. is);
      },
      (
        refl,
        record {
          more = fits.seen;
          heard = fits.heard;
          own = fits.own;
          new = refl;
          lawful = subst (λ z. IsHistory z history) (sym same) kept.lawful;
        },
      ),
    )

-- What a token has seen is shown to a reader.
pub shows_splits : (sizes : Sizes) (id : ℕ) (v : Knowledge)
    → Splits (λ (s : State ℕ Knowledge). IsKept sizes s.views) id v v (reader v.sizes v.seen)
shows_splits sizes id v s kept at =
    let fits = kept.fit id v at in
    let shown = reader v.sizes v.seen in
    subst (λ views. IsKept sizes (views ++ shown ∷ [])) (sym (set_again s.views id v at)) (record {
      history = kept.history;
      lawful = kept.lawful;
      fit =
          fit_snoc kept.history s.views shown kept.fit
          (record {
            seen = fits.seen;
            heard = (kept.history, refl);
            own = none_own kept.history ∙ sym (none_own v.seen);
          });
      apart = apart_snoc s.views shown kept.apart (λ j u here. apart_reader u.role);
    })

-- A token hears what another one has seen, which is used up.
pub hears_joins : (sizes : Sizes) (id other : ℕ) (v w : Knowledge)
    → Joins (λ (s : State ℕ Knowledge). IsKept sizes s.views) id v other w (hearing v w) used_up
hears_joins sizes id other v w s kept at apart at' =
    let fits = kept.fit id v at in
    let there : get_elem? s.views other ≡ some w = elim (at_set s.views id other (hearing v w) w at') [
      | inl same ↦ absurd (apart same.0)
      | inr old ↦ old.1
    ] in
    let fits' = kept.fit other w there in
    let views = slice_set s.views id (hearing v w) in
    let fit = fit_set kept.history s.views id (hearing v w)
    (record { seen = fits.seen; heard = fits'.seen; own = fits.own })
    (λ j u else here. kept.fit j u here) in
    let alone = apart_set s.views id v (hearing v w) kept.apart at (λ e is. is) in
    record {
      history = kept.history;
      lawful = kept.lawful;
      fit = fit_set kept.history views other used_up
          (record { seen = (kept.history, refl); heard = (kept.history, refl); own = none_own kept.history })
          (λ j u else here. fit j u here);
      apart = apart_set views other w used_up alone at' (λ e is. absurd (cc is));
    }

-- the token, with this role
abbrev with_role : Knowledge → Role → Knowledge
with_role v role = record { sizes = v.sizes; role = role; seen = v.seen; heard = [] }

-- A token is cut into two, of which each may add what it could, and no event both.
dealt : (sizes : Sizes) (id : ℕ) (v : Knowledge) (left right : Role) → IsWithin left v.role → IsWithin right v.role
    → AreApart left right
    → Splits (λ (s : State ℕ Knowledge). IsKept sizes s.views) id v (with_role v left) (with_role v right)
dealt sizes id v left right left_in right_in apart s kept at =
    let fits = kept.fit id v at in
    let history = kept.history in
    let views = slice_set s.views id (with_role v left) in
    let own = part_within left v.role history v.seen left_in fits.own in
    let own' = part_within right v.role history v.seen right_in fits.own in
    record {
      history = history;
      lawful = kept.lawful;
      fit = fit_snoc history views (with_role v right)
          (fit_set history s.views id (with_role v left)
          (record { seen = fits.seen; heard = (history, refl); own = own }) (λ j u other here. kept.fit j u here))
          (record { seen = fits.seen; heard = (history, refl); own = own' });
      apart = apart_snoc views (with_role v right)
          (apart_set s.views id v (with_role v left) kept.apart at left_in)
          (λ j u here. elim (at_set s.views id j (with_role v left) u here) [
            | inl this ↦ subst (λ x. AreApart x.role right) this.1 apart
            | inr old ↦ apart_within u.role v.role right (kept.apart j id u v old.0 old.1 at) right_in
          ]);
    }

-- The first of the seats is dealt out.
pub seat_splits : (sizes : Sizes) (id : ℕ) (v : Knowledge) → v.role ≡ Rest (seat_of v.role) (shards_from v.role)
    → Splits (λ (s : State ℕ Knowledge). IsKept sizes s.views) id v (later_seats v) (first_seat v)
seat_splits sizes id v is =
    let seats = seat_of v.role in
    let shards = shards_from v.role in
    dealt sizes id v (Rest (seats + 1) shards) (Seat seats)
    (subst (λ r. IsWithin (Rest (seats + 1) shards) r) (sym is) (later_seats_within seats shards))
    (subst (λ r. IsWithin (Seat seats) r) (sym is) (first_seat_within seats shards))
    (apart_seats seats shards)

-- or the first of the shards
pub shard_splits : (sizes : Sizes) (id : ℕ) (v : Knowledge) → v.role ≡ Rest (seat_of v.role) (shards_from v.role)
    → Splits (λ (s : State ℕ Knowledge). IsKept sizes s.views) id v (later_shards v) (first_shard v)
shard_splits sizes id v is =
    let seats = seat_of v.role in
    let shards = shards_from v.role in
    dealt sizes id v (Rest seats (shards + 1)) (Shard shards)
    (subst (λ r. IsWithin (Rest seats (shards + 1)) r) (sym is) (later_shards_within seats shards))
    (subst (λ r. IsWithin (Shard shards) r) (sym is) (first_shard_within seats shards))
    (apart_shards seats shards)
