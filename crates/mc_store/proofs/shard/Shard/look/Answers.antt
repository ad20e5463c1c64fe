-- A turn is dropped, comes again, or is removed with its item.
use Rattle.std.proofs.Common.{◌≡◌, ◌==◌, ◌&&◌, true, false, Some, None, sym, ap, ◌∙◌, subst}
use Rattle.std.specs.Prelude.{not}
use Rattle.std.specs.FinMap.{get}
use Rattle.std.proofs.lemmas.Bool.{and_parts, eqb-true, not-true, not-false}
use Rattle.mc_item.specs.Expiry.{is_dead}
use Rattle.mc_store.specs.State.{Turn, is_dead_at, is_of_turn}
use Rattle.mc_store.specs.Shard.{IsShard, held_of}
use Rattle.mc_store.proofs.Turns.{its_listed, dead_listed, look_none, look_drops, look_takes, look_keeps}
use Rattle.mc_store.proofs.Turns.{fetched_listed}
use Rattle.mc_store.specs.internal.Stored.{item_with}
use Rattle.mc_store.proofs.WithoutValue.{found, none_found}
use Rattle.mc_store.proofs.shard.Shard.look.Goals as goal

pub returns-in_default-clause-looked : goal.returns-in_default-clause-looked
unfolding IsShard
returns-in_default-clause-looked c = λ state h.
    look_none (held_of c.args.self.now) state c.args.entering c.pop_front.new.self.items h c.in_default.ensures.items
    c.in_default.ensures.rest

pub returns-in_default-peek-clause-looked : goal.returns-in_default-peek-clause-looked
unfolding IsShard
returns-in_default-peek-clause-looked c = λ state h.
    let held = held_of c.args.self.now in
    let turn : Turn = (c.in-Some.key, c.in-Some.unique) in
    look_drops held state c.args.entering turn c.pop_front.new.self.items h c.in-Some.ensures.items
    (its_listed held state turn None h (none_found _ c.in_default-peek.ensures))

pub returns-then-is_other-clause-looked : goal.returns-then-is_other-clause-looked
unfolding IsShard
returns-then-is_other-clause-looked c = λ state h.
    let held = held_of c.args.self.now in
    let turn : Turn = (c.in-Some.key, c.in-Some.unique) in
    let old = found _ c.in-Some-peek.item c.in-Some-peek.ensures in
    let item = item_with c.in-Some-peek.item old.value in
    let other : (item.unique == turn.1) ≡ false =
    not-true (item.unique == turn.1) (sym c.is_other.ensures ∙ c.if-is_other.true) in
    look_drops held state c.args.entering turn c.pop_front.new.self.items h c.in-Some.ensures.items
    (its_listed held state turn (Some item) h old.is ∙ other)

pub returns-then-is_reclaimed-clause-looked : goal.returns-then-is_reclaimed-clause-looked
unfolding IsShard
returns-then-is_reclaimed-clause-looked c = λ state h.
    let held = held_of c.args.self.now in
    let turn : Turn = (c.in-Some.key, c.in-Some.unique) in
    let old = found _ c.in-Some-peek.item c.in-Some-peek.ensures in
    let item = item_with c.in-Some-peek.item old.value in
    let same : (item.unique == turn.1) ≡ true =
    not-false (item.unique == turn.1) (sym c.is_other.ensures ∙ c.if-is_other.false) in
    let own : is_of_turn turn (get state.items turn.0) ≡ true =
    its_listed held state turn (Some item) h old.is ∙ same in
    let both = and_parts (is_dead item.expiry held.time) (not (item.unique == c.args.entering))
    (sym c.is_reclaimed.ensures ∙ c.if-is_reclaimed.true) in
    let dead : is_dead_at state.time (get state.items turn.0) ≡ true =
    dead_listed held state turn item h old.is ∙ both.0 in
    let apart : (turn.1 == c.args.entering) ≡ false =
    subst (λ u. (u == c.args.entering) ≡ false) (eqb-true item.unique turn.1 same)
    (not-true (item.unique == c.args.entering) both.1) in
    rw (c.remove.ensures.left, c.count_reclaimed.ensures)
    (look_takes held state c.args.entering turn c.pop_front.new.self.items item.fetched h c.in-Some.ensures.items own
    dead apart
    (fetched_listed held state turn item h old.is))

pub returns-clause-looked : goal.returns-clause-looked
unfolding IsShard
returns-clause-looked c = λ state h.
    let held = held_of c.args.self.now in
    let turn : Turn = (c.in-Some.key, c.in-Some.unique) in
    let old = found _ c.in-Some-peek.item c.in-Some-peek.ensures in
    let item = item_with c.in-Some-peek.item old.value in
    let same : (item.unique == turn.1) ≡ true =
    not-false (item.unique == turn.1) (sym c.is_other.ensures ∙ c.if-is_other.false) in
    let own : is_of_turn turn (get state.items turn.0) ≡ true =
    its_listed held state turn (Some item) h old.is ∙ same in
    let lives : (is_dead item.expiry held.time && not (item.unique == c.args.entering)) ≡ false =
    sym c.is_reclaimed.ensures ∙ c.if-is_reclaimed.false in
    let lives_too : (is_dead item.expiry held.time && not (turn.1 == c.args.entering)) ≡ false =
    subst (λ u. (is_dead item.expiry held.time && not (u == c.args.entering)) ≡ false)
    (eqb-true item.unique turn.1 same) lives in
    let stays : (is_dead_at state.time (get state.items turn.0) && not (turn.1 == c.args.entering)) ≡ false =
    ap (λ d. d && not (turn.1 == c.args.entering)) (dead_listed held state turn item h old.is)
    ∙ lives_too in
    rw c.push_back_reserved.ensures.items
    (look_keeps held state c.args.entering turn c.pop_front.new.self.items h c.in-Some.ensures.items own stays)
