use Rattle.std.proofs.Common.{◌≡◌, ◌-◌, arith, length, take, ap}
use Rattle.mc_store.specs.internal.Cached.{CachedItems}
use Rattle.mc_store.specs.internal.Listed.{entry_cost}
use Rattle.mc_store.proofs.Listed.{evicting_one, evicting_all, evicting_some}
use Rattle.mc_store.proofs.WithoutValue.{found_entry, none_entry}
use Rattle.mc_store.proofs.items.evict.Goals as goal

pub cost_of-left-requires : goal.cost_of-left-requires
cost_of-left-requires c =
    let last = found_entry _ c.in-Some.key c.in-Some.length c.in-Some.ensures.item in
    let one = evicting_one c.args.cache.now.entries c.loop-left.cache.entries c.budget-budget.result c.loop-left.left
    last.entry c.loop-left.invariant.0 c.loop-left-test.true last.is in
    let key : length c.bytes.result.now ≡ length c.in-Some.key = rw c.bytes.ensures.value in
    omega (arith, last.cost, one.0, c.loop-left.auto.left-fits)

pub overflow_sub-left : goal.overflow_sub-left
overflow_sub-left c =
    let last = found_entry _ c.in-Some.key c.in-Some.length c.in-Some.ensures.item in
    let one = evicting_one c.args.cache.now.entries c.loop-left.cache.entries c.budget-budget.result c.loop-left.left
    last.entry c.loop-left.invariant.0 c.loop-left-test.true last.is in
    let cost : c.cost_of-left.result ≡ entry_cost last.entry =
    rw (c.cost_of-left.ensures, c.bytes.ensures.value, last.cost) in
    rw cost one.0

pub loop-left-preserved : goal.loop-left-preserved
loop-left-preserved c =
    let last = found_entry _ c.in-Some.key c.in-Some.length c.in-Some.ensures.item in
    let one = evicting_one c.args.cache.now.entries c.loop-left.cache.entries c.budget-budget.result c.loop-left.left
    last.entry c.loop-left.invariant.0 c.loop-left-test.true last.is in
    let cost : c.cost_of-left.result ≡ entry_cost last.entry =
    rw (c.cost_of-left.ensures, c.bytes.ensures.value, last.cost) in
    let es = c.loop-left.cache.entries in
    let kept =
    ap (λ (items : CachedItems). record items { entries = take (length es - 1) es }) c.loop-left.invariant.1 in
    rw (cost, c.in-Some.ensures.left) (one.1, kept, c.budget-budget.ensures)

pub returns-after-loop-left-clause-left : goal.returns-after-loop-left-clause-left
returns-after-loop-left-clause-left c =
    let all = evicting_all c.args.cache.now.entries c.loop-left.cache.entries c.budget-budget.result c.loop-left.left
    c.loop-left.invariant.0 c.loop-left-test.false in
    rw (← c.budget-budget.ensures, ← all.0, c.budget-budget.ensures) c.loop-left.invariant.1

pub returns-after-loop-left-clause-counted : goal.returns-after-loop-left-clause-counted
returns-after-loop-left-clause-counted c =
    let all = evicting_all c.args.cache.now.entries c.loop-left.cache.entries c.budget-budget.result c.loop-left.left
    c.loop-left.invariant.0 c.loop-left-test.false in
    rw (← c.budget-budget.ensures) all.1

pub returns-in_default-clause-left : goal.returns-in_default-clause-left
returns-in_default-clause-left c =
    absurd (evicting_some c.args.cache.now.entries c.loop-left.cache.entries c.budget-budget.result c.loop-left.left
    c.loop-left.invariant.0 c.loop-left-test.true (none_entry _ c.in_default.ensures.item))

pub returns-in_default-clause-counted : goal.returns-in_default-clause-counted
returns-in_default-clause-counted c =
    absurd (evicting_some c.args.cache.now.entries c.loop-left.cache.entries c.budget-budget.result c.loop-left.left
    c.loop-left.invariant.0 c.loop-left-test.true (none_entry _ c.in_default.ensures.item))
