use Rattle.std.proofs.Common.{◌≡◌, arith, length}
use Rattle.mc_store.specs.internal.Listed.{entry_cost}
use Rattle.mc_store.specs.internal.Stored.{item_with}
use Rattle.mc_store.proofs.Listed.{not_found, costs_some, counted_removed}
use Rattle.mc_store.proofs.WithoutValue.{found_length, none_length}
use Rattle.mc_store.proofs.items.Items.remove.Goals as goal

pub invariant_of-self : goal.invariant_of-self
invariant_of-self c =
    let none = (not_found c.self.inside.cache.entries c.args.key.now (none_length _ c.in_err-fields.ensures.item)).1 in
    rw (c.pop.ensures.left, none) c.self.invariant

pub cost_of-requires : goal.cost_of-requires
cost_of-requires c =
    let old = found_length _ c.in_ok-fields.fields c.in_ok-fields.length c.in_ok-fields.ensures.item in
    let item = item_with c.in_ok-fields.fields old.value in
    let some = costs_some c.self.inside.cache.entries c.args.key.now item old.is in
    let key : length c.bytes.result.now ≡ length c.args.key.now = rw c.bytes.ensures.value in
    omega (arith, old.length_is, c.self.invariant.counted, c.self.invariant.fits, c.self.invariant.most)

pub overflow_sub-self : goal.overflow_sub-self
overflow_sub-self c =
    let old = found_length _ c.in_ok-fields.fields c.in_ok-fields.length c.in_ok-fields.ensures.item in
    let item = item_with c.in_ok-fields.fields old.value in
    let cost : c.cost_of.result ≡ entry_cost (c.args.key.now, item) =
    rw (c.cost_of.ensures, c.bytes.ensures.value, old.length_is) in
    rw (cost, c.self.invariant.counted) (costs_some c.self.inside.cache.entries c.args.key.now item old.is)

pub invariant_of-self-2 : goal.invariant_of-self-2
invariant_of-self-2 c =
    let old = found_length _ c.in_ok-fields.fields c.in_ok-fields.length c.in_ok-fields.ensures.item in
    let item = item_with c.in_ok-fields.fields old.value in
    let cost : c.cost_of.result ≡ entry_cost (c.args.key.now, item) =
    rw (c.cost_of.ensures, c.bytes.ensures.value, old.length_is) in
    rw (c.pop.ensures.left, cost)
    (counted_removed c.self.inside.cache.entries c.self.inside.cache.cap c.self.inside.cost
    c.self.inside.cache.budget c.args.key.now item c.self.invariant old.is)
