-- Nothing costs nothing.
use Rattle.std.proofs.Common.{◌≡◌, ℕ, ◌+◌, ◌/◌, ◌≤◌, [], arith, refl, ap}
use Rattle.std.proofs.lemmas.List.Elements.{All-nil}
use Rattle.mc_sizes.specs.declared.TheConstants.{MAX_BUDGET, MIN_BUDGET}
use Rattle.mc_store.specs.State.{item_overhead}
use Rattle.mc_store.specs.internal.Cached.{CachedItems}
use Rattle.mc_store.specs.internal.Listed.{IsCounted}
use Rattle.mc_store.proofs.items.Items.new.Goals as goal

-- What no items cost is counted.
nothing_counted : (cache : CachedItems) (budget : ℕ)
    → cache ≡ record { entries = []; cap = budget / (item_overhead + 1) + 1; budget = budget }
    → MIN_BUDGET ≤ budget → budget ≤ MAX_BUDGET → IsCounted cache.entries cache.cap 0 cache.budget
nothing_counted cache budget none least most =
    rw none (record { counted = refl; fits = omega arith; keys = All-nil _; room = refl; least = least; most = most })

pub invariant_of-result : goal.invariant_of-result
invariant_of-result c =
    nothing_counted c.in_ok-cache.cache c.args.budget c.in_ok-cache.ensures c.requires.least c.requires.most

pub returns : goal.returns
returns c =
    ap (λ (cache : CachedItems). record { entries = cache.entries; budget = cache.budget; evicted = 0 })
    c.in_ok-cache.ensures
