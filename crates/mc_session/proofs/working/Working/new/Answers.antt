-- At the beginning no seat is marked.
use Rattle.std.proofs.Common.{◌≢◌, ℕ, zero, suc, ◌≡◌, true, false, Some, None, replicate}
use Rattle.std.specs.List.{slice_get}
use Rattle.std.proofs.lemmas.Option.{same_Some}
use Rattle.mc_session.proofs.working.Working.new.Goals as goal

none_marked : (count seat : ℕ) → slice_get (replicate count false) seat ≢ Some true
none_marked zero zero marked = absurd (let none : None ≡ Some true = marked in cc)
none_marked zero (suc seat) marked = absurd (let none : None ≡ Some true = marked in cc)
none_marked (suc count) zero marked = absurd (let bad : false ≡ true = same_Some false true marked in cc)
none_marked (suc count) (suc seat) marked = none_marked count seat marked

pub invariant_of-result-clause-none_left : goal.invariant_of-result-clause-none_left
invariant_of-result-clause-none_left g c =
    rw (c.in_ok-given.ensures.items_if_clones_equal (λ y same. same)) (none_marked c.seats-count.result)
