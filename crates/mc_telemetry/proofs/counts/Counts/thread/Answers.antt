-- The thread of this number is the one that the list has there, and a clone counts what it counts.
use Rattle.std.proofs.Common.{◌≡◌, ℕ, true, false, List, length, get_or, Some, None, nat_lt, refl, sym, ap}
use Rattle.std.specs.Arc.{arc_value}
use Rattle.std.specs.List.{slice_get}
use Rattle.std.specs.Option.{option_map}
use Rattle.std.specs.declared.sync.Arc.{Arc}
use Rattle.std.proofs.lemmas.Bool.{ltb-true, ltb-false}
use Rattle.std.proofs.lemmas.Option.{slice_get_read, slice_get_past}
use Rattle.std.proofs.lemmas.Result.{IfOk-from_err}
use Rattle.crossbeam_utils.specs.Padded.{padded_value}
use Rattle.crossbeam_utils.specs.declared.cache_padded.CachePadded.{CachePadded}
use Rattle.mc_telemetry.specs.Counts.{shared_value}
use Rattle.mc_telemetry.proofs.counts.Counts.thread.Goals as goal

-- What is shared of the one at this place is what the list has there.
found : {X Z : Type 0} (all items : List (Arc (CachePadded X) Z)) (number : ℕ) (one shared : Arc (CachePadded X) Z)
    → items ≡ all → true ≡ nat_lt number (length items)
    → one ≡ get_or items number one → arc_value shared ≡ arc_value one → Some (shared_value shared)
    ≡ option_map shared_value (slice_get all number)
found all items number one shared are within is same =
    rw (← are, slice_get_read items (length items) number one refl (ltb-true number (length items) (sym within)) is)
    (ap (λ value. Some (padded_value value)) same)

-- A list has nothing past its end.
past_end : {X Z : Type 0} (all items : List (Arc (CachePadded X) Z)) (number : ℕ) → items ≡ all → false
    ≡ nat_lt number (length items)
    → None ≡ option_map shared_value (slice_get all number)
past_end all items number are past =
    rw (← are, slice_get_past items number (ltb-false number (length items) (sym past)))

pub returns-in_err-try_clone-in-Some : goal.returns-in_err-try_clone-in-Some
returns-in_err-try_clone-in-Some g c = IfOk-from_err c.from_residual.result _ c.from_residual.ensures.0

pub returns-in_ok-try_clone-in-Some : goal.returns-in_ok-try_clone-in-Some
returns-in_ok-try_clone-in-Some g c =
    let there = c.in-Some.ensures.lookup in
    found c.args.self.now.threads.items c.deref.result.now c.args.number c.in-Some.thread.now
    c.in_ok-try_clone-in-Some.field-0 c.deref.ensures.value there.0 there.1 c.in_ok-try_clone-in-Some.ensures

pub returns-in-None : goal.returns-in-None
returns-in-None g c =
    past_end c.args.self.now.threads.items c.deref.result.now c.args.number c.deref.ensures.value
    c.in-None.ensures.lookup.0
