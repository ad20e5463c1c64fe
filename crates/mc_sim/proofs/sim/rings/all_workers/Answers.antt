-- The workers made so far have the first ends, and the ends that are left first are new.
use Rattle.std.proofs.Common.{◌≡◌, ◌<◌, ◌∙◌, ℕ, List, ◌∷◌, ◌++◌, Some, length, map, sym, ap, arith, append_assoc}
use Rattle.std.proofs.Common.{append-nil, length-append}
use Rattle.std.specs.List.{AllByRecursion, slice_get}
use Rattle.std.proofs.lemmas.List.{map-append, nil_from_length}
use Rattle.mc_sizes.specs.declared.sizes.Sizes.{Sizes}
use Rattle.mc_ring.specs.Channel.{Far}
use Rattle.mc_ring.specs.Ends.{Ends}
use Rattle.mc_ring.specs.Made.{AreNewEnds, IsUnused}
use Rattle.mc_ring.proofs.Lists.{all_push}
use Rattle.mc_sim.specs.Rings.{IsStarted, ends_of}
use Rattle.mc_sim.proofs.RingsMaking.{at_end}
use Rattle.mc_sim.proofs.sim.rings.all_workers.Goals as goal

-- the first of the ends that are left are those of a shard that is there, and nothing has passed on them
next_new : (sizes : Sizes) (done : List (Ends Far)) (ends : Ends Far) (left all : List (Ends Far)) → done ++ ends ∷ left
    ≡ all → length all ≡ sizes.shards
    → ((number : ℕ) (those : Ends Far) → slice_get all number ≡ Some those
    → AreNewEnds number sizes.seats sizes.ring those)
    → (ends.number < sizes.shards) × AllByRecursion IsUnused ends.channels
next_new sizes done ends left all order counted each =
    let new = each (length done) ends (rw (← order) (at_end done ends left)) in
    (omega (arith, new.number_is, counted, ap length order, length-append done (ends ∷ left)), new.unused)

pub loop-ends-init : goal.loop-ends-init
loop-ends-init g c = record {
  ends = rw c.in_ok-workers.ensures.items c.into_iter-ends-iterator.ensures.into_iter_gives.0;
  started = rw c.in_ok-workers.ensures.items tt;
}

pub worker-requires-clause-within : goal.worker-requires-clause-within
worker-requires-clause-within g c = c.requires.within

pub worker-requires-clause-place : goal.worker-requires-clause-place
worker-requires-clause-place g c =
    (next_new c.args.sizes _ c.in-Some.ends _ c.args.shards.items
    (rw c.in-Some.ensures.steps.0 at c.loop-ends.invariant.ends) c.requires.counted c.requires.new).0

pub worker-requires-clause-unused : goal.worker-requires-clause-unused
worker-requires-clause-unused g c =
    (next_new c.args.sizes _ c.in-Some.ends _ c.args.shards.items
    (rw c.in-Some.ensures.steps.0 at c.loop-ends.invariant.ends) c.requires.counted c.requires.new).1

pub loop-ends-preserved : goal.loop-ends-preserved
loop-ends-preserved g c =
    let made = c.in_ok-worker.ensures in
    let grown = c.in_ok-push.ensures.items in
    let was = c.loop-ends.invariant in
    record {
      ends = rw grown (simp (map-append, append_assoc) (rw made.ends (rw c.in-Some.ensures.steps.0 at was.ends)));
      started =
          rw grown (all_push (IsStarted c.args.sizes) c.loop-ends.workers.items c.in_ok-worker.field-0 was.started
          made.started);
    }

pub returns-clause-ends : goal.returns-clause-ends
returns-clause-ends g c =
    let left = c.loop-ends.ends-iterator.rest in
    let done = map ends_of c.loop-ends.workers.items in
    let none = nil_from_length left.items (sym left.ok.0 ∙ c.in-None.ensures.steps.0) in
    sym (append-nil done) ∙ (ap (λ ys. done ++ ys) (sym none) ∙ c.loop-ends.invariant.ends)

pub returns-clause-started : goal.returns-clause-started
returns-clause-started g c = c.loop-ends.invariant.started
