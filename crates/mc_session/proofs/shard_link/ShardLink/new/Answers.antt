-- At the beginning no reply is awaited of any shard.
use Rattle.std.proofs.Common.{◌∙◌, ℕ, zero, suc, ◌≡◌, List, refl, sym, arith, replicate}
use Rattle.mc_ring.proofs.Lists.{all_at}
use Rattle.mc_session.proofs.Credit.{within_idle}
use Rattle.mc_session.specs.Serving.{AreCalled, IsIdle}
use Rattle.mc_session.proofs.shard_link.ShardLink.new.Goals as goal

all_idle : (count : ℕ) → IsIdle (replicate count 0)
all_idle zero = tt
all_idle (suc count) = (refl, all_idle count)

none_awaited : (called ways : List ℕ) → IsIdle ways → AreCalled called ways
none_awaited called ways idle shard count found some =
    absurd (omega (arith, all_at (λ n. n ≡ 0) ways shard count idle found, some))

pub returns-clause-ends : goal.returns-clause-ends
returns-clause-ends g c = refl

pub returns-clause-clerk : goal.returns-clause-clerk
returns-clause-clerk g c = refl

pub returns-clause-idle : goal.returns-clause-idle
returns-clause-idle g c =
    rw (c.in_ok-under_way.ensures.items_if_clones_equal (λ y same. same)) (all_idle c.shards.result)

pub invariant_of-result : goal.invariant_of-result
invariant_of-result g c = record {
  each_shard = sym c.in_ok-under_way.under_way.ok.0 ∙ (c.in_ok-under_way.ensures.len ∙ c.shards.ensures);
  all_called =
      λ off. none_awaited _ c.in_ok-under_way.under_way.items
      (rw (c.in_ok-under_way.ensures.items_if_clones_equal (λ y same. same)) (all_idle c.shards.result));
  in_credit =
      within_idle c.args.places c.in_ok-under_way.under_way.items
      (rw (c.in_ok-under_way.ensures.items_if_clones_equal (λ y same. same)) (all_idle c.shards.result));
  routed = c.requires.routes;
}
