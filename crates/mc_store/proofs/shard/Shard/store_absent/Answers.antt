use Rattle.std.proofs.Common.{Some, inr}
use Rattle.mc_store.specs.State.{without_dead}
use Rattle.mc_store.specs.Step.{stores, absent_store}
use Rattle.mc_store.specs.Shard.{IsShard, held_of}
use Rattle.mc_store.specs.internal.Parts.{answered}
use Rattle.mc_store.proofs.Writes.{along}
use Rattle.mc_store.proofs.Stores.{absent_compared, absent_stored, absent_refused}
use Rattle.mc_store.proofs.shard.Shard.store_absent.Goals as goal

pub returns-then-is_some-clause-does : goal.returns-then-is_some-clause-does
unfolding IsShard
returns-then-is_some-clause-does c = λ reply state h.
    let settled = without_dead state (Some c.args.asked.key) in (
      settled,
      inr (absent_compared settled c.args.asked reply c.args.asked.mode c.args.asked.compare c.if-is_some.ensures),
      c.remove_dead.ensures state h,
    )

pub returns-in-Set-clause-does : goal.returns-in-Set-clause-does
unfolding IsShard
returns-in-Set-clause-does c = λ reply state h.
    let asked = c.args.asked in
    let settled = without_dead state (Some c.args.asked.key) in
    along settled (stores settled asked reply) (absent_store settled asked reply c.args.asked.mode c.args.asked.compare)
    (answered reply c.store_asked.result) (held_of c.store_asked.new.self)
    (absent_stored settled asked reply c.args.asked.mode c.args.asked.compare c.if-is_some.ensures c.in-Set.is)
    (c.store_asked.ensures.does reply state h)

pub returns-in_default-clause-does : goal.returns-in_default-clause-does
unfolding IsShard
returns-in_default-clause-does c = λ reply state h.
    let settled = without_dead state (Some c.args.asked.key) in (
      settled,
      inr (absent_refused settled c.args.asked reply c.args.asked.mode c.args.asked.compare
          c.if-is_some.ensures c.in_default.not-Set c.in_default.not-Add),
      c.remove_dead-in_default.ensures state h,
    )
