use Rattle.std.proofs.Common.{◌≡◌, ◌∙◌, sym, true, false, max, min}
use Rattle.mc_wire.specs.declared.TheConstants.{LATEST_MOMENT}
use Rattle.mc_store.specs.State.{is_due}
use Rattle.mc_store.specs.Shard.{IsShard, held_of}
use Rattle.mc_store.proofs.Changes.{timed, arrived_due, arrived_early}
use Rattle.mc_store.proofs.shard.Shard.arrive.Goals as goal

pub returns-then-is_flush_due : goal.returns-then-is_flush_due
unfolding IsShard
returns-then-is_flush_due c = λ state h.
    let is : c.max-self.result ≡ max c.args.self.now.time (min c.args.moment LATEST_MOMENT) =
    rw (c.max-self.ensures, c.min.ensures) in
    let due : is_due c.args.self.now.flush c.max-self.result ≡ true =
    sym c.is_flush_due.ensures ∙ c.if-is_flush_due.true in
    rw (arrived_due (held_of c.args.self.now) state c.args.moment c.max-self.result h is due)
    (c.remove_all.ensures _ (timed (held_of c.args.self.now) state c.args.moment c.max-self.result h is))

pub returns-else-is_flush_due : goal.returns-else-is_flush_due
unfolding IsShard
returns-else-is_flush_due c = λ state h.
    let is : c.max-self.result ≡ max c.args.self.now.time (min c.args.moment LATEST_MOMENT) =
    rw (c.max-self.ensures, c.min.ensures) in
    let early : is_due c.args.self.now.flush c.max-self.result ≡ false =
    sym c.is_flush_due.ensures ∙ c.if-is_flush_due.false in
    rw (arrived_early (held_of c.args.self.now) state c.args.moment c.max-self.result h is early)
    (timed (held_of c.args.self.now) state c.args.moment c.max-self.result h is)
