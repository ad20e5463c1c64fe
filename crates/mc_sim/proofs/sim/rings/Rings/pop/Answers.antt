use Rattle.std.proofs.Common.{◌<◌, ◌∙◌, ap, sym, arith}
use Rattle.std.specs.Option.{is_some}
use Rattle.mc_sim.specs.Laid.{Laid, LooksAt}
use Rattle.mc_sim.proofs.RingsChange.{laid_worker}
use Rattle.mc_sim.proofs.RingsCalls.{worker_state_channels, worker_state_read, free_hand, out_of, runs_for_sure}
use Rattle.mc_sim.proofs.RingsCalls.{runs_held, runs_oldest, runs_out, runs_zero}
use Rattle.mc_sim.proofs.sim.rings.Rings.pop.Goals as goal

pub returns-then-not-has-clause-none : goal.returns-then-not-has-clause-none
returns-then-not-has-clause-none c = runs_out _ c.args.seat c.args.shard (out_of c.if-not-has.ensures)

pub returns-then-waiting-eq0-clause-none : goal.returns-then-waiting-eq0-clause-none
returns-then-waiting-eq0-clause-none c =
    runs_zero _ _ c.args.seat c.args.shard _ _ c.look-waiting.ensures c.if-waiting-eq0.true

pub returns-then-is_some-clause-none : goal.returns-then-is_some-clause-none
returns-then-is_some-clause-none c =
    let mid : Laid = record {
      seats = c.self.inside.seats.items;
      workers = c.self.inside.workers.items;
      places = c.self.inside.places;
    } in
    let look : LooksAt c.args.seat c.args.shard c.args.self.now mid c.look-waiting.result.0 c.look-waiting.result.1 =
    rw c.self.view_is c.look-waiting.ensures in
    rw (← c.self.view_is) (runs_held _ mid c.args.seat c.args.shard _ _ c.index.result.now look
    c.index.ensures (ap is_some (sym c.holder.ensures.held) ∙ sym c.is_some.ensures ∙ c.if-is_some.true))

pub turn-requires : goal.turn-requires
turn-requires c =
    let mid : Laid = record {
      seats = c.self.inside.seats.items;
      workers = c.self.inside.workers.items;
      places = c.self.inside.places;
    } in
    let look : LooksAt c.args.seat c.args.shard c.args.self.now mid c.look-waiting.result.0 c.look-waiting.result.1 =
    rw c.self.view_is c.look-waiting.ensures in
    worker_state_channels _ mid c.args.seat c.args.shard _ _ c.index_mut.result.now c.self.invariant look
    (worker_state_read _ mid c.args.seat c.args.shard _ _ c.index_mut.result.now look c.index_mut.ensures.value)

pub invariant_of-self : goal.invariant_of-self
invariant_of-self c =
    let mid : Laid = record {
      seats = c.self.inside.seats.items;
      workers = c.self.inside.workers.items;
      places = c.self.inside.places;
    } in
    let look : LooksAt c.args.seat c.args.shard c.args.self.now mid c.look-waiting.result.0 c.look-waiting.result.1 =
    rw c.self.view_is c.look-waiting.ensures in
    laid_worker mid c.args.shard c.index_mut.result.now c.turn.new.self c.self.invariant
    (worker_state_read _ mid c.args.seat c.args.shard _ _ c.index_mut.result.now look c.index_mut.ensures.value)
    c.turn.ensures.keeps

pub returns-in-Ran-clause-ran : goal.returns-in-Ran-clause-ran
returns-in-Ran-clause-ran c =
    let mid : Laid = record {
      seats = c.self.inside.seats.items;
      workers = c.self.inside.workers.items;
      places = c.self.inside.places;
    } in
    let look : LooksAt c.args.seat c.args.shard c.args.self.now mid c.look-waiting.result.0 c.look-waiting.result.1 =
    rw c.self.view_is c.look-waiting.ensures in
    let some : 0 < c.look-waiting.result.0 = let f = c.if-waiting-eq0.false in omega arith in
    let there = worker_state_read _ mid c.args.seat c.args.shard _ _ c.index_mut.result.now look
    c.index_mut.ensures.value in
    let before = worker_state_read _ mid c.args.seat c.args.shard _ _ c.index.result.now look c.index.ensures in
    let free = free_hand mid c.args.shard c.index.result.now c.index_mut.result.now before there
    (ap is_some (sym c.holder.ensures.held) ∙ sym c.is_some.ensures ∙ c.if-is_some.false) in
    runs_oldest _ mid c.args.seat c.args.shard _ _ c.index_mut.result.now c.turn.new.self
    (record { ticket = c.in-Ran.ticket; part = c.in-Ran.part; moment = c.in-Ran.moment }) look some
    c.index_mut.ensures.value free c.in-Ran.ensures.turned

pub invariant_of-self-2 : goal.invariant_of-self-2
invariant_of-self-2 c =
    let mid : Laid = record {
      seats = c.self.inside.seats.items;
      workers = c.self.inside.workers.items;
      places = c.self.inside.places;
    } in
    let look : LooksAt c.args.seat c.args.shard c.args.self.now mid c.look-waiting.result.0 c.look-waiting.result.1 =
    rw c.self.view_is c.look-waiting.ensures in
    laid_worker mid c.args.shard c.index_mut.result.now c.turn.new.self c.self.invariant
    (worker_state_read _ mid c.args.seat c.args.shard _ _ c.index_mut.result.now look c.index_mut.ensures.value)
    c.turn.ensures.keeps

pub returns : goal.returns
returns c =
    let mid : Laid = record {
      seats = c.self.inside.seats.items;
      workers = c.self.inside.workers.items;
      places = c.self.inside.places;
    } in
    let look : LooksAt c.args.seat c.args.shard c.args.self.now mid c.look-waiting.result.0 c.look-waiting.result.1 =
    rw c.self.view_is c.look-waiting.ensures in
    let some : 0 < c.look-waiting.result.0 = let f = c.if-waiting-eq0.false in omega arith in
    let there = worker_state_read _ mid c.args.seat c.args.shard _ _ c.index_mut.result.now look
    c.index_mut.ensures.value in
    let before = worker_state_read _ mid c.args.seat c.args.shard _ _ c.index.result.now look c.index.ensures in
    let free = free_hand mid c.args.shard c.index.result.now c.index_mut.result.now before there
    (ap is_some (sym c.holder.ensures.held) ∙ sym c.is_some.ensures ∙ c.if-is_some.false) in
    record {
      ran = tt;
      none =
          λ sizes wires was. runs_for_sure _ _ mid c.args.seat c.args.shard _ _ c.index_mut.result.now c.turn.new.self
          c.turn.result look some c.index_mut.ensures.value free c.turn.ensures.turned c.in_default.not-Ran sizes wires
          was;
    }
