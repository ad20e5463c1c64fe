use Rattle.std.proofs.Common.{◌<◌, ◌∙◌, ap, sym, arith}
use Rattle.std.specs.Option.{is_some}
use Rattle.mc_sim.specs.Laid.{Laid, LooksAt}
use Rattle.mc_sim.proofs.RingsCalls.{out_of, tells_held, tells_out, tells_zero}
use Rattle.mc_sim.proofs.sim.rings.Rings.waits.Goals as goal

pub returns-then-not-has : goal.returns-then-not-has
returns-then-not-has c = tells_out _ c.args.seat c.args.shard (out_of c.if-not-has.ensures)

pub returns-then-waiting-eq0 : goal.returns-then-waiting-eq0
returns-then-waiting-eq0 c = tells_zero _ _ c.args.seat c.args.shard _ _ c.look-waiting.ensures c.if-waiting-eq0.true

pub returns : goal.returns
returns c =
    let mid : Laid = record {
      seats = c.self.inside.seats.items;
      workers = c.self.inside.workers.items;
      places = c.self.inside.places;
    } in
    let look : LooksAt c.args.seat c.args.shard c.args.self.now mid c.look-waiting.result.0 c.look-waiting.result.1 =
    rw c.self.view_is c.look-waiting.ensures in
    let some : 0 < c.look-waiting.result.0 = let f = c.if-waiting-eq0.false in omega arith in
    rw (← c.self.view_is) (tells_held _ mid c.args.seat c.args.shard _ _ c.index.result.now c.is_none.result look some
    c.index.ensures (ap is_some (sym c.holder.ensures.held) ∙ c.is_none.ensures))
