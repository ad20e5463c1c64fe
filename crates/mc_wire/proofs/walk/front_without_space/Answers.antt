-- Another run without a space.
use Rattle.std.proofs.Common.{arith, sym, ◌∙◌}
use Rattle.mc_wire.proofs.Scanning.{none_further}
use Rattle.mc_wire.proofs.walk.front_without_space.Goals as goal

pub loop-passed-preserved : goal.loop-passed-preserved
loop-passed-preserved c = record {
  within = omega arith;
  none =
      none_further c.args.text.now c.loop-passed.passed c.loop-passed.invariant.none
      (sym c.has_space.ensures ∙ c.if-not-has_space.true);
}
