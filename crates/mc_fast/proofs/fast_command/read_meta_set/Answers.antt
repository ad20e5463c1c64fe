use Rattle.std.proofs.Common.{arith}
use Rattle.mc_fast.proofs.Lines.{meta_set_line}
use Rattle.mc_fast.proofs.fast_command.read_meta_set.Goals as goal

pub returns : goal.returns
returns c =
    let arm = c.in-Some-Some in
    let count = c.in-Some.ensures in (
      omega (arith, count.1, c.requires),
      count.1,
      meta_set_line c.args.rules _ _ _ arm.word arm.count c.in-Some.count c.text-flags.result.now arm.ensures.steps
          arm.ensures'.steps c.text-flags.ensures count.0,
    )
