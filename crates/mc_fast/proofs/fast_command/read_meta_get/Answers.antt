use Rattle.mc_fast.proofs.Lines.{is_good, meta_get_line, meta_get_value_line}
use Rattle.mc_fast.proofs.fast_command.read_meta_get.Goals as goal

pub returns-then-is_none : goal.returns-then-is_none
returns-then-is_none c =
    let word = c.in-Some.word in
    let good = is_good word.now c.key_fault.result c.is_none.result
    c.key_fault.ensures c.is_none.ensures c.if-is_none.true in (
      good,
      meta_get_value_line c.args.rules _ _ word c.text-flags.result.now c.in-Some.ensures.steps
          c.text-flags.ensures (c.is_value_flag.ensures c.if-is_value_flag.true) good,
    )

pub returns : goal.returns
returns c =
    meta_get_line c.args.rules _ _ c.in-Some.word c.text-flags.result.now c.in-Some.ensures.steps c.text-flags.ensures
