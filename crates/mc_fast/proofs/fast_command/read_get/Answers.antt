use Rattle.std.proofs.Common.{sym, ◌∙◌}
use Rattle.mc_fast.proofs.Lines.{get_line, get_one_line, is_zero, no_fault, no_words}
use Rattle.mc_fast.proofs.fast_command.read_get.Goals as goal

pub returns-then-is_empty : goal.returns-then-is_empty
returns-then-is_empty c =
    let good = no_fault c.in-Some.first.now c.key_fault.result c.is_some.result
    c.key_fault.ensures c.is_some.ensures c.if-is_some.false in
    let none = sym c.text-others.ensures ∙ no_words c.text-others.result.now (is_zero _ (sym c.if-is_empty.ensures)) in
    (good, get_one_line c.args.rules _ _ c.in-Some.first c.args.with_unique c.in-Some.ensures.steps good none)

pub returns : goal.returns
returns c =
    let good = no_fault c.in-Some.first.now c.key_fault.result c.is_some.result
    c.key_fault.ensures c.is_some.ensures c.if-is_some.false in
    let line = get_line c.args.rules _ _ c.in-Some.first c.args.with_unique c.in-Some.ensures.steps good
    (sym c.are_keys.ensures ∙ c.if-not-are_keys.false) in
    rw c.text-others.ensures (good, line.0, line.1)
