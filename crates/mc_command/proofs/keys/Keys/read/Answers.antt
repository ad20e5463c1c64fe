use Rattle.std.proofs.Common.{true, false, sym, ◌∙◌}
use Rattle.std.proofs.lemmas.Result.{err_from_is_err_and}
use Rattle.mc_wire.specs.Words.{words_left}
use Rattle.mc_command.proofs.KeyLists.{each_key, no_first, of_others}
use Rattle.mc_command.proofs.keys.Keys.read.Goals as goal

pub returns-in_err-first : goal.returns-in_err-first
returns-in_err-first c =
    let p = err_from_is_err_and c.from_residual.result c.from_residual.ensures.1 in
    rw (p.1, p.2) (no_first c.args.first.now (words_left c.args.others) c.in_err-first.field-0.0 c.in_err-first.ensures)

pub returns-then-not-are_keys : goal.returns-then-not-are_keys
returns-then-not-are_keys c other =
    of_others c.args.first.now c.in_ok-first.first (words_left c.args.others) false
    c.in_ok-first.ensures (sym c.are_keys.ensures ∙ c.if-not-are_keys.true)

pub returns : goal.returns
returns c =
    let all = of_others c.args.first.now c.in_ok-first.first (words_left c.args.others) true
    c.in_ok-first.ensures (sym c.are_keys.ensures ∙ c.if-not-are_keys.false) in
    rw (c.in_ok-others.ensures.items, c.text-text.ensures) all

pub invariant_of-result : goal.invariant_of-result
invariant_of-result c =
    rw (c.in_ok-others.ensures.items, c.text-text.ensures)
    (each_key (words_left c.args.others) (sym c.are_keys.ensures ∙ c.if-not-are_keys.false))
