-- A minus and a number, or a number.
use Rattle.std.proofs.Common.{◌^◌}
use Rattle.std.proofs.lemmas.Result.{err_from_is_err_and}
use Rattle.mc_wire.specs.Number.{number_of}
use Rattle.mc_wire.specs.internal.Steps.{negative, positive}
use Rattle.mc_wire.proofs.Numbers.{minus_is, plain_is, read, unread}
use Rattle.mc_wire.proofs.number.number_i64.Goals as goal

pub returns-in_err-number_u64-in-Some : goal.returns-in_err-number_u64-in-Some
returns-in_err-number_u64-in-Some c =
    let p = err_from_is_err_and c.from_residual.result c.from_residual.ensures.1 in
    rw (p.1, p.2) (unread (number_of (2 ^ 64) c.in-Some.digits.now) negative _ _
    (minus_is c.args.word.now _ c.in-Some.ensures.0 c.in-Some.ensures.1) c.in_err-number_u64-in-Some.ensures)

pub returns-in_err-number_u64-in-None : goal.returns-in_err-number_u64-in-None
returns-in_err-number_u64-in-None c =
    let p = err_from_is_err_and c.from_residual-in_err-number_u64-in-None.result
    c.from_residual-in_err-number_u64-in-None.ensures.1 in
    rw (p.1, p.2) (unread (number_of (2 ^ 64) c.args.word.now) positive _ _ (plain_is c.args.word.now c.in-None.ensures)
    c.in_err-number_u64-in-None.ensures)

pub returns-in_ok-number_u64-in-Some : goal.returns-in_ok-number_u64-in-Some
returns-in_ok-number_u64-in-Some c =
    rw c.negative.ensures (read (number_of (2 ^ 64) c.in-Some.digits.now) negative _ _
    (minus_is c.args.word.now _ c.in-Some.ensures.0 c.in-Some.ensures.1) c.in_ok-number_u64-in-Some.ensures)

pub returns-in_ok-number_u64-in-None : goal.returns-in_ok-number_u64-in-None
returns-in_ok-number_u64-in-None c =
    rw c.positive.ensures (read (number_of (2 ^ 64) c.args.word.now) positive _ _
    (plain_is c.args.word.now c.in-None.ensures) c.in_ok-number_u64-in-None.ensures)
