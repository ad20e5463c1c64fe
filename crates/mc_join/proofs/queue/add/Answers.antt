use Rattle.std.proofs.Common.{arith}
use Rattle.std.proofs.lemmas.Bool.{false≢true}
use Rattle.mc_join.proofs.queue.add.Goals as goal

pub returns-in-Err-clause-full : goal.returns-in-Err-clause-full
returns-in-Err-clause-full c =
    λ _. absurd (false≢true (c.in-Err.ensures.variant.1
    (omega (arith, c.len.ensures.len, c.capacity.ensures.capacity, c.if-len-capacity.false))))
