-- The lowest set bit is at the index that `trailing_zeros` returns.
use Rattle.std.proofs.Common.{refl, rules}
use Rattle.mc_poll.proofs.Lowest.{is_lowest}
use Rattle.mc_poll.proofs.set_bits.SetBitsIterator.next.Goals as goal

pub returns-clause-steps : goal.returns-clause-steps
returns-clause-steps c =
    is_lowest c.args.self.now _ _ c.if-self-eq0.false (search rules) c.saturating_add-number.ensures refl
    c.saturating_add-self.ensures
