use Rattle.std.specs.Prelude.{length}
use borrow.Author.Tests.{le-leb, lt-leb, lt-ltb, le-ltb}
use Rattle.mc_store.specs.internal.Polynomial.{last}
use Rattle.mc_store.proofs.hashing.last_coefficient.Goals.{then-len-ge4, else-len-ge4+then-len-gt0}
use Rattle.mc_store.proofs.hashing.last_coefficient.Goals.{else-len-ge4+else-len-gt0}
use Rattle.mc_store.proofs.hashing.last_coefficient.Goals as goal

pub returns-clause-value : goal.returns-clause-value
unfolding last
returns-clause-value c =
    let n = length c.args.rest.now in
    elim c.if-len-ge4.branch [
      | then-len-ge4 w ↦ rw (
        w.bytes-is,
        w.read_u32.ensures,
        w.read_u32-then-len-ge4.ensures,
        le-leb 4 n w.if-len-ge4.true,
      )
      | else-len-ge4+then-len-gt0 w ↦ rw (w.bytes-is, lt-leb 4 n w.if-len-ge4.false, lt-ltb 0 n w.if-len-gt0.true)
      | else-len-ge4+else-len-gt0 w ↦ rw (w.bytes-is, lt-leb 4 n w.if-len-ge4.false, le-ltb 0 n w.if-len-gt0.false)
    ]
