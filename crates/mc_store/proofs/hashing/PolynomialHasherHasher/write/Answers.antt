use Rattle.std.proofs.Common.{◌≡◌, ℕ, suc, ◌+◌, ◌-◌, ◌*◌, ◌/◌, length, refl, arith}
use Rattle.mc_store.specs.internal.Polynomial.{after, write}
use Rattle.mc_store.proofs.hashing.PolynomialHasherHasher.write.Goals as goal

pub loop-at-init : goal.loop-at-init
unfolding after
loop-at-init c = record { whole = refl; within = omega arith; so_far = refl; room = c.folded-value.ensures.room }

pub loop-at-preserved : goal.loop-at-preserved
unfolding after
loop-at-preserved c =
    let at : ℕ = c.loop-at.at in
    let whole : at ≡ 7 * (at / 7) = omega (arith, c.loop-at.invariant.whole) in
    let more : (at + 7) / 7 ≡ suc (at / 7) = omega arith in
    record {
      whole = omega (arith, c.loop-at.invariant.whole);
      within = omega (arith, c.loop-at-test.true);
      so_far =
          rw (more, c.folded-value-in-loop-at.ensures.value, c.read_u64.ensures, ← c.loop-at.invariant.so_far, ← whole)
          refl;
      room = c.folded-value-in-loop-at.ensures.room;
    }

pub returns : goal.returns
unfolding write
returns c =
    let n : ℕ = length c.args.bytes.now in
    let at : ℕ = c.loop-at.at in
    let count : (n - 1) / 7 ≡ at / 7 =
    omega (arith, c.loop-at.invariant.whole, c.loop-at.invariant.within, c.loop-at-test.false) in
    let whole : 7 * (at / 7) ≡ at = omega (arith, c.loop-at.invariant.whole) in
    rw (
      count,
      whole,
      c.loop-at.invariant.so_far,
      c.last_coefficient.ensures.value,
      c.split_at.ensures.back,
      c.folded-value.ensures.value,
    )
