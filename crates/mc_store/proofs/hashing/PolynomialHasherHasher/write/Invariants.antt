use Rattle.std.proofs.Common.{◌≡◌, ◌+◌, ◌-◌, ◌/◌, ◌%◌, ◌^◌, ◌<◌, ◌≤◌, length}
use Rattle.mc_store.specs.internal.Polynomial.{after}
use Rattle.mc_store.proofs.hashing.PolynomialHasherHasher.write.Given as goal

abbrev pub invariant-loop-at : goal.invariant-loop-at
invariant-loop-at l = record {
  whole : l.at % 7 ≡ 0;
  within : l.at ≤ length l.bytes - 1;
  so_far : l.value ≡ after l.point l.bytes l.initial.value (l.at / 7);
  room : l.value < 2 ^ 63 + 2 ^ 61;
}

abbrev pub decreases-loop-at : goal.decreases-loop-at
decreases-loop-at l = length l.bytes - l.at
