-- What is left is alike just where all is, and as long.
use Rattle.std.proofs.Common.{◌≡◌, length}
use Rattle.mc_wire.specs.SameKey.{same_key}
use Rattle.mc_wire.proofs.key.same_bytes.Given as goal

abbrev pub invariant-loop-word : goal.invariant-loop-word
invariant-loop-word l = record {
  alike : same_key l.one l.other ≡ same_key l.rest l.other_rest;
  as_long : length l.rest ≡ length l.other_rest;
}

abbrev pub decreases-loop-word : goal.decreases-loop-word
decreases-loop-word l = length l.rest
