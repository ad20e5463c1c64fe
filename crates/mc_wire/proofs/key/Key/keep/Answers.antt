-- A short key fills the front of the room.
use Rattle.std.proofs.Common.{◌≡◌, ◌∙◌, ◌<◌, ◌≤◌, ap, length, take, ◌++◌, ℕ, List, arith}
use Rattle.std.proofs.lemmas.List.{take_at}
use Rattle.mc_wire.specs.declared.TheConstants.{KEY_LIMIT}
use Rattle.mc_wire.proofs.key.Key.keep.Goals as goal

-- what is written into the front of a room is there
in_front : (bytes written rest : List ℕ) → written ≡ bytes → take (length bytes) (written ++ rest) ≡ bytes
in_front bytes written rest is = take_at written rest (length bytes) (ap length is) ∙ is

-- and is as long
as_long : (bytes written rest : List ℕ) → written ≡ bytes → 0 < length bytes → length bytes ≤ KEY_LIMIT
    → (0 < length (take (length bytes) (written ++ rest)))
    × (length (take (length bytes) (written ++ rest)) ≤ KEY_LIMIT)
as_long bytes written rest is some short = rw (in_front bytes written rest is) (some, short)

pub invariant_of-result-2 : goal.invariant_of-result-2
invariant_of-result-2 c = (
  omega (arith, c.if-bytes-gt-SHORT_KEY.false),
  (as_long c.args.bytes.now c.copy_from_slice.new.self _ c.copy_from_slice.ensures.after c.requires.some
      c.requires.short).0,
  (as_long c.args.bytes.now c.copy_from_slice.new.self _ c.copy_from_slice.ensures.after c.requires.some
      c.requires.short).1,
)

pub returns : goal.returns
returns c = in_front c.args.bytes.now c.copy_from_slice.new.self _ c.copy_from_slice.ensures.after
