-- One bit is set, and the others are as before.
use Rattle.std.proofs.Common.{◌%◌, w64, arith}
use Rattle.std.proofs.lemmas.Nat.Bits.{bit_at_set_other, bit_at_set_same}
use Rattle.mc_session.proofs.working.marked.Goals as goal

pub returns : goal.returns
returns c = record {
  seat = bit_at_set_same w64 c.args.word (c.args.seat % 64) (omega arith);
  others = bit_at_set_other w64 c.args.word (c.args.seat % 64) (omega arith);
}
