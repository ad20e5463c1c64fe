-- Reading digit by digit gives the value of the whole word.
use Rattle.std.proofs.Common.{◌≡◌, ◌<◌, length, get_or, drop, ◌+◌, sym, ◌∙◌, arith}
use Rattle.std.proofs.lemmas.Bool.Decides.{nat_tests}
use Rattle.std.proofs.lemmas.List.{at_drop_more, at_drop_all}
use Rattle.mc_wire.proofs.Numbers.{number_of_is, number_of-unfit, read_from, read_from-stop}
use Rattle.mc_wire.proofs.number.number_u64.Goals as goal
use Rattle.mc_wire.proofs.number.number_u64.Goals.{then-is_empty-via-then-is_empty}
use Rattle.mc_wire.proofs.number.number_u64.Goals.{then-is_empty-via-else-is_empty+then-word-gt-DIGIT_LIMIT}

pub returns-then-is_empty : goal.returns-then-is_empty
returns-then-is_empty c = elim c.then-is_empty.branch [
  | then-is_empty-via-then-is_empty w ↦
      let empty : length c.args.word.now ≡ 0 = grind (arith, nat_tests) in
      rw (number_of-unfit c.args.word.now (λ some. absurd (omega arith)))
  | then-is_empty-via-else-is_empty+then-word-gt-DIGIT_LIMIT w ↦
      rw (number_of-unfit c.args.word.now (λ some. omega arith))
]

pub returns-in_default : goal.returns-in_default
returns-in_default c =
    let some : 0 < length c.args.word.now = grind (arith, nat_tests) in
    let word = c.args.word.now in
    let index = c.loop-byte.byte-index in
    let read = at_drop_more (read_from c.loop-byte.value) word index 0 (omega arith)
    ∙ read_from-stop c.loop-byte.value (get_or word index 0) (drop (index + 1) word) c.in_default.ensures in
    rw (number_of_is word some (omega arith), ← c.loop-byte.invariant, read)

pub returns : goal.returns
returns c =
    let some : 0 < length c.args.word.now = grind (arith, nat_tests) in
    let read = sym (at_drop_all (read_from c.loop-byte.value) c.args.word.now c.loop-byte.byte-index (omega arith))
    ∙ c.loop-byte.invariant in
    rw (number_of_is c.args.word.now some (omega arith), ← read)
