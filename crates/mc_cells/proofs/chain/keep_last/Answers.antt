use Rattle.std.proofs.Common.{arith, ◌≡◌, ◌≤◌, ◌<◌, length, rules}
use Rattle.mc_cells.specs.Chain.{cell_of}
use Rattle.mc_cells.proofs.Added.{last_piece}
use Rattle.mc_cells.proofs.chain.keep_last.Goals as goal

pub returns-then-bytes-le-HALF_BYTES-clause-kept : goal.returns-then-bytes-le-HALF_BYTES-clause-kept
returns-then-bytes-le-HALF_BYTES-clause-kept c =
    λ kept hold.
    let test = c.if-is_empty.false in
    let says = c.is_empty.ensures in
    let some : 0 < length c.args.bytes.now = grind (arith, test, says) in
    let size : length c.padded.result ≡ 30 = search rules in
    let short : length c.args.bytes.now ≤ 30 = search (arith, c.if-bytes-le-HALF_BYTES.true) in
    rw c.padded.ensures at
    (last_piece c.args.cells.now.slots c.insert_half.new.self.slots c.insert_half.result (cell_of 0 c.padded.result)
    (length c.args.bytes.now) kept c.insert_half.ensures.added (omega (arith, size, short)) some c.requires.short hold)

pub returns-clause-kept : goal.returns-clause-kept
returns-clause-kept c =
    λ kept hold.
    let test = c.if-is_empty.false in
    let says = c.is_empty.ensures in
    let some : 0 < length c.args.bytes.now = grind (arith, test, says) in
    let size : length c.padded-2.result ≡ 60 = search rules in
    rw c.padded-2.ensures at
    (last_piece c.args.cells.now.slots c.insert_whole.new.self.slots c.insert_whole.result
    (cell_of 0 c.padded-2.result) (length c.args.bytes.now) kept c.insert_whole.ensures.added
    (omega (arith, size, c.requires.short)) some c.requires.short hold)
