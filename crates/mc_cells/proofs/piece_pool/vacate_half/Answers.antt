use Rattle.std.proofs.Common.{◌≡◌, ◌+◌, ◌-◌, ◌/◌, length, arith}
use Rattle.mc_cells.specs.declared.TheConstants.{SPLIT}
use Rattle.mc_cells.specs.Chain.{cell_at, next_in}
use Rattle.mc_cells.proofs.Joined.{vacated_from}
use Rattle.mc_cells.proofs.piece_pool.vacate_half.Goals as goal

pub link-requires-clause-few : goal.link-requires-clause-few
link-requires-clause-few c =
    let halves = c.args.halves.now in
    let next = next_in (cell_at c.args.cells.now.slots (c.args.number / 2)) in
    let link : next ≡ SPLIT + (next - SPLIT) = omega (arith, c.requires.split) in
    let by = vacated_from halves.items c.args.number (next - SPLIT) c.args.cells.now.slots c.requires.linked link
    c.requires.in_use c.requires.beside in
    omega (arith, by.room, c.requires.few, c.len.ensures, halves.ok)

pub push_reserved-requires : goal.push_reserved-requires
push_reserved-requires c =
    let halves = c.args.halves.now in
    let next = next_in (cell_at c.args.cells.now.slots (c.args.number / 2)) in
    let link : next ≡ SPLIT + (next - SPLIT) = omega (arith, c.requires.split) in
    let by = vacated_from halves.items c.args.number (next - SPLIT) c.args.cells.now.slots c.requires.linked link
    c.requires.in_use c.requires.beside in
    omega (arith, by.room, c.requires.fits, c.len.ensures, halves.ok)

pub returns-clause-removed : goal.returns-clause-removed
returns-clause-removed c =
    let halves = c.args.halves.now in
    let next = next_in (cell_at c.args.cells.now.slots (c.args.number / 2)) in
    let link : next ≡ SPLIT + (next - SPLIT) = omega (arith, c.requires.split) in
    let by = vacated_from halves.items c.args.number (next - SPLIT) c.args.cells.now.slots c.requires.linked link
    c.requires.in_use c.requires.beside in
    let len : c.len.result ≡ length halves.items = omega (arith, c.len.ensures, halves.ok) in
    rw (c.link.ensures.slots, c.push_reserved.ensures.items, len) by.removed
