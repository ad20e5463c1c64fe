use Rattle.std.proofs.Common.{◌≡◌, ◌/◌, ◌++◌, [], ◌∷◌, length, arith, ap, length-append}
use Rattle.mc_cells.specs.Chain.{cell_at}
use Rattle.mc_cells.specs.Halves.{half_beside}
use Rattle.mc_cells.proofs.Joined.{the_other_some, joined_end, joined_from, some_set, linked_some}
use Rattle.mc_cells.proofs.Listed.{get_last, get_inside, halves_few}
use Rattle.mc_cells.proofs.piece_pool.join.Goals as goal

pub remove-requires : goal.remove-requires
remove-requires c =
    the_other_some c.args.halves.now.items c.args.number c.args.at c.args.cells.now.slots c.requires.linked
    c.requires.beside

pub returns-then-at-len-clause-removed : goal.returns-then-at-len-clause-removed
returns-then-at-len-clause-removed c =
    let last = c.unwrap-last.result in
    let front = c.pop.new.self.items in
    let all : c.args.halves.now.items ≡ front ++ last ∷ [] = rw c.unwrap-last.ensures at c.pop.ensures.items in
    let end : c.args.at ≡ length front = search (arith, c.if-at-len.true, c.len.ensures) in
    let gone = c.remove.ensures.removed in
    rw all (joined_end front last c.args.number c.args.at c.args.cells.now.slots c.remove.new.self.slots gone.cell
    (rw all at c.requires.linked) (rw all at c.requires.beside) end gone.removed)

pub index_mut-requires : goal.index_mut-requires
index_mut-requires c =
    let last = c.unwrap-last.result in
    let front = c.pop.new.self.items in
    let all : c.args.halves.now.items ≡ front ++ last ∷ [] = rw c.unwrap-last.ensures at c.pop.ensures.items in
    let inside = get_inside c.args.halves.now.items c.args.at (half_beside c.args.number) c.requires.beside in
    let less : length c.args.halves.now.items ≡ length (front ++ last ∷ []) = ap (λ xs. length xs) all in
    omega (
      arith,
      inside,
      less,
      length-append front (last ∷ []),
      c.if-at-len.false,
      c.len.ensures,
      c.pop.new.self.ok,
    )

pub link-requires-clause-in_use : goal.link-requires-clause-in_use
link-requires-clause-in_use c =
    let last = c.unwrap-last.result in
    let front = c.pop.new.self.items in
    let all : c.args.halves.now.items ≡ front ++ last ∷ [] = rw c.unwrap-last.ensures at c.pop.ensures.items in
    linked_some (cell_at c.args.cells.now.slots (last / 2)) (length front)
    ((rw all at c.requires.linked) (length front) last (get_last front last))

pub link-requires-clause-few : goal.link-requires-clause-few
link-requires-clause-few c =
    let inside = get_inside c.args.halves.now.items c.args.at (half_beside c.args.number) c.requires.beside in
    let few = halves_few c.args.halves.now.items c.args.cells.now.slots c.requires.linked in
    omega (arith, inside, few, c.requires.few)

pub remove-requires-2 : goal.remove-requires-2
remove-requires-2 c =
    let some = the_other_some c.args.halves.now.items c.args.number c.args.at c.args.cells.now.slots c.requires.linked
    c.requires.beside in
    rw c.link.ensures.slots (some_set c.args.cells.now.slots (c.unwrap-last.result / 2) (c.args.number / 2) _ some)

pub returns-clause-removed : goal.returns-clause-removed
returns-clause-removed c =
    let last = c.unwrap-last.result in
    let front = c.pop.new.self.items in
    let all : c.args.halves.now.items ≡ front ++ last ∷ [] = rw c.unwrap-last.ensures at c.pop.ensures.items in
    let gone = c.remove-2.ensures.removed in
    rw all (joined_from front last c.args.number c.args.at c.args.cells.now.slots c.remove-2.new.self.slots gone.cell
    (rw all at c.requires.linked) (rw all at c.requires.beside) (search (arith, c.if-at-len.false, c.len.ensures))
    (rw c.link.ensures.slots at gone.removed))
