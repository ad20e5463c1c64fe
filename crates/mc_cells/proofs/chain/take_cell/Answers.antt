use Rattle.mc_cells.proofs.Taken.{chain_behind, beside_behind}
use Rattle.mc_cells.proofs.chain.take_cell.Goals as goal

pub returns-clause-chain : goal.returns-clause-chain
returns-clause-chain c =
    λ count some chain.
    let old = c.args.cells.now in
    let new = c.remove.new.self in
    let gone = c.remove.ensures.removed in
    rw (← gone.next_is)
    (chain_behind old.slots new.slots c.args.first gone.cell count gone.removed some chain)

pub returns-clause-beside : goal.returns-clause-beside
returns-clause-beside c =
    λ count kept some beside.
    let old = c.args.cells.now in
    let new = c.remove.new.self in
    let gone = c.remove.ensures.removed in
    rw (← gone.next_is)
    (beside_behind old.slots new.slots c.args.first gone.cell count kept gone.removed some beside)
