use Rattle.std.proofs.Common.{◌-◌, ◌+◌, ◌≡◌, rules, ◌∙◌}
use Rattle.std.proofs.lemmas.Slice.{overwrites}
use Rattle.mc_cells.proofs.Pieces.{middle_written}
use Rattle.mc_cells.proofs.cell.with_bytes.Goals as goal

pub returns-clause-here : goal.returns-clause-here
returns-clause-here c =
    let written = c.copy_from_slice.new.self in
    let same : written ≡ c.args.half = search rules in
    middle_written c.args.bytes written c.args.start (c.args.start + 30 - c.args.start) 30 (search rules) (search rules)
    ∙ same

pub returns-clause-behind : goal.returns-clause-behind
returns-clause-behind c = search (rules, overwrites)
