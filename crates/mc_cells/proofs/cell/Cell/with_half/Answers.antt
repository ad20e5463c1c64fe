use Rattle.std.proofs.Common.{◌≡◌, ◌%◌, inl, inr, ap, take, arith}
use Rattle.std.proofs.lemmas.Bool.{cases_eq}
use Rattle.mc_cells.proofs.cell.Cell.with_half.Goals as goal

pub returns-clause-here : goal.returns-clause-here
returns-clause-here c =
    rw c.new.ensures.cell c.with_bytes.ensures.here

pub returns-clause-beside : goal.returns-clause-beside
returns-clause-beside c =
    λ other apart.
    let by = c.with_bytes.ensures in
    rw c.new.ensures.cell (elim (cases_eq (c.args.number % 2) 0) [
      | inl first ↦
          let second : other % 2 ≡ 1 = omega (arith, first, apart) in
          rw second (ap (take 30) (rw first at by.behind))
      | inr other_one ↦
          let here : c.args.number % 2 ≡ 1 = omega (arith, other_one) in
          let first : other % 2 ≡ 0 = omega (arith, here, apart) in
          rw first (rw here at by.before)
    ])
