use Rattle.std.proofs.Common.{◌<◌, ◌≤◌, ◌∙◌, arith}
use Rattle.std.proofs.lemmas.Int.{ints, to_z_pos}
use mir.Syntax.{w32}
use Rattle.mc_command.proofs.Halves.{half_of, high_bits}
use Rattle.mc_command.proofs.rules.low_half.Goals as goal

pub returns-then-low : goal.returns-then-low
returns-then-low c =
    let half = half_of c.args.number c.rem_euclid-low.result c.ranges.number c.rem_euclid-low.ensures.value in
    let is = half.1 in
    let test = c.if-low.true in
    let small : half.0 < 2147483648 = grind (arith, ints) in
    let wrapped = half.2 ∙ to_z_pos w32 half.0 small in
    omega (arith, ints, is, wrapped)

pub returns-else-low : goal.returns-else-low
returns-else-low c =
    let half = half_of c.args.number c.rem_euclid-low.result c.ranges.number c.rem_euclid-low.ensures.value in
    let is = half.1 in
    let test = c.if-low.false in
    let most = c.rem_euclid-low.ensures.upper_bound in
    let large : 2147483648 ≤ half.0 = grind (arith, ints) in
    let below : half.0 < 4294967296 = grind (arith, ints) in
    let wrapped = half.2 ∙ high_bits half.0 large in
    omega (arith, ints, is, wrapped, below)
