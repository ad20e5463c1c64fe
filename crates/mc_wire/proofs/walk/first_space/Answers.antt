-- The first space is the first behind the front that has none.
use Rattle.mc_wire.proofs.Scanning.{found_behind, none_behind}
use Rattle.mc_wire.proofs.walk.first_space.Goals as goal

pub returns-in-Some : goal.returns-in-Some
returns-in-Some c =
    found_behind c.args.text.now c.front_without_space-passed.result
    c.in-Some.at c.front_without_space-passed.ensures.within c.front_without_space-passed.ensures.none
    (rw c.split_at.ensures.back at c.in-Some.ensures)

pub returns-in-None : goal.returns-in-None
returns-in-None c =
    none_behind c.args.text.now c.front_without_space-passed.result c.front_without_space-passed.ensures.within
    c.front_without_space-passed.ensures.none (rw c.split_at.ensures.back at c.in-None.ensures)
