-- Cutting at the first space leaves the words as they are.
use Rattle.std.proofs.Common.{◌+◌, ◌-◌, drop, length, arith, length-drop}
use Rattle.std.proofs.lemmas.List.{take_all}
use Rattle.mc_wire.proofs.Splitting.{words_at, words_nowhere}
use Rattle.mc_wire.proofs.walk.cut_at_space.Goals as goal

pub returns-in-Some-clause-words : goal.returns-in-Some-clause-words
returns-in-Some-clause-words c =
    let text = c.args.text.now in
    let at = c.in-Some.at in
    let found = words_at text at c.in-Some.ensures in
    let whole = take_all (length text - (at + 1)) (drop (at + 1) text) (omega (arith, length-drop (at + 1) text)) in
    rw whole found.1

pub returns-in-None-clause-words : goal.returns-in-None-clause-words
returns-in-None-clause-words c = words_nowhere c.args.text.now c.in-None.ensures
