use Rattle.mc_wire.specs.Words.{words_of}
use Rattle.mc_command.specs.Meta.{meta_command_of}
use Rattle.mc_command.proofs.GivingUp.{says_whole}
use Rattle.mc_command.proofs.MetaLaws.{meta_given_up}
use Rattle.mc_command.proofs.meta_line.read_without_block.Goals as goal

pub returns : goal.returns
returns c =
    let name = c.args.name in
    let word = c.in-Some.word.now in
    let words = words_of c.next.new.self.rest.now in
    rw (c.whole_line.ensures, c.in-Some.ensures.steps)
    (says_whole (meta_command_of c.args.rules name word words) c.read_command.result
    c.read_command.ensures (meta_given_up c.args.rules name word words))
