use Rattle.mc_wire.specs.Words.{words_of}
use Rattle.mc_command.specs.declared.meta.MetaKind.TheVariants.{Set}
use Rattle.mc_command.specs.Blocks.{block_count}
use Rattle.mc_command.specs.Meta.{meta_command_of}
use Rattle.mc_command.proofs.GivingUp.{says_block}
use Rattle.mc_command.proofs.MetaLaws.{meta_given_up}
use Rattle.mc_command.proofs.meta_line.read_with_block.Goals as goal

pub returns : goal.returns
returns c =
    let word = c.in-Some.word.now in
    let words = words_of c.next-2.new.self.rest.now in
    let rules = c.args.rules in
    rw (c.block_line.ensures, c.in-Some.ensures.steps, c.in-Some-next.ensures.steps, c.read_block_count-count.ensures)
    (says_block rules (block_count rules c.in-Some-next.count.now) (meta_command_of rules Set word words)
    c.read_command.result c.read_command.ensures (meta_given_up rules Set word words))
