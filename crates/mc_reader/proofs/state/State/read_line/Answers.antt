use Rattle.std.proofs.Common.{◌∙◌, ap, take, arith}
use Rattle.mc_wire.specs.Words.{words_of}
use Rattle.mc_command.proofs.Sizes.{data_small}
use Rattle.mc_reader.specs.Spelling.{without_return}
use Rattle.mc_reader.specs.internal.State.{Holds, IsWhole}
use Rattle.mc_command.specs.declared.command.Command.TheVariants as command
use Rattle.mc_reader.specs.declared.state.State.TheVariants as state
use Rattle.mc_reader.proofs.Machine.{whole_line, whole_refused}
use Rattle.mc_reader.proofs.States.{read_head}
use Rattle.mc_reader.proofs.state.State.read_line.Goals as goal
use Rattle.mc_reader.proofs.state.State.read_line.Goals.{in-Data+else-has_block, in-Skip}

pub returns-in-Whole-clause-some : goal.returns-in-Whole-clause-some
returns-in-Whole-clause-some c unread h =
    let is = c.in-Line-Some.is ∙ ap (λ x. state.Line x) c.in-Line-Some.field-0-is in
    read_head c.args.rules (IsWhole c.args.rules c.in-Whole.command c.take_line.new.buffer.bytes) c.args.self.now
    c.args.buffer.now.bytes c.take_line.new.buffer.bytes unread c.in-Line-Some.long is c.take_line.ensures.rest
    (λ none short. whole_line c.args.rules (take c.in-Line-Some.long c.args.buffer.now.bytes)
    c.take_line.new.buffer.bytes c.in-Whole.command none short c.in-Whole.ensures.says) h

pub returns-in-Refused-clause-some : goal.returns-in-Refused-clause-some
returns-in-Refused-clause-some c unread h =
    let is = c.in-Line-Some.is ∙ ap (λ x. state.Line x) c.in-Line-Some.field-0-is in
    read_head c.args.rules (IsWhole c.args.rules (command.Refused c.in-Refused.refusal) c.take_line.new.buffer.bytes)
    c.args.self.now c.args.buffer.now.bytes c.take_line.new.buffer.bytes unread c.in-Line-Some.long is
    c.take_line.ensures.rest
    (λ none short. whole_refused c.args.rules (take c.in-Line-Some.long c.args.buffer.now.bytes)
    c.take_line.new.buffer.bytes c.in-Refused.refusal none short c.in-Refused.ensures.says) h

pub returns-then-has_block-clause-some : goal.returns-then-has_block-clause-some
returns-then-has_block-clause-some c unread h =
    let is = c.in-Line-Some.is ∙ ap (λ x. state.Line x) c.in-Line-Some.field-0-is in
    let line = take c.in-Line-Some.long c.args.buffer.now.bytes in
    read_head c.args.rules (IsWhole c.args.rules c.take_block.result c.take_block.new.buffer.bytes) c.args.self.now
    c.args.buffer.now.bytes c.take_line.new.buffer.bytes unread c.in-Line-Some.long is c.take_line.ensures.rest
    (λ none short. c.take_block.ensures.whole line none short c.in-Data.ensures.says) h

pub take_block-requires-clause-small : goal.take_block-requires-clause-small
take_block-requires-clause-small c =
    let small = data_small c.args.rules (words_of (without_return (take c.in-Line-Some.long c.args.buffer.now.bytes)))
    c.in-Data.command c.in-Data.count c.in-Data.ensures.says in
    omega (arith, small, c.requires.small)

pub await_block-requires : goal.await_block-requires
await_block-requires c =
    let small = data_small c.args.rules (words_of (without_return (take c.in-Line-Some.long c.args.buffer.now.bytes)))
    c.in-Data.command c.in-Data.count c.in-Data.ensures.says in
    omega (arith, small, c.requires.small)

pub returns-clause-none : goal.returns-clause-none
returns-clause-none c unread h =
    let is = c.in-Line-Some.is ∙ ap (λ x. state.Line x) c.in-Line-Some.field-0-is in
    let rules = c.args.rules in
    let long = c.in-Line-Some.long in
    let line = take long c.args.buffer.now.bytes in
    elim c.match-take_line.branch [
      | in-Data+else-has_block w ↦
          rw (w.self-is, w.buffer-is)
          (read_head rules (Holds rules w.await_block.new.self w.await_block.new.buffer.bytes) c.args.self.now
          c.args.buffer.now.bytes c.take_line.new.buffer.bytes unread long is c.take_line.ensures.rest
          (λ none short. w.await_block.ensures.holds rules line none short w.in-Data.ensures.says) h)
      | in-Skip w ↦ rw (w.self-is, w.buffer-is)
          (read_head rules (Holds rules w.skip.new.self w.skip.new.buffer.bytes) c.args.self.now c.args.buffer.now.bytes
          c.take_line.new.buffer.bytes unread long is c.take_line.ensures.rest
          (λ none short. w.skip.ensures.holds rules line none short w.in-Skip.ensures.says) h)
    ]
