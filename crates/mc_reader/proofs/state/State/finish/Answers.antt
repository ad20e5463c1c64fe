use Rattle.std.proofs.Common.{sym, ◌∙◌}
use Rattle.mc_reader.proofs.States.{finished_block, finished_line, finished_skip, not_complete, nothing_awaited}
use Rattle.mc_reader.proofs.state.State.finish.Goals as goal

pub returns-then-not-is_complete-clause-nothing : goal.returns-then-not-is_complete-clause-nothing
returns-then-not-is_complete-clause-nothing c unread limited opened h =
    rw limited (nothing_awaited c.args.rules c.args.self.now c.args.buffer.now.bytes unread
    (not_complete c.is_complete.result c.if-not-is_complete.true (rw limited at c.is_complete.ensures.1)) opened h)

pub returns-in-Line-clause-some : goal.returns-in-Line-clause-some
returns-in-Line-clause-some c unread limited opened h =
    finished_line c.args.rules c.args.self.now c.args.buffer.now.bytes c.clear.new.self.bytes unread c.in-Line.field-0
    (sym c.replace.ensures.value ∙ c.in-Line.is) (rw limited at (c.is_complete.ensures.0 c.if-not-is_complete.false))
    opened h c.clear.ensures.bytes

pub returns-in-Block-clause-some : goal.returns-in-Block-clause-some
returns-in-Block-clause-some c unread limited opened h =
    let is = sym c.replace.ensures.value ∙ c.in-Block.is in
    finished_block c.args.rules c.args.self.now c.args.buffer.now.bytes unread c.in-Block.block c.close.result is
    (rw limited at (c.is_complete.ensures.0 c.if-not-is_complete.false)) c.in-Block.block.within c.close.ensures h

pub returns-in-Skip-clause-some : goal.returns-in-Skip-clause-some
returns-in-Skip-clause-some c unread limited opened h =
    finished_skip c.args.rules c.args.self.now c.args.buffer.now.bytes unread c.in-Skip.skipped c.entry.result
    (sym c.replace.ensures.value ∙ c.in-Skip.is) (rw limited at (c.is_complete.ensures.0 c.if-not-is_complete.false)) h
    c.entry.ensures
