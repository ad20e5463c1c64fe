use Rattle.mc_reader.proofs.States.{fed_block, fed_skip}
use Rattle.mc_reader.proofs.state.State.feed.Goals as goal

pub returns-in-Block-clause-holds : goal.returns-in-Block-clause-holds
returns-in-Block-clause-holds c rules unread limited h =
    let f = c.fill-count.ensures in
    fed_block rules c.args.self.now c.in-Block.block c.fill-count.new.self c.args.buffer.now.bytes c.push.new.self.bytes
    unread c.args.piece.now c.split_at.result.1.now c.fill-count.result c.push.result c.in-Block.is f.command f.same
    f.bytes f.count c.split_at.ensures.back c.push.ensures.bytes h

pub returns-in-Skip-clause-holds : goal.returns-in-Skip-clause-holds
returns-in-Skip-clause-holds c rules unread limited h =
    let f = c.fill-count-in-Skip.ensures in
    fed_skip rules c.args.self.now c.in-Skip.skipped c.fill-count-in-Skip.new.self c.args.buffer.now.bytes
    c.push-in-Skip.new.self.bytes unread c.args.piece.now c.split_at-in-Skip.result.1.now c.fill-count-in-Skip.result
    c.push-in-Skip.result c.in-Skip.is f.same f.discarded f.left f.count c.split_at-in-Skip.ensures.back
    c.push-in-Skip.ensures.bytes h
