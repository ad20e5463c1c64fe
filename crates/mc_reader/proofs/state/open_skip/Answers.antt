use Rattle.mc_reader.proofs.States.{begun_skip}
use Rattle.mc_reader.proofs.state.open_skip.Goals as goal

pub returns-clause-holds : goal.returns-clause-holds
returns-clause-holds c rules line none short says =
    let f = c.fill-filled.ensures in
    begun_skip rules c.fill-filled.new.self c.args.discarded c.args.refusal c.args.left c.args.buffer.now.bytes
    c.consume.new.self.bytes c.unread.result.now line c.fill-filled.result f.same f.discarded f.left f.count
    c.unread.ensures.bytes c.consume.ensures.bytes none short says
