use Rattle.std.proofs.Common.{refl, take}
use Rattle.mc_reader.specs.Reader.{IsReader, IsWaiting}
use Rattle.mc_reader.proofs.Readers.{fed_more, limit_is, nothing_unread}
use Rattle.mc_reader.proofs.reader.Reader.feed.Goals as goal

pub returns-clause-fed : goal.returns-clause-fed
unfolding IsReader
returns-clause-fed c rules fed ended given h =
    fed_more rules c.args.self.now _ fed (take c.feed.result c.args.piece.now) ended given refl refl refl
    (λ e. (c.feed.ensures.closed e).0)
    (λ unread. c.feed.ensures.holds rules unread (limit_is c.args.self.now rules h.rules_are)) h

pub returns-clause-progress : goal.returns-clause-progress
unfolding IsWaiting
returns-clause-progress c rules fed ended given h on all waits some =
    c.feed.ensures.waits (rw c.args.self.now.limited waits) some

pub returns-clause-whole : goal.returns-clause-whole
unfolding IsReader
returns-clause-whole c rules fed ended given h on used short =
    c.feed.ensures.whole rules (nothing_unread rules c.args.self.now fed ended given h used)
    (rw (limit_is c.args.self.now rules h.rules_are) short)
