-- One channel more, or none, or all were closed.
use Rattle.std.proofs.Common.{◌≤◌, length, arith}
use Rattle.mc_session.proofs.Ending.{ends_all, ends_next, ends_still}
use Rattle.mc_session.specs.Session.{seat_ends}
use Rattle.mc_serve.proofs.connection_slot.ConnectionSlot.close.Goals as goal

pub returns-then-count-shards-clause-closes : goal.returns-then-count-shards-clause-closes
returns-then-count-shards-clause-closes g c served closed =
    let same = closed.same.count in
    let many = c.shards.ensures in
    let whole : length served.channels ≤ c.args.count = omega (arith, same, many) in
    ends_all c.args.count served (seat_ends c.args.self.now.session) whole closed

pub returns-then-end_channel-clause-closes : goal.returns-then-end_channel-clause-closes
returns-then-end_channel-clause-closes g c served closed =
    ends_next c.args.count served (seat_ends c.args.self.now.session) (seat_ends c.end_channel.new.self) closed
    c.if-end_channel.ensures.ended

pub returns-clause-closes : goal.returns-clause-closes
returns-clause-closes g c served closed =
    ends_still c.args.count served (seat_ends c.args.self.now.session) (seat_ends c.end_channel.new.self) closed
    c.if-end_channel.ensures.full

pub returns-then-end_channel-clause-recorded : goal.returns-then-end_channel-clause-recorded
returns-then-end_channel-clause-recorded g c served has =
    c.if-end_channel.ensures.recorded served (λ keeps. has) tt

pub returns-clause-recorded : goal.returns-clause-recorded
returns-clause-recorded g c served has = c.if-end_channel.ensures.recorded served (λ keeps. has) tt
