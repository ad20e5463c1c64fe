-- The buffers that were taken have become the line that rested.
use Rattle.mc_transport.proofs.OneLine.{if_none, none_seen, rest_seen, resumed}
use Rattle.mc_transport.proofs.line_buffers.LineBuffers.take.Goals as goal

pub returns-clause-some : goal.returns-clause-some
returns-clause-some c =
    resumed c.self.inside.active c.self.inside.rest c.in-Some.rest c.args.self.now c.resumed.result c.is_some.result
    c.is_some.ensures c.if-is_some.false c.in-Some.is c.self.view_is c.resumed.ensures

pub returns-clause-rests : goal.returns-clause-rests
returns-clause-rests c =
    if_none c.resumed.result _
    (rest_seen c.self.inside.active c.self.inside.rest c.in-Some.rest c.args.self.now c.is_some.result
    c.is_some.ensures c.if-is_some.false c.in-Some.is c.self.view_is)

pub returns-in_default-clause-rests : goal.returns-in_default-clause-rests
returns-in_default-clause-rests c =
    none_seen c.self.inside.active c.self.inside.rest c.args.self.now c.is_some.result c.is_some.ensures
    c.if-is_some.false c.in_default.is c.self.view_is
