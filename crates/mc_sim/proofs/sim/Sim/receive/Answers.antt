use Rattle.std.proofs.Common.{refl}
use Rattle.mc_sim.proofs.AtSeat.{finds_at}
use Rattle.mc_sim.proofs.Receiving.{accepts, receives, receives_none}
use Rattle.mc_sim.proofs.sim.Sim.receive.Goals as goal

pub returns-in_default-receive : goal.returns-in_default-receive
returns-in_default-receive c =
    receives_none _ _ c.args.seat c.in-Some.field-0 c.args.shard c.in-Some.ensures.current
    c.in_default-receive.ensures.none refl refl refl

pub returns : goal.returns
returns c =
    receives _ _ c.args.seat c.in-Some.field-0 c.args.shard _ c.index_mut.result.now
    (record { conn = c.accept.new.self; current = c.index_mut.result.now.current })
    (finds_at c.args.self.now c.args.seat c.in-Some.field-0 _ c.in-Some.ensures.seat c.index_mut.ensures.value
    c.in-Some.ensures.current)
    c.in-Some.ensures.kept c.in-Some-receive.ensures.received
    (accepts c.accept.result c.index_mut.result.now.conn c.accept.new.self _ c.accept.ensures.ok c.accept.ensures.err)
    refl refl refl refl
