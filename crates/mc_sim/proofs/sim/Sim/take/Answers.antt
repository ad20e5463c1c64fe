use Rattle.std.proofs.Common.{refl}
use Rattle.mc_sim.proofs.AtSeat.{finds_at, takes, takes_all, takes_closed, takes_full}
use Rattle.mc_sim.proofs.sim.Sim.take.Goals as goal

pub returns-in-Opened : goal.returns-in-Opened
returns-in-Opened c =
    takes _ _ c.args.seat c.in-Some.field-0 c.args.moment c.in-Opened.field-0 c.index_mut.result.now
    (record { conn = c.take.new.self; current = c.index_mut.result.now.current })
    (finds_at c.args.self.now c.args.seat c.in-Some.field-0 _ c.in-Some.ensures.seat c.index_mut.ensures.value
    c.in-Some.ensures.current)
    c.in-Some.ensures.kept c.in-Opened.ensures.says refl (record { seats = refl; log = refl; rings = refl }) refl

pub returns-in-NeedMore : goal.returns-in-NeedMore
returns-in-NeedMore c =
    takes_all _ _ c.args.seat c.in-Some.field-0 c.args.moment c.index_mut.result.now
    (record { conn = c.take.new.self; current = c.index_mut.result.now.current })
    (finds_at c.args.self.now c.args.seat c.in-Some.field-0 _ c.in-Some.ensures.seat c.index_mut.ensures.value
    c.in-Some.ensures.current)
    refl (record { seats = refl; log = refl; rings = refl }) refl c.in-NeedMore.ensures.says

pub returns-in-Full : goal.returns-in-Full
returns-in-Full c =
    takes_full _ _ c.args.seat c.in-Some.field-0 c.args.moment c.index_mut.result.now
    (record { conn = c.take.new.self; current = c.index_mut.result.now.current })
    (finds_at c.args.self.now c.args.seat c.in-Some.field-0 _ c.in-Some.ensures.seat c.index_mut.ensures.value
    c.in-Some.ensures.current)
    refl (record { seats = refl; log = refl; rings = refl }) refl c.in-Full.ensures.says

pub returns-in-Closed : goal.returns-in-Closed
returns-in-Closed c =
    takes_closed _ _ c.args.seat c.in-Some.field-0 c.args.moment c.index_mut.result.now
    (record { conn = c.take.new.self; current = c.index_mut.result.now.current })
    (finds_at c.args.self.now c.args.seat c.in-Some.field-0 _ c.in-Some.ensures.seat c.index_mut.ensures.value
    c.in-Some.ensures.current)
    refl (record { seats = refl; log = refl; rings = refl }) refl c.in-Closed.ensures.says
