use Rattle.std.proofs.Common.{refl, ap, ◌∙◌}
use Rattle.mc_sim.specs.declared.sim.Connection.{Connection}
use Rattle.mc_sim.proofs.AtSeat.{ended_before, ends, finds_at, finds_some, get_index, same_index}
use Rattle.mc_sim.proofs.sim.Sim.end.Goals as goal

pub returns-then-index : goal.returns-then-index
returns-then-index c =
    ended_before _ _ c.args.seat c.in-Some.number _ c.index.result.now
    (finds_some c.args.self.now c.args.seat c.in-Some.number c.in-Some.ensures.current)
    (get_index _ _ _ c.in-Some.ensures.kept c.index.ensures) c.if-index.true
    (record { seats = refl; connections = refl; log = refl; rings = refl })

pub returns : goal.returns
returns c =
    ends _ _ c.args.seat c.in-Some.number c.index_mut-2.result.now
    (record { conn = c.end.new.self; current = c.index_mut-2.result.now.current }) c.index_mut.result.now
    (finds_at c.args.self.now c.args.seat c.in-Some.number _ c.in-Some.ensures.seat c.index_mut-2.ensures.value
    c.in-Some.ensures.current)
    (get_index _ _ _ c.in-Some.ensures.kept c.index_mut.ensures.value)
    (ap (λ (kept : Connection). kept.ended)
    (same_index _ _ _ _ c.in-Some.ensures.kept c.index_mut.ensures.value c.index.ensures) ∙ c.if-index.false)
    c.end.ensures refl (record { seats = refl; log = refl; rings = refl }) refl
