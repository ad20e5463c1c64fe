use Rattle.std.proofs.Common.{refl, ap, ◌≡◌}
use Rattle.mc_sim.specs.declared.sim.Seat.{Seat}
use Rattle.mc_sim.proofs.AtSeat.{finds_at}
use Rattle.mc_sim.proofs.AtRing.{mid_is, put_back, sends, sends_full, sends_none, set_twice}
use Rattle.mc_sim.proofs.sim.Sim.send.Goals as goal

pub returns-in_default-next_piece : goal.returns-in_default-next_piece
returns-in_default-next_piece c =
    sends_none _ _ c.args.seat c.in-Some.field-0 c.index_mut.result.now
    (record { conn = c.next_piece.new.self; current = c.index_mut.result.now.current })
    (finds_at c.args.self.now c.args.seat c.in-Some.field-0 _ c.in-Some.ensures.seat c.index_mut.ensures.value
    c.in-Some.ensures.current)
    c.in_default-next_piece.ensures.none refl refl refl refl refl

pub returns-in-Ok : goal.returns-in-Ok
returns-in-Ok c =
    sends _ _ c.args.seat c.in-Some.field-0 c.in-Some-next_piece.shard c.in-Some-next_piece.piece c.index_mut.result.now
    (record { conn = c.next_piece.new.self; current = c.index_mut.result.now.current })
    (finds_at c.args.self.now c.args.seat c.in-Some.field-0 _ c.in-Some.ensures.seat c.index_mut.ensures.value
    c.in-Some.ensures.current)
    c.in-Some.ensures.kept c.in-Some-next_piece.ensures.some refl refl refl refl c.in-Ok.ensures.sent

pub returns-in-Err : goal.returns-in-Err
returns-in-Err c =
    let finds = finds_at c.args.self.now c.args.seat c.in-Some.field-0 _
    c.in-Some.ensures.seat c.index_mut.ensures.value c.in-Some.ensures.current in
    let same : c.index_mut-in-Err.result.now
    ≡ record { conn = c.next_piece.new.self; current = c.index_mut.result.now.current } =
    mid_is c.args.self.now.seats.items c.args.seat c.index_mut.result.now
    (record { conn = c.next_piece.new.self; current = c.index_mut.result.now.current }) c.index_mut-in-Err.result.now
    finds.here c.index_mut-in-Err.ensures.value in
    sends_full _ _ c.args.seat c.in-Some.field-0 c.in-Some-next_piece.shard c.in-Some-next_piece.piece
    c.index_mut.result.now (record { conn = c.not_sent.new.self; current = c.index_mut-in-Err.result.now.current })
    finds
    (put_back c.index_mut.result.now.conn c.next_piece.new.self c.index_mut-in-Err.result.now.conn c.not_sent.new.self
    c.in-Some-next_piece.shard c.in-Some-next_piece.piece c.in-Err.piece
    c.in-Some-next_piece.ensures.some (ap (λ (x : Seat). x.conn) same) c.in-Err.ensures.back c.not_sent.ensures)
    (ap (λ (x : Seat). x.current) same) (set_twice c.args.self.now.seats.items c.args.seat _ _) refl refl
    c.in-Err.ensures.kept
