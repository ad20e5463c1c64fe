use Rattle.mc_worker.specs.WorkerStateLaws.{goes_refl, goes_trans}
use Rattle.mc_session.proofs.working.Working.turn.Goals as goal

pub loop-seat-init : goal.loop-seat-init
loop-seat-init g c = goes_refl c.args.self.now.worker

pub loop-seat-preserved : goal.loop-seat-preserved
loop-seat-preserved g c =
    goes_trans c.args.self.now.worker c.loop-seat.self.worker c.serve_seat.new.self.worker c.loop-seat.invariant
    c.serve_seat.ensures.goes

pub loop-seat-preserved-then-serve_seat : goal.loop-seat-preserved-then-serve_seat
loop-seat-preserved-then-serve_seat g c =
    goes_trans c.args.self.now.worker c.loop-seat.self.worker c.serve_seat.new.self.worker c.loop-seat.invariant
    c.serve_seat.ensures.goes
