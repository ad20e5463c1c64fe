-- One reporter more, and where it is heard.
use Rattle.std.proofs.Common.{arith, refl}
use Rattle.mc_telemetry.specs.Reports.{AreHeard}
use Rattle.mc_telemetry.proofs.Hearing.{heard_more}
use Rattle.mc_telemetry.proofs.reporter.reporters.Goals as goal

pub loop-preserved : goal.loop-preserved
loop-preserved c =
    let made = c.in_ok-queue.ensures in
    let told = c.in_ok-push.ensures in
    let heard = c.in_ok-push-2.ensures in
    let each : AreHeard c.push.new.self.items c.push-in-loop.new.self.items =
    rw told.items (rw heard.items
    (heard_more c.loop.all.items c.loop.queues.items _ c.in_ok-queue.reports c.loop.invariant.1 (
      record {
        pair = made.pair;
        nothing_sent = made.producer.0;
        nothing_received = made.consumer.0;
        capacity = made.producer.2;
        free = made.producer.1;
      },
      refl,
    ))) in
    (omega arith, each)
