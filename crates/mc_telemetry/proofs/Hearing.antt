-- Reporters and where they are heard.
use Rattle.std.proofs.Common.{List, [], ◌∷◌, ◌++◌}
use Rattle.std.specs.declared.alloc.Global.{Global}
use Rattle.rtrb.specs.declared.AnyItems.{AnyItems}
use Rattle.rtrb.specs.declared.consumer.Consumer.{Consumer}
use Rattle.mc_telemetry.specs.declared.reporter.Record.{Record}
use Rattle.mc_telemetry.specs.declared.reporter.Reporter.{Reporter}
use Rattle.mc_telemetry.specs.Reports.{AreHeard, IsHeardIn}

-- reporters that are heard, each at one end, and one more
pub heard_more : (all : List Reporter) (queues : List (Consumer Record Global AnyItems)) (reporter : Reporter)
    (hears : Consumer Record Global AnyItems) → AreHeard all queues → IsHeardIn reporter.queue reporter.dropped hears
    → AreHeard (all ++ reporter ∷ []) (queues ++ hears ∷ [])
heard_more [] [] reporter hears each one = (one, each)
heard_more [] (first ∷ rest) reporter hears each one = absurd each
heard_more (first ∷ others) [] reporter hears each one = absurd each
heard_more (first ∷ others) (next ∷ rest) reporter hears each one =
    (each.0, heard_more others rest reporter hears each.1 one)
