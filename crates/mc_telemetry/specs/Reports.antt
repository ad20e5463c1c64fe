-- The events of a reporter, and their receiver.
use Rattle.std.specs.Prelude.{ℕ, ◌≡◌, ◌+◌, ◌-◌, ◌^◌, ◌⊎◌, List, [], ◌∷◌, ◌++◌, Option, Some, None, min, ⊤}
use Rattle.std.specs.declared.alloc.Global.{Global}
use Rattle.rtrb.specs.Ring.{IsPair, SameProducer, known_free, producer_capacity, received, sent}
use Rattle.rtrb.specs.declared.AnyItems.{AnyItems}
use Rattle.rtrb.specs.declared.consumer.Consumer.{Consumer}
use Rattle.rtrb.specs.declared.producer.Producer.{Producer}
use Rattle.mc_telemetry.specs.declared.event.ConnectionEvent.{ConnectionEvent}
use Rattle.mc_telemetry.specs.declared.reporter.Record.{Record}
use Rattle.mc_telemetry.specs.declared.reporter.Reporter.{Reporter}

-- the capacity of a reporter's queue
abbrev pub room : ℕ
room = 512

module _ {A P : Type 0} where
  -- The event was queued, with the number of those dropped before it.
  pub record Queues (old : Producer Record A P) (dropped : ℕ) (event : ConnectionEvent) (new : Producer Record A P)
      (left : ℕ) : Type 0 where
    pub told : sent new ≡ sent old ++ (record { event = event; dropped = dropped }) ∷ []
    pub none_dropped : left ≡ 0

  -- The queue was full: the event is one more that was dropped.
  pub record Drops (old : Producer Record A P) (dropped : ℕ) (new : Producer Record A P) (left : ℕ) : Type 0 where
    pub none_free : known_free new ≡ 0
    pub same : sent new ≡ sent old
    pub one_more : left ≡ min (dropped + 1) (2 ^ 64 - 1)

  -- the event was queued, if there is a queue; it was dropped only if the queue was full
  abbrev pub ReportedIn : Option (Producer Record A P) → ℕ → ConnectionEvent → Option (Producer Record A P) → ℕ → Type 0
  ReportedIn None dropped event new left = (new ≡ None) × (left ≡ dropped)
  ReportedIn (Some old) dropped event None left = ⊥
  ReportedIn (Some old) dropped event (Some new) left =
      SameProducer old new × (Queues old dropped event new left ⊎ Drops old dropped new left)

  -- the queue is empty, belongs to this receiver, and has capacity `room`
  pub record IsNew (queue : Producer Record A P) (hears : Consumer Record A P) : Type 0 where
    pub pair : IsPair queue hears
    pub nothing_sent : sent queue ≡ []
    pub nothing_received : received hears ≡ []
    pub capacity : producer_capacity queue ≡ room
    pub free : known_free queue ≡ room

  -- the events in the reporter's queue are received at this end of it
  abbrev pub IsHeardIn : Option (Producer Record A P) → ℕ → Consumer Record A P → Type 0
  IsHeardIn None dropped hears = ⊥
  IsHeardIn (Some queue) dropped hears = IsNew queue hears × (dropped ≡ 0)

-- the event was reported
abbrev pub Reported : Reporter → ConnectionEvent → Reporter → Type 0
Reported old event new = ReportedIn old.queue old.dropped event new.queue new.dropped

-- the events of the reporters are received at these ends, one for each
abbrev pub AreHeard : List Reporter → List (Consumer Record Global AnyItems) → Type 0
AreHeard [] [] = ⊤
AreHeard [] (hears ∷ rest) = ⊥
AreHeard (reporter ∷ others) [] = ⊥
AreHeard (reporter ∷ others) (hears ∷ rest) =
    IsHeardIn reporter.queue reporter.dropped hears × AreHeard others rest
