-- The requested events, by the names of the schedules.
use Rattle.mc_model.specs.declared.event.Event.{Event as Asked}
use Rattle.mc_model.specs.declared.event.Event.TheVariants as asked
use Rattle.mc_model.specs.Events.{Event}
use Rattle.mc_model.specs.Events.Event.{Open, Feed, Take, Send, Pop, Give, Receive, Hand, End, Break}

-- the event by the name of the schedules
abbrev pub event_of : Asked → Event
event_of (asked.Open seat) = Open seat
event_of (asked.Feed seat bytes) = Feed seat bytes.items
event_of (asked.Take seat moment) = Take seat moment
event_of (asked.Send seat) = Send seat
event_of (asked.Pop shard seat) = Pop shard seat
event_of (asked.Give shard) = Give shard
event_of (asked.Receive seat shard) = Receive seat shard
event_of (asked.Hand seat) = Hand seat
event_of (asked.End seat) = End seat
event_of (asked.Break seat) = Break seat
