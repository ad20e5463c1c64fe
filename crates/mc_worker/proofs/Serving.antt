-- What serving the next request of a seat does to the log, to the marks and to the pending reply.
use Rattle.std.proofs.Common.{◌≡◌, ◌≢◌, ◌<◌, ◌∙◌, ℕ, Bool, true, None, List, length, slice_set, refl, ap}
use Rattle.std.specs.Option.{option_map}
use Rattle.mc_worker.specs.declared.worker.Next.{Next}
use Rattle.mc_worker.specs.declared.worker.Next.TheVariants as next
use Rattle.mc_worker.specs.declared.worker.Turn.{Turn}
use Rattle.mc_worker.specs.declared.worker.Turn.TheVariants.{Gave, Blocked, Nothing, Ended, Ran}
use Rattle.mc_worker.specs.WorkerState.{WorkerState, Goes, IsWellMarked}
use Rattle.mc_worker.specs.WorkerStateLaws.{goes_refl, goes_trans}
use Rattle.mc_worker.specs.Marks.{Marks}
use Rattle.mc_worker.specs.Serves.{ServesSeat}
use Rattle.mc_worker.specs.Turns.{Turned}
use Rattle.mc_worker.specs.internal.Serving.{RunsThen, ServesNext, marked_after}
use Rattle.mc_worker.proofs.Marking.{marks_gave, marks_none, marks_trans}
use Rattle.mc_worker.proofs.Scribing.{turned_sound}
use Rattle.mc_worker.proofs.Turning.{goes_turn, turned_gives, turned_grows, turned_keeps}

-- A turn of a sound worker goes on from what was run before.
turn_goes : (old : WorkerState) (seat : ℕ) (turn : Turn) (new : WorkerState) → IsWellMarked old
    → seat < length old.ends.channels → Turned old seat turn new → Goes old new
turn_goes old seat turn new sound within turned =
    goes_turn old seat turn new (turned_keeps old seat turn new sound within turned)
    (turned_grows old seat turn new sound within turned)

-- the turn that ran the piece
module _ (old : WorkerState) (seat : ℕ) (turn : Turn) (new : WorkerState) (sound : IsWellMarked old)
    (within : seat < length old.ends.channels) (runs : RunsThen old seat turn new) where
  between_sound : IsWellMarked runs.between
  between_sound = turned_sound old seat (Ran runs.ticket runs.part runs.moment) runs.between sound within runs.ran

  between_within : seat < length runs.between.ends.channels
  between_within =
      let same = turned_keeps old seat (Ran runs.ticket runs.part runs.moment) runs.between sound within runs.ran in
      rw same.count within

  between_goes : Goes old runs.between
  between_goes = turn_goes old seat (Ran runs.ticket runs.part runs.moment) runs.between sound within runs.ran

  after_goes : Goes runs.between new
  after_goes = turn_goes runs.between seat turn new between_sound between_within runs.turned

  both_go : Goes old new
  both_go = goes_trans old runs.between new between_goes after_goes

  between_marks : (marks : List Bool) → Marks old runs.between marks marks
  between_marks marks =
      marks_none old (Ran runs.ticket runs.part runs.moment) runs.between marks refl
      (turned_gives old seat (Ran runs.ticket runs.part runs.moment) runs.between sound within runs.ran)

  between_serves : ServesSeat old seat new
  between_serves = record {
    turn = Ran runs.ticket runs.part runs.moment;
    next = runs.between;
    turned = runs.ran;
    found = λ e. absurd (cc e);
    more = after_goes;
  }

-- It goes on from what was run before.
pub next_goes : (old : WorkerState) (seat : ℕ) (outcome : Next) (new : WorkerState) → IsWellMarked old
    → seat < length old.ends.channels → ServesNext old seat outcome new → Goes old new
next_goes old seat next.Nothing new sound within served = turn_goes old seat Nothing new sound within served
next_goes old seat next.Ended new sound within served = turn_goes old seat Ended new sound within served
next_goes old seat next.Sent new sound within served = both_go old seat Gave new sound within served
next_goes old seat next.Full new sound within served = both_go old seat Blocked new sound within served

-- The mark of the seat that was sent a reply.
pub next_marks : (old : WorkerState) (seat : ℕ) (outcome : Next) (new : WorkerState) (marks : List Bool)
    → IsWellMarked old → seat < length old.ends.channels → ServesNext old seat outcome new → seat < length marks
    → Marks old new marks (marked_after outcome seat marks)
next_marks old seat next.Nothing new marks sound within served known =
    marks_none old Nothing new marks refl (turned_gives old seat Nothing new sound within served)
next_marks old seat next.Ended new marks sound within served known =
    marks_none old Ended new marks refl (turned_gives old seat Ended new sound within served)
next_marks old seat next.Sent new marks sound within served known =
    let gives = turned_gives served.between seat Gave new (between_sound old seat Gave new sound within served)
    (between_within old seat Gave new sound within served) served.turned in
    marks_trans old served.between new marks marks (slice_set marks seat true)
    (between_marks old seat Gave new sound within served marks)
    (marks_gave served.between new seat marks gives
    (ap (λ (d : WorkerState). option_map (λ held. held.0) d.hand) served.ran.rest) known)
next_marks old seat next.Full new marks sound within served known =
    let gives = turned_gives served.between seat Blocked new (between_sound old seat Blocked new sound within served)
    (between_within old seat Blocked new sound within served) served.turned in
    marks_trans old served.between new marks marks marks
    (between_marks old seat Blocked new sound within served marks)
    (marks_none served.between Blocked new marks refl gives)

-- Something was served, unless nothing was there.
pub next_serves : (old : WorkerState) (seat : ℕ) (outcome : Next) (new : WorkerState) → IsWellMarked old
    → seat < length old.ends.channels → ServesNext old seat outcome new → outcome ≢ next.Nothing
    → ServesSeat old seat new
next_serves old seat next.Nothing new sound within served found = absurd (found refl)
next_serves old seat next.Ended new sound within served found =
    record { turn = Ended; next = new; turned = served; found = λ e. absurd (cc e); more = goes_refl new }
next_serves old seat next.Sent new sound within served found = between_serves old seat Gave new sound within served
next_serves old seat next.Full new sound within served found = between_serves old seat Blocked new sound within served

-- No reply is pending, unless the ring was full.
pub next_free : (old : WorkerState) (seat : ℕ) (outcome : Next) (new : WorkerState) → ServesNext old seat outcome new
    → outcome ≢ next.Full → new.hand ≡ None
next_free old seat next.Nothing new served room = ap (λ (d : WorkerState). d.hand) served.rest ∙ served.free
next_free old seat next.Ended new served room = ap (λ (d : WorkerState). d.hand) served.rest ∙ served.free
next_free old seat next.Sent new served room = ap (λ (d : WorkerState). d.hand) served.turned.rest
next_free old seat next.Full new served room = absurd (room refl)
