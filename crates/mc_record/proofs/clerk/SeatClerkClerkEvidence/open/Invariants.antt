use Rattle.mc_history.specs.declared.event.Event.TheVariants.{Opened}
use Rattle.mc_history.specs.Roles.{seat_of}
use Rattle.mc_record.proofs.clerk.SeatClerkClerkEvidence.open.Given as goal

-- that a connection is opened on the seat
abbrev pub ghost-add : goal.ghost-add
ghost-add a = Opened (seat_of a.self.now.role)
