use Rattle.std.proofs.Common.{length, drop}
use Rattle.mc_conn.specs.Conn.{taken_by}
use Rattle.mc_record.specs.Clerk.{connection_of, taken_now}
use Rattle.mc_record.proofs.clerk.SeatClerkClerkEvidence.take_all.Given as goal

-- the seat's last connection, and the commands that it took beyond what is recorded
abbrev pub ghost-take_all : goal.ghost-take_all
ghost-take_all a = (connection_of a.self.now, drop (length (taken_now a.self.now)) (taken_by a.about.now))
