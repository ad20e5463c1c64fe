use Rattle.std.proofs.Common.{map}
use Rattle.mc_history.specs.Roles.{seat_of}
use Rattle.mc_history.specs.Worlds.{took}
use Rattle.mc_history.proofs.actor.Actor.take_all.Given as goal

-- the commands that are added
abbrev pub ghosts-note : goal.ghosts-note
ghosts-note g a = record { events = map (took (seat_of a.seat.now.me.0.role) g.takes.0) g.takes.1 }
