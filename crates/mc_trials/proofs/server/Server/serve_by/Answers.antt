-- The lines are of the history that was opened, and can be sent to other threads.
use denote.Param.Send.{sendable}
use Rattle.std.proofs.Crossing.{crosses}
use Rattle.mc_trials.proofs.server.Server.serve_by.Goals as goal

pub serve_over-requires-send-L : goal.serve_over-requires-send-L
serve_over-requires-send-L g c κs within = search (sendable, crosses) depth 20
