-- As many empty slots as rounds.
use Rattle.std.proofs.Common.{◌≡◌, replicate, None}
use Rattle.mc_reply.proofs.pending_reply.Slots.empty.Given as goal

abbrev pub invariant-loop : goal.invariant-loop
invariant-loop l = l.answers.items ≡ replicate l.counter None
