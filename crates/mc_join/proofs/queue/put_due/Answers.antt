use Rattle.mc_join.specs.Replies.{answers_of}
use Rattle.mc_join.proofs.Answered.{due_slots}
use Rattle.mc_join.proofs.queue.put_due.Goals as goal

pub returns : goal.returns
returns g c =
    c.put_reply.ensures (answers_of c.args.pending_reply.now.slots) (due_slots c.args.pending_reply.now c.requires)
