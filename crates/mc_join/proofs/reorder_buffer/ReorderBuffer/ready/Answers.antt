use Rattle.mc_join.proofs.Joins.{due_unhanded}
use Rattle.mc_join.proofs.reorder_buffer.ReorderBuffer.ready.Goals as goal

pub returns-clause-turn : goal.returns-clause-turn
returns-clause-turn c = λ opened accepted handed there. due_unhanded c.args.self.now there opened accepted handed
