-- The limit is that of all shards together.
use Rattle.mc_reply.proofs.stats.put_traffic.Goals as goal

pub returns : goal.returns
returns g c = rw c.sum_of-limit.ensures at c.put_numbers.ensures
