-- The clerk has shown what it recorded.
use Rattle.mc_session.proofs.shard_link.ShardLink.evidence.Goals as goal

pub invariant_of-self-clause-routed : goal.invariant_of-self-clause-routed
invariant_of-self-clause-routed g c keeps = rw c.evidence.ensures.same (c.args.self.now.routed keeps)
