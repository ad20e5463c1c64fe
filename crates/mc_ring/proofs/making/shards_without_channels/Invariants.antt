use Rattle.mc_ring.proofs.ChannelLoops.{NewShards}
use Rattle.mc_ring.proofs.making.shards_without_channels.Given as goal

abbrev pub invariant-loop-number : goal.invariant-loop-number
invariant-loop-number g l = NewShards l.number l.far.items
