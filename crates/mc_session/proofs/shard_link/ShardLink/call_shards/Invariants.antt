-- The shards before this one were called, as far as replies of them are awaited.
use Rattle.std.proofs.Common.{◌≡◌, length}
use Rattle.mc_session.proofs.Calling.{AreCalledBelow}
use Rattle.mc_session.proofs.shard_link.ShardLink.call_shards.Given as goal

abbrev pub invariant-loop-shard : goal.invariant-loop-shard
invariant-loop-shard g l = record {
  called : AreCalledBelow l.shard l.self.shards l.fn.self.under_way.items;
  uncalled : l.self.uncalled ≡ l.fn.self.uncalled;
  ends : l.self.ends ≡ l.fn.self.ends;
  clerk : l.self.clerk ≡ l.fn.self.clerk;
  under_way : l.self.under_way ≡ l.fn.self.under_way;
  blocked : l.self.blocked ≡ l.fn.self.blocked;
  places : l.self.places ≡ l.fn.self.places;
  last : l.shard-end ≡ length l.fn.self.under_way.items;
}
