use Rattle.std.proofs.Common.{◌≡◌, length, []}
use Rattle.mc_server.specs.internal.Answering.{Backs}
use Rattle.mc_server.proofs.serve.make_shards.Given as goal

abbrev pub invariant-loop-index : goal.invariant-loop-index
invariant-loop-index g l = (length l.shards.items ≡ l.index) × Backs l.sizes l.shards.items []
