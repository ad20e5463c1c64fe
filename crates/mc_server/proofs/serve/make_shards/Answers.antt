use Rattle.std.proofs.Common.{◌≡◌, ◌+◌, ◌∷◌, [], ap, length, length-append, arith}
use Rattle.mc_server.proofs.Backing.{Backs-none, Backs-new}
use Rattle.mc_server.proofs.serve.make_shards.Goals as goal

pub loop-index-init : goal.loop-index-init
loop-index-init g c =
    (ap length c.in_ok-shards.ensures.items, rw c.in_ok-shards.ensures.items (Backs-none c.args.sizes))

pub loop-index-preserved : goal.loop-index-preserved
loop-index-preserved g c =
    let shards = c.loop-index.shards.items in
    let count = c.loop-index.invariant.0 in
    let items = c.in_ok-push-in-Ok.ensures.items in
    let longer : length c.push.new.self.items ≡ c.loop-index.index + 1 =
    omega (arith, ap length items, length-append shards (c.in-Ok.shard ∷ [])) in
    (longer, rw items (Backs-new c.args.sizes shards c.in-Ok.shard c.loop-index.invariant.1 (rw count c.in-Ok.ensures)))
