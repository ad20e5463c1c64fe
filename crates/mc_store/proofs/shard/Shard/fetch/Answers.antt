use Rattle.std.proofs.Common.{◌≡◌, Some, None, sym, ◌∙◌}
use Rattle.std.specs.Map.{lookup}
use Rattle.mc_wire.specs.SameKey.{same_key}
use Rattle.mc_item.specs.Kind.{key_of}
use Rattle.mc_store.specs.internal.Found.{live}
use Rattle.mc_store.specs.Shard.{IsShard, held_of}
use Rattle.mc_store.proofs.Gets.{fetch_miss, fetch_lacks, fetch_hit}
use Rattle.mc_store.proofs.shard.Shard.fetch.Goals as goal

pub returns-in_default-clause-acts : goal.returns-in_default-clause-acts
unfolding IsShard key_of
returns-in_default-clause-acts c = λ state h.
    let alive = rw c.access-access.ensures at c.in_default.ensures.alive in
    rw c.in_default.ensures.err (fetch_lacks (held_of c.args.self.now) state c.args.key.now c.args.touch h alive)

pub returns-in-None-clause-acts : goal.returns-in-None-clause-acts
unfolding IsShard key_of
returns-in-None-clause-acts c = λ state h.
    let none : None ≡ live c.args.self.now.time (lookup (same_key c.args.key.now) c.args.self.now.items.entries) =
    sym c.in-None.is ∙ rw c.access-access.ensures at c.in-Ok.ensures.item in
    rw (c.in-Ok.ensures.read, c.access-access.ensures, ← none)
    (fetch_miss (held_of c.args.self.now) state c.args.key.now c.args.touch h none)

pub returns-in-Some-clause-acts : goal.returns-in-Some-clause-acts
unfolding IsShard key_of
returns-in-Some-clause-acts c = λ state h.
    let there : Some c.in-Some.item
    ≡ live c.args.self.now.time (lookup (same_key c.args.key.now) c.args.self.now.items.entries) =
    sym c.in-Some.is ∙ rw c.access-access.ensures at c.in-Ok.ensures.item in
    rw (c.fetched.ensures, c.in-Ok.ensures.read, c.access-access.ensures, ← there)
    (fetch_hit (held_of c.args.self.now) state c.args.key.now c.args.touch c.in-Some.item h there)
