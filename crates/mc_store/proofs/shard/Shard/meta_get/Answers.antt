use Rattle.std.proofs.Common.{◌≡◌, Some, None, sym, ◌∙◌}
use Rattle.std.specs.Map.{lookup}
use Rattle.mc_wire.specs.SameKey.{same_key}
use Rattle.mc_item.specs.Kind.{key_of}
use Rattle.mc_store.specs.internal.Found.{live}
use Rattle.mc_store.specs.Shard.{IsShard, held_of}
use Rattle.mc_store.specs.State.{without_dead}
use Rattle.mc_store.proofs.Changes.{settled_gone}
use Rattle.mc_store.proofs.Gets.{meta_get_absent, meta_get_lacks, meta_get_hit}
use Rattle.mc_store.proofs.shard.Shard.meta_get.Goals as goal

pub returns-in_default-clause-acts : goal.returns-in_default-clause-acts
unfolding IsShard key_of
returns-in_default-clause-acts c = λ state h.
    let alive = rw c.access-access.ensures at c.in_default.ensures.alive in
    rw c.in_default.ensures.err (meta_get_lacks (held_of c.args.self.now) state c.args.asked h alive)

pub returns-in-None-clause-acts : goal.returns-in-None-clause-acts
unfolding IsShard key_of
returns-in-None-clause-acts c = λ state h.
    let none : None ≡ live c.args.self.now.time (lookup (same_key c.args.asked.key) c.args.self.now.items.entries) =
    sym c.in-None.is ∙ rw c.access-access.ensures at c.in-Ok.ensures.item in
    let settled = without_dead state (Some c.args.asked.key) in
    meta_get_absent (held_of c.args.self.now) state c.args.asked c.meta_get_absent.result
    (held_of c.meta_get_absent.new.self) h none
    (c.meta_get_absent.ensures.does settled
    (rw (c.in-Ok.ensures.read, c.access-access.ensures, ← none)
    (settled_gone (held_of c.args.self.now) state c.args.asked.key h none)))

pub returns-in-Some-clause-acts : goal.returns-in-Some-clause-acts
unfolding IsShard key_of
returns-in-Some-clause-acts c = λ state h.
    let there : Some c.in-Some.item
    ≡ live c.args.self.now.time (lookup (same_key c.args.asked.key) c.args.self.now.items.entries) =
    sym c.in-Some.is ∙ rw c.access-access.ensures at c.in-Ok.ensures.item in
    rw (c.shown.ensures, c.in-Ok.ensures.read, c.access-access.ensures, ← there)
    (meta_get_hit (held_of c.args.self.now) state c.args.asked c.in-Some.item c.if-asked.false h there)
