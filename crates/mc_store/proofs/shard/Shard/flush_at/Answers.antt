use Rattle.std.proofs.Common.{w64}
use Rattle.std.proofs.lemmas.Int.{to_z-of_z}
use Rattle.mc_item.specs.Kind.{key_of}
use Rattle.mc_store.specs.Shard.{IsShard, held_of}
use Rattle.mc_store.proofs.Deletes.{flush_later, flush_now}
use Rattle.mc_store.proofs.shard.Shard.flush_at.Goals as goal

pub returns-in_default-clause-acts : goal.returns-in_default-clause-acts
unfolding IsShard key_of
returns-in_default-clause-acts c = λ state h.
    flush_now (held_of c.args.self.now) state c.args.delay (held_of c.remove_all.new.self) h
    (rw (to_z-of_z w64 c.args.delay c.ranges.delay) at c.in_default.ensures) (c.remove_all.ensures state h)

pub returns-clause-acts : goal.returns-clause-acts
unfolding IsShard key_of
returns-clause-acts c = λ state h.
    flush_later (held_of c.args.self.now) state c.args.delay c.in-Some.second h
    (rw (to_z-of_z w64 c.args.delay c.ranges.delay) at c.in-Some.ensures)
