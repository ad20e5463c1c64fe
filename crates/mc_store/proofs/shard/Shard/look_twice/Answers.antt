-- Where no turn waits, nothing is looked at.
use Rattle.std.proofs.Common.{◌≡◌, [], deque_len, sym, ◌∙◌}
use Rattle.std.proofs.lemmas.Bool.{eqb-true}
use Rattle.mc_store.specs.Shard.{IsShard, held_of}
use Rattle.mc_store.proofs.Turns.{none_long, two_looks_none}
use Rattle.mc_store.proofs.shard.Shard.look_twice.Goals as goal

pub returns-then-is_empty-clause-looked : goal.returns-then-is_empty-clause-looked
unfolding IsShard
returns-then-is_empty-clause-looked c = λ state h.
    let turns = c.args.self.now.turns in
    let none : turns.items ≡ [] =
    none_long turns.items
    (sym turns.ok.0 ∙ eqb-true (deque_len turns) 0 (sym c.is_empty.ensures ∙ c.if-is_empty.true)) in
    two_looks_none (held_of c.args.self.now) state c.args.entering h none
