-- Two looks, and then the turn of the item that entered.
use Rattle.std.proofs.Common.{sym, ◌∙◌}
use Rattle.mc_store.specs.State.{looked}
use Rattle.mc_store.specs.Shard.{IsShard, held_of}
use Rattle.mc_store.proofs.Turns.{no_turn_waits, turn_waits}
use Rattle.mc_store.proofs.shard.Shard.take_turns.Goals as goal

pub returns-in-Some : goal.returns-in-Some
unfolding IsShard
returns-in-Some c = λ state token key item h is same.
    let shown = c.look_twice.ensures.looked state h in
    rw c.push_back_reserved.ensures.items
    (turn_waits (held_of c.look_twice.new.self) (looked c.args.unique (looked c.args.unique state)) token key
    c.in-Some.own item c.args.unique shown (sym c.in-Some.is ∙ is) same)

pub returns-in_default : goal.returns-in_default
unfolding IsShard
returns-in_default c = λ state token key item h is same.
    let shown = c.look_twice.ensures.looked state h in
    no_turn_waits (held_of c.look_twice.new.self) (looked c.args.unique (looked c.args.unique state)) token key item
    shown (sym c.in_default.is ∙ is)
