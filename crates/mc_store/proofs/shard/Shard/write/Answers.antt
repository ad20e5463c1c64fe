-- What is written has the client's unique or the next one, where the items took it; else nothing but a dead item is
-- removed.
use Rattle.std.proofs.Common.{Some, refl}
use Rattle.mc_store.specs.State.{first, evicting, without_dead, entered}
use Rattle.mc_store.specs.Step.{numbered}
use Rattle.mc_store.specs.Shard.{IsShard, Keeps, held_of}
use Rattle.mc_store.proofs.Shards.{giving}
use Rattle.mc_store.proofs.Writes.{write_refused, write_refused_memory, write_placed, write_done}
use Rattle.mc_store.proofs.shard.Shard.write.Goals as goal

pub returns-in_default : goal.returns-in_default
unfolding IsShard
returns-in_default c =
    λ reply state h. write_refused (held_of c.args.self.now) state c.args.key (held_of c.remove_dead.new.self)
    c.args.token (λ unique after.
    (reply unique, entered after c.args.token c.args.key (record c.args.item { unique = unique }))) h
    c.in_default.ensures.unique (c.remove_dead.ensures state h)

pub returns : goal.returns
unfolding IsShard
returns c = λ reply state h.
    let held = held_of c.args.self.now in
    let item = record c.args.item { unique = c.in-Some.unique } in
    let put = evicting (first (giving c.args.token state) c.args.key item) c.args.key in
    let placed = write_placed held state c.args.key c.args.item c.args.token c.in-Some.unique h
    c.in_default-put.ensures.small in
    let shown : Keeps (held_of c.count_given.new.self) put =
    rw (c.count_given.ensures.held, c.in_default-put.ensures.put, c.in-Ok.ensures.turns) placed in
    write_done held state c.args.key c.args.item c.args.token c.in-Some.unique reply (held_of c.take_turns.new.self) h
    c.in-Some.ensures.unique
    (c.take_turns.ensures put c.args.token c.args.key item shown c.in-Ok.ensures.turn refl)

pub returns-in_default-make_turn : goal.returns-in_default-make_turn
unfolding IsShard
returns-in_default-make_turn c = λ reply state h.
    write_refused_memory (without_dead state (Some c.args.key))
    (numbered _ c.args.token
    (λ unique after. (reply unique, entered after c.args.token c.args.key (record c.args.item { unique = unique }))))
    (held_of c.remove_dead-in_default-make_turn.new.self)
    (c.remove_dead-in_default-make_turn.ensures state (rw c.in_default-make_turn.ensures.turns h))

pub returns-in-Err : goal.returns-in-Err
unfolding IsShard
returns-in-Err c = λ reply state h.
    write_refused_memory (without_dead state (Some c.args.key))
    (numbered _ c.args.token
    (λ unique after. (reply unique, entered after c.args.token c.args.key (record c.args.item { unique = unique }))))
    (held_of c.remove_dead-in-Err.new.self)
    (rw c.in-Err.ensures.key at
    (c.remove_dead-in-Err.ensures state (rw (c.in-Err.ensures.err, c.in-Ok.ensures.turns) h)))

pub put-requires : goal.put-requires
put-requires c = record { time = c.args.self.now.timely; fits = c.requires.fits }

pub invariant_of-self : goal.invariant_of-self
invariant_of-self c =
    record { limited = c.args.self.now.limited; timely = c.args.self.now.timely; place = c.args.self.now.place }

pub count_given-requires : goal.count_given-requires
count_given-requires c = λ none. c.in-Some.ensures.room refl none
