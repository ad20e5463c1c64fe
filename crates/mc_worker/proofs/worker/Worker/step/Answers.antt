use Rattle.std.proofs.Common.{◌≡◌, Some, refl, ap, sym, ◌∙◌}
use Rattle.std.specs.Option.{option_map}
use Rattle.mc_ring.specs.Reply.{shown}
use Rattle.mc_worker.specs.declared.worker.Pending.{Pending}
use Rattle.mc_store.specs.Shard.{held_of}
use Rattle.mc_worker.specs.declared.worker.Turn.TheVariants.{Gave, Blocked}
use Rattle.mc_worker.specs.WorkerState.{WorkerState, IsWellMarked}
use Rattle.mc_worker.specs.Scribe.{IsRecorded}
use Rattle.mc_worker.specs.Turns.{Turned}
use Rattle.mc_worker.proofs.WorkerStates.{full_channel, held_within}
use Rattle.mc_worker.proofs.Scribing.{held_next, turn_kept}
use Rattle.mc_worker.proofs.Turning.{turned_grows}
use Rattle.mc_worker.proofs.worker.Worker.step.Goals as goal

pub give_with-requires-clause-seat : goal.give_with-requires-clause-seat
give_with-requires-clause-seat g c =
    let held = c.in-Some.field-0 in
    let inside : c.self.inside.pending ≡ Some held = sym c.take.ensures.value ∙ c.in-Some.is in
    held_within _ held.seat (shown held.reply) c.self.invariant.0
    (ap (option_map (λ (pending : Pending). (pending.seat, shown pending.reply))) inside)

pub give_with-requires-clause-may : goal.give_with-requires-clause-may
give_with-requires-clause-may g c =
    let held = c.in-Some.field-0 in
    let inside : c.self.inside.pending ≡ Some held = sym c.take.ensures.value ∙ c.in-Some.is in
    λ end here. c.token-token.ensures.shows held.seat end.past.channel.route end.past.sent (shown held.reply) (λ keeps.
    let was = c.self.invariant.1 keeps in (
      was.routes.each held.seat end here,
      held_next _ _ _ held.seat (shown held.reply) end was.ran
          (ap (option_map (λ (pending : Pending). (pending.seat, shown pending.reply))) inside) here,
    ))

pub invariant_of-self-in-Ok : goal.invariant_of-self-in-Ok
invariant_of-self-in-Ok g c =
    let held = c.in-Some.field-0 in
    let inside : c.self.inside.pending ≡ Some held = sym c.take.ensures.value ∙ c.in-Some.is in
    let old = c.args.self.now in
    let new : WorkerState = record {
      shard = held_of c.self.inside.shard;
      ends = c.give_with.new.self;
      hand = option_map (λ (pending : Pending). (pending.seat, shown pending.reply)) c.take.new.self;
      live = c.self.inside.live.items;
    } in
    let sound : IsWellMarked old = rw (← c.self.view_is) c.self.invariant.0 in
    let turned : Turned old c.args.seat Gave new = rw (← c.self.view_is) (record {
      seat = held.seat;
      reply = held.reply;
      held = rw inside refl;
      channel = c.in-Ok.ensures.channel;
      rest = rw c.take.ensures.after refl;
    }) in
    let was : g.S.Scribe.keeps c.self.inside.scribe
    → IsRecorded (g.S.Scribe.route c.self.inside.scribe) (g.S.Scribe.begin c.self.inside.scribe)
    (g.S.Scribe.log c.self.inside.scribe) old = rw (← c.self.view_is) c.self.invariant.1 in
    let token = c.token-token.ensures in
    turn_kept _ _ _ _ _ _ _ _ old c.args.seat Gave new token.keeps token.route token.begin token.same sound
    c.requires turned (turned_grows old c.args.seat Gave new sound c.requires turned) was

pub invariant_of-self-in-Err : goal.invariant_of-self-in-Err
invariant_of-self-in-Err g c =
    let held = c.in-Some.field-0 in
    let inside : c.self.inside.pending ≡ Some held = sym c.take.ensures.value ∙ c.in-Some.is in
    let old = c.args.self.now in
    let new : WorkerState = record {
      shard = held_of c.self.inside.shard;
      ends = c.give_with.new.self;
      hand = Some (held.seat, shown c.in-Err.reply);
      live = c.self.inside.live.items;
    } in
    let sound : IsWellMarked old = rw (← c.self.view_is) c.self.invariant.0 in
    let turned : Turned old c.args.seat Blocked new = rw (← c.self.view_is) (record {
      seat = held.seat;
      reply = shown held.reply;
      held = rw inside refl;
      channel =
          full_channel held.reply c.in-Err.reply held.seat c.self.inside.ends c.give_with.new.self
          c.in-Err.ensures.channel;
      rest = rw (inside, c.in-Err.ensures.channel.said.back.0) refl;
    }) in
    let was : g.S.Scribe.keeps c.self.inside.scribe
    → IsRecorded (g.S.Scribe.route c.self.inside.scribe) (g.S.Scribe.begin c.self.inside.scribe)
    (g.S.Scribe.log c.self.inside.scribe) old = rw (← c.self.view_is) c.self.invariant.1 in
    let token = c.token-token.ensures in
    turn_kept _ _ _ _ _ _ _ _ old c.args.seat Blocked new token.keeps token.route token.begin token.same sound
    c.requires turned (turned_grows old c.args.seat Blocked new sound c.requires turned) was

pub returns-in-Ok : goal.returns-in-Ok
returns-in-Ok g c =
    let held = c.in-Some.field-0 in
    let inside : c.self.inside.pending ≡ Some held = sym c.take.ensures.value ∙ c.in-Some.is in
    rw (← c.self.view_is) (record {
      seat = held.seat;
      reply = held.reply;
      held = rw inside refl;
      channel = c.in-Ok.ensures.channel;
      rest = rw c.take.ensures.after refl;
    })

pub returns-in-Err : goal.returns-in-Err
returns-in-Err g c =
    let held = c.in-Some.field-0 in
    let inside : c.self.inside.pending ≡ Some held = sym c.take.ensures.value ∙ c.in-Some.is in
    rw (← c.self.view_is) (record {
      seat = held.seat;
      reply = shown held.reply;
      held = rw inside refl;
      channel =
          full_channel held.reply c.in-Err.reply held.seat c.self.inside.ends c.give_with.new.self
          c.in-Err.ensures.channel;
      rest = rw (inside, c.in-Err.ensures.channel.said.back.0) refl;
    })
