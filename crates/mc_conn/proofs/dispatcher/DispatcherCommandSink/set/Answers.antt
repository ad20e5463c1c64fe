use Rattle.std.proofs.Common.{refl, rules, ap, ◌∙◌}
use Rattle.std.proofs.lemmas.Int.{to_z-of_z}
use mir.Val.{SFits}
use mir.Syntax.{w64}
use Rattle.mc_fast.specs.FastCommand.{set_of}
use Rattle.mc_reply.specs.declared.pending_reply.PendingReply.{PendingReply}
use Rattle.mc_command.specs.declared.command.Command.TheVariants.{Refused}
use Rattle.mc_command.specs.declared.error.CommandError.TheVariants.{Memory}
use Rattle.mc_conn.specs.internal.Dispatcher.{refusal_of}
use Rattle.mc_conn.proofs.Dispatching.{plans_queued}
use Rattle.mc_conn.proofs.GivenUp.{plans_refusal}
use Rattle.mc_conn.proofs.dispatcher.DispatcherCommandSink.set.Goals as goal

pub returns-in-Ok : goal.returns-in-Ok
returns-in-Ok c =
    let dispatcher = c.args.self.now in
    let asked = set_of c.args.key.now c.args.flags c.args.exptime c.args.noreply c.args.block.now in
    let fits : SFits w64 c.args.exptime = search rules in
    record {
      pending_reply = c.pending_reply_of_set.result;
      carried = asked;
      plan =
          rw c.open.ensures.unsent
          (plans_queued dispatcher.planner.shards dispatcher.planner.ticket dispatcher.planner.moment asked
          c.pending_reply_of_set.result dispatcher.unsent.items _
          (c.pending_reply_of_set.ensures dispatcher.planner.shards c.args.key.now c.args.flags c.args.exptime
          c.args.block.now) (rw (to_z-of_z w64 c.args.exptime fits) at (c.in-Ok.ensures c.args.noreply)).pieces);
      reorder_buffer = c.open.ensures.reorder_buffer;
      joins = c.open.ensures.joins;
      shards = c.open.ensures.shards;
      noted = c.open.ensures.noted;
      log_is = c.open.ensures.log_is ∙ rw (to_z-of_z w64 c.args.exptime fits) at c.and-self.ensures;
    }

pub returns-in-Err : goal.returns-in-Err
returns-in-Err c =
    let dispatcher = c.args.self.now in
    let asked = set_of c.args.key.now c.args.flags c.args.exptime c.args.noreply c.args.block.now in
    let fits : SFits w64 c.args.exptime = search rules in
    record {
      pending_reply = refusal_of dispatcher;
      carried = Refused Memory;
      plan =
          rw c.open_refusal.ensures.unsent
          (plans_refusal dispatcher.planner.shards dispatcher.planner.ticket dispatcher.planner.moment asked
          (refusal_of dispatcher) dispatcher.unsent.items _
          (rw (to_z-of_z w64 c.args.exptime fits) at (c.in-Err.ensures c.args.noreply)).gives_up refl
          (rw (to_z-of_z w64 c.args.exptime fits) at (c.in-Err.ensures c.args.noreply)).unchanged);
      reorder_buffer = c.open_refusal.ensures.reorder_buffer;
      joins = c.open_refusal.ensures.joins;
      shards = c.open_refusal.ensures.shards;
      noted = c.open_refusal.ensures.noted;
      log_is = c.open_refusal.ensures.log_is;
    }

pub open-requires-clause-number : goal.open-requires-clause-number
open-requires-clause-number c =
    ap (λ (pending_reply : PendingReply). pending_reply.ticket.0)
    (c.pending_reply_of_set.ensures c.args.self.now.planner.shards c.args.key.now c.args.flags c.args.exptime
    c.args.block.now) ∙ c.requires.can.number
