use Rattle.std.proofs.Common.{ap, refl, ◌∙◌}
use Rattle.mc_reply.specs.declared.pending_reply.PendingReply.{PendingReply}
use Rattle.mc_fast.specs.FastCommand.{meta_get_of}
use Rattle.mc_command.specs.declared.command.Command.TheVariants.{Refused}
use Rattle.mc_command.specs.declared.error.CommandError.TheVariants.{Memory}
use Rattle.mc_conn.specs.internal.Dispatcher.{refusal_of}
use Rattle.mc_conn.proofs.Dispatching.{plans_queued}
use Rattle.mc_conn.proofs.GivenUp.{plans_refusal}
use Rattle.mc_conn.proofs.dispatcher.DispatcherCommandSink.meta_get_value.Goals as goal

pub open-requires-clause-number : goal.open-requires-clause-number
open-requires-clause-number c =
    ap (λ (pending_reply : PendingReply). pending_reply.ticket.0)
    (c.pending_reply_of_meta_get_value.ensures c.args.self.now.planner.shards c.args.key.now) ∙ c.requires.can.number

pub returns-in-Ok : goal.returns-in-Ok
returns-in-Ok c =
    let dispatcher = c.args.self.now in
    let asked = meta_get_of c.args.profile c.args.key.now in
    record {
      pending_reply = c.pending_reply_of_meta_get_value.result;
      carried = asked;
      plan =
          rw c.open.ensures.unsent
          (plans_queued dispatcher.planner.shards dispatcher.planner.ticket dispatcher.planner.moment asked
          c.pending_reply_of_meta_get_value.result dispatcher.unsent.items _
          (c.pending_reply_of_meta_get_value.ensures dispatcher.planner.shards c.args.key.now)
          (c.in-Ok.ensures c.args.profile).pieces);
      reorder_buffer = c.open.ensures.reorder_buffer;
      joins = c.open.ensures.joins;
      shards = c.open.ensures.shards;
      noted = c.open.ensures.noted;
      log_is = c.open.ensures.log_is ∙ c.and-self.ensures;
    }

pub returns-in-Err : goal.returns-in-Err
returns-in-Err c =
    let dispatcher = c.args.self.now in
    let asked = meta_get_of c.args.profile c.args.key.now in
    record {
      pending_reply = refusal_of dispatcher;
      carried = Refused Memory;
      plan =
          rw c.open_refusal.ensures.unsent
          (plans_refusal dispatcher.planner.shards dispatcher.planner.ticket dispatcher.planner.moment asked
          (refusal_of dispatcher) dispatcher.unsent.items _ (c.in-Err.ensures c.args.profile).gives_up refl
          (c.in-Err.ensures c.args.profile).unchanged);
      reorder_buffer = c.open_refusal.ensures.reorder_buffer;
      joins = c.open_refusal.ensures.joins;
      shards = c.open_refusal.ensures.shards;
      noted = c.open_refusal.ensures.noted;
      log_is = c.open_refusal.ensures.log_is;
    }
