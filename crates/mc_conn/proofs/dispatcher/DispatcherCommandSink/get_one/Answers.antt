use Rattle.std.proofs.Common.{[], ◌∷◌, refl, ap, ◌∙◌}
use Rattle.mc_fast.specs.FastCommand.{get_of}
use Rattle.mc_split.specs.Plan.{pending_reply_of}
use Rattle.mc_command.specs.declared.command.Command.TheVariants.{Refused}
use Rattle.mc_command.specs.declared.error.CommandError.TheVariants.{Memory}
use Rattle.mc_conn.specs.internal.Dispatcher.{refusal_of}
use Rattle.mc_conn.proofs.Dispatching.{plans_queued}
use Rattle.mc_conn.proofs.GivenUp.{plans_refusal}
use Rattle.mc_conn.proofs.dispatcher.DispatcherCommandSink.get_one.Goals as goal

pub returns-in-Ok : goal.returns-in-Ok
returns-in-Ok c =
    let dispatcher = c.args.self.now in
    let asked = get_of (c.args.key.now ∷ []) c.args.with_unique in
    record {
      pending_reply = c.pending_reply_of_get_one.result;
      carried = asked;
      plan =
          rw c.open.ensures.unsent
          (plans_queued dispatcher.planner.shards dispatcher.planner.ticket dispatcher.planner.moment asked
          c.pending_reply_of_get_one.result dispatcher.unsent.items _
          (c.pending_reply_of_get_one.ensures dispatcher.planner.shards
          ∙ ap (λ key. pending_reply_of dispatcher.planner.shards dispatcher.planner.ticket
          (get_of (key ∷ []) c.args.with_unique)) c.in-Ok.ensures.shown) (c.in-Ok.ensures.queues
          c.args.with_unique).pieces);
      reorder_buffer = c.open.ensures.reorder_buffer;
      joins = c.open.ensures.joins;
      shards = c.open.ensures.shards;
      noted = c.open.ensures.noted;
      log_is = c.open.ensures.log_is ∙ c.and-self.ensures;
    }

pub returns-in-Err : goal.returns-in-Err
returns-in-Err c =
    let dispatcher = c.args.self.now in
    let asked = get_of (c.args.key.now ∷ []) c.args.with_unique in
    record {
      pending_reply = refusal_of dispatcher;
      carried = Refused Memory;
      plan =
          rw c.open_refusal.ensures.unsent
          (plans_refusal dispatcher.planner.shards dispatcher.planner.ticket dispatcher.planner.moment asked
          (refusal_of dispatcher) dispatcher.unsent.items _ (c.in-Err.ensures.queues c.args.with_unique).gives_up refl
          (c.in-Err.ensures.queues c.args.with_unique).unchanged);
      reorder_buffer = c.open_refusal.ensures.reorder_buffer;
      joins = c.open_refusal.ensures.joins;
      shards = c.open_refusal.ensures.shards;
      noted = c.open_refusal.ensures.noted;
      log_is = c.open_refusal.ensures.log_is;
    }
