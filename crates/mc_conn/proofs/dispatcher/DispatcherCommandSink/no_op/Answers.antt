use Rattle.std.proofs.Common.{refl, ◌∙◌}
use Rattle.mc_command.specs.declared.command.Command.TheVariants.{MetaNoop}
use Rattle.mc_conn.proofs.Dispatching.{plans_no_op}
use Rattle.mc_conn.proofs.dispatcher.DispatcherCommandSink.no_op.Goals as goal

pub returns : goal.returns
returns c =
    let dispatcher = c.args.self.now in
    record {
      pending_reply = c.split_no_op-pending_reply.result;
      carried = MetaNoop;
      plan =
          rw c.open.ensures.unsent
          (plans_no_op dispatcher.planner.shards dispatcher.planner.ticket dispatcher.planner.moment
          c.split_no_op-pending_reply.result dispatcher.unsent.items dispatcher.unsent.items
          c.split_no_op-pending_reply.ensures refl);
      reorder_buffer = c.open.ensures.reorder_buffer;
      joins = c.open.ensures.joins;
      shards = c.open.ensures.shards;
      noted = c.open.ensures.noted;
      log_is = c.open.ensures.log_is ∙ c.and-self.ensures;
    }
