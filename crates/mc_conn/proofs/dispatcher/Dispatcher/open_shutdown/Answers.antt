use Rattle.std.proofs.Common.{refl, ◌∙◌}
use Rattle.mc_command.specs.declared.command.Command.TheVariants as command
use Rattle.mc_conn.specs.internal.Dispatcher.{split_or_refused}
use Rattle.mc_conn.proofs.Dispatching.{plans_split}
use Rattle.mc_conn.proofs.dispatcher.Dispatcher.open_shutdown.Goals as goal

-- It takes no memory.
pub unreachable-requires : goal.unreachable-requires
unreachable-requires c = absurd (cc c.in_default.ensures.gives_up)

pub returns : goal.returns
returns c =
    let dispatcher = c.args.self.now in
    record {
      pending_reply = c.in-Ok.pending_reply;
      carried = split_or_refused command.Shutdown c.split_into.result;
      plan =
          rw c.open.ensures.unsent
          (plans_split dispatcher.planner command.Shutdown c.split_into.result c.in-Ok.pending_reply
          dispatcher.unsent.items c.split_into.new.queue.items c.split_into.ensures (rw c.in-Ok.is refl));
      reorder_buffer = c.open.ensures.reorder_buffer;
      joins = c.open.ensures.joins;
      shards = c.open.ensures.shards;
      noted = c.open.ensures.noted;
      log_is = rw c.in-Ok.is (c.open.ensures.log_is ∙ c.and_shutdown-self.ensures);
    }
