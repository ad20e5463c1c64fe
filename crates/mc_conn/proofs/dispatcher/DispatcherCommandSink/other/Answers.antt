use Rattle.std.proofs.Common.{◌≡◌, false, sym, ◌∙◌}
use Rattle.mc_command.specs.declared.command.Command.TheVariants as command
use Rattle.mc_reply.specs.Server.{shows_server}
use Rattle.mc_conn.specs.internal.Dispatcher.{OpensPendingReply, split_or_refused}
use Rattle.mc_conn.proofs.Dispatching.{plans_split}
use Rattle.mc_conn.proofs.Shutdown.{shutdown_is}
use Rattle.mc_conn.proofs.dispatcher.DispatcherCommandSink.other.Goals as goal

pub noted-asked-requires : goal.noted-asked-requires
noted-asked-requires c = sym c.is_shutdown.ensures ∙ c.if-is_shutdown.false

pub returns-then-is_shutdown : goal.returns-then-is_shutdown
returns-then-is_shutdown c =
    let is : c.args.command ≡ command.Shutdown =
    shutdown_is c.args.command (sym c.is_shutdown.ensures ∙ c.if-is_shutdown.true) in
    rw is c.open_shutdown.ensures

pub returns : goal.returns
returns c =
    let dispatcher = c.args.self.now in
    let split = c.open_split.ensures in
    let plain : shows_server c.args.command ≡ false = sym c.is_stats.ensures ∙ c.if-is_stats.false in
    let opens : OpensPendingReply dispatcher c.args.command c.open_split.new.self = record {
      pending_reply = split.pending_reply;
      carried = split_or_refused c.args.command c.split_into-split.result;
      plan =
          rw split.opens.unsent (plans_split dispatcher.planner c.args.command c.split_into-split.result
          split.pending_reply dispatcher.unsent.items c.split_into-split.new.queue.items
          c.split_into-split.ensures split.pending_reply_is);
      reorder_buffer = split.opens.reorder_buffer;
      joins = split.opens.joins;
      shards = split.opens.shards;
      noted = split.opens.noted;
      log_is = rw c.noted-asked.ensures.same at split.opens.log_is;
    } in
    rw plain opens
