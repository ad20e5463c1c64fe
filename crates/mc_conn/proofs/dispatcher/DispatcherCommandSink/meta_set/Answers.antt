use Rattle.mc_command.specs.declared.command.Command.TheVariants as command
use Rattle.mc_command.specs.Command.{with_block}
use Rattle.mc_conn.specs.internal.Dispatcher.{split_or_refused}
use Rattle.mc_conn.proofs.Dispatching.{plans_split}
use Rattle.mc_conn.proofs.dispatcher.DispatcherCommandSink.meta_set.Goals as goal

pub returns : goal.returns
returns c =
    let dispatcher = c.args.self.now in
    let split = c.open_split.ensures in
    record {
      pending_reply = split.pending_reply;
      carried =
          split_or_refused (with_block (command.MetaSet c.args.set) c.args.block.now) c.split_meta_set-split.result;
      plan =
          rw split.opens.unsent (plans_split dispatcher.planner
          (with_block (command.MetaSet c.args.set) c.args.block.now) c.split_meta_set-split.result split.pending_reply
          dispatcher.unsent.items c.split_meta_set-split.new.queue.items
          c.split_meta_set-split.ensures split.pending_reply_is);
      reorder_buffer = split.opens.reorder_buffer;
      joins = split.opens.joins;
      shards = split.opens.shards;
      noted = split.opens.noted;
      log_is = rw c.of-asked.ensures at split.opens.log_is;
    }
