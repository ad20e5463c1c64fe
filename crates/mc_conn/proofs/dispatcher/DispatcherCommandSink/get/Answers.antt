use Rattle.std.proofs.Common.{◌∷◌}
use Rattle.mc_wire.specs.Words.{words_of}
use Rattle.mc_fast.specs.FastCommand.{get_of}
use Rattle.mc_conn.specs.internal.Dispatcher.{split_or_refused}
use Rattle.mc_conn.proofs.Dispatching.{plans_split}
use Rattle.mc_conn.proofs.dispatcher.DispatcherCommandSink.get.Goals as goal

pub returns : goal.returns
returns c =
    let dispatcher = c.args.self.now in
    let split = c.open_split.ensures in
    record {
      pending_reply = split.pending_reply;
      carried =
          split_or_refused (get_of (c.args.first.now ∷ words_of c.args.others.now) c.args.with_unique)
          c.split_get-split.result;
      plan =
          rw split.opens.unsent (plans_split dispatcher.planner
          (get_of (c.args.first.now ∷ words_of c.args.others.now) c.args.with_unique) c.split_get-split.result
          split.pending_reply dispatcher.unsent.items c.split_get-split.new.queue.items
          c.split_get-split.ensures split.pending_reply_is);
      reorder_buffer = split.opens.reorder_buffer;
      joins = split.opens.joins;
      shards = split.opens.shards;
      noted = split.opens.noted;
      log_is = split.opens.log_is;
    }
