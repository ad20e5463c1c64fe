-- The pending reply has a slot for each shard, and what all shards are asked is behind the others.
use Rattle.std.proofs.Common.{◌++◌, ap, ◌∙◌}
use Rattle.mc_split.specs.internal.ToAll.{op_of}
use Rattle.mc_split.proofs.Parts.{all_asks, asks_pending_reply}
use Rattle.mc_split.proofs.planner.Planner.all.Goals as goal

pub returns : goal.returns
returns c =
    let planner = c.args.self in
    record {
      pending_reply =
          asks_pending_reply planner.ticket c.args.reply_kind (op_of c.args.asked) planner.shards
          c.in_ok-pending_reply.pending_reply planner.some_shards
          (rw (c.kind.ensures, c.op.ensures) at c.in_ok-pending_reply.ensures);
      pieces = c.in_ok-push_run.ensures.ok ∙ ap (λ ps. c.args.queue.now.items ++ ps) (all_asks planner c.args.asked);
      unchanged = tt;
      asks = tt;
    }
