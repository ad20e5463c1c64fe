-- The pending reply has a slot for each key, and the fetches of all keys are behind the others.
use Rattle.std.proofs.Common.{◌++◌, length, ap, ◌∙◌}
use Rattle.mc_command.specs.declared.command.Command.TheVariants as command
use Rattle.mc_reply.specs.ReplyKind.{reply_kind_of}
use Rattle.mc_split.specs.Pieces.{pieces_of}
use Rattle.mc_split.proofs.Parts.{all_fetches, get_pending_reply}
use Rattle.mc_split.proofs.planner.Planner.get.Goals as goal

pub returns : goal.returns
unfolding pieces_of reply_kind_of
returns c =
    let planner = c.args.self in
    let retrieval = c.args.retrieval in
    let copies = c.in_ok-keys.ensures.copies in
    record {
      pending_reply =
          get_pending_reply planner.ticket (reply_kind_of (command.Get retrieval)) planner.shards retrieval.touch
          retrieval.keys c.len-count.result c.in_ok-pending_reply.pending_reply c.keys_of.ensures.some
          (c.len-count.ensures ∙ (c.in_ok-keys.keys.ok.0 ∙ ap length copies)) c.in_ok-pending_reply.ensures;
      pieces =
          c.in_ok-push_run.ensures.ok
          ∙ ap (λ ps. c.args.queue.now.items ++ ps)
          (c.new.ensures ∙ all_fetches planner retrieval.touch c.in_ok-keys.keys.items retrieval.keys copies);
      unchanged = tt;
      asks = tt;
      gives_up = tt;
    }
