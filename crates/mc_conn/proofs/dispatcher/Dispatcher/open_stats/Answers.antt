use Rattle.std.proofs.Common.{◌≡◌, ℕ, List, [], ◌∷◌, ◌++◌, refl, sym, subst, ◌∙◌}
use Rattle.mc_command.specs.declared.command.Command.TheVariants as command
use Rattle.mc_command.specs.declared.command.StatsRequest.TheVariants.{General}
use Rattle.mc_command.specs.declared.error.CommandError.TheVariants.{Memory}
use Rattle.mc_ring.specs.Reply.{Shown}
use Rattle.mc_reply.specs.declared.pending_reply.PendingReply.{PendingReply}
use Rattle.mc_reply.specs.Server.{pending_reply_of_server}
use Rattle.mc_join.specs.Joined.{IsReorderBuffer}
use Rattle.mc_conn.specs.internal.Dispatcher.{refusal_of, split_or_refused}
use Rattle.mc_conn.proofs.Dispatching.{plans_split}
use Rattle.mc_conn.proofs.Shown.{same_pending_reply}
use Rattle.mc_conn.proofs.dispatcher.Dispatcher.open_stats.Goals as goal

pub returns-in-Ok : goal.returns-in-Ok
returns-in-Ok c =
    let dispatcher = c.args.self.now in
    record {
      pending_reply = c.in-Ok.pending_reply;
      carried = split_or_refused (command.Stats General) c.split_into.result;
      plan =
          rw c.open.ensures.unsent
          (plans_split dispatcher.planner (command.Stats General) c.split_into.result c.in-Ok.pending_reply
          dispatcher.unsent.items c.split_into.new.queue.items c.split_into.ensures (rw c.in-Ok.is refl));
      reorder_buffer = rw c.of_server.ensures at c.open.ensures.reorder_buffer;
      joins = rw c.of_server.ensures at c.open.ensures.joins;
      shards = c.open.ensures.shards;
      log_is = rw c.in-Ok.is (c.open.ensures.log_is ∙ c.and-self.ensures);
    }

pub returns-in-Err : goal.returns-in-Err
returns-in-Err c =
    let dispatcher = c.args.self.now in
    let server = c.args.server in
    let new = c.open_refusal.new.self in
    let same : refusal_of dispatcher ≡ pending_reply_of_server server (refusal_of dispatcher) =
    sym (same_pending_reply server dispatcher.planner.shards dispatcher.planner.ticket (command.Refused Memory) refl) in
    let Joined : PendingReply → Type 0 = λ f. new.reorder_buffer
    ≡ record dispatcher.reorder_buffer { pending_replies = dispatcher.reorder_buffer.pending_replies ++ f ∷ [] } in
    let Joins : PendingReply → Type 0 = λ f.
    (opened : List PendingReply) (accepted : List Shown) (handed : List (List ℕ))
    → IsReorderBuffer dispatcher.reorder_buffer opened accepted handed
    → IsReorderBuffer new.reorder_buffer (opened ++ f ∷ []) accepted handed in
    record {
      pending_reply = refusal_of dispatcher;
      carried = split_or_refused (command.Stats General) c.split_into.result;
      plan =
          rw c.open_refusal.ensures.unsent
          (plans_split dispatcher.planner (command.Stats General) c.split_into.result (refusal_of dispatcher)
          dispatcher.unsent.items c.split_into.new.queue.items c.split_into.ensures (rw c.in-Err.is refl));
      reorder_buffer = subst Joined same c.open_refusal.ensures.reorder_buffer;
      joins = subst Joins same c.open_refusal.ensures.joins;
      shards = c.open_refusal.ensures.shards;
      log_is = rw c.in-Err.is c.open_refusal.ensures.log_is;
    }
