use Rattle.std.proofs.Common.{refl, ◌∙◌}
use Rattle.mc_conn.specs.internal.Dispatcher.{refusal_of}
use Rattle.mc_conn.proofs.dispatcher.Dispatcher.open_split.Goals as goal

pub returns-in-Ok : goal.returns-in-Ok
returns-in-Ok g c =
    let opens = c.open.ensures in
    record {
      pending_reply = c.in-Ok.pending_reply;
      pending_reply_is = rw c.in-Ok.is refl;
      opens = record {
        log_is = rw c.in-Ok.is (opens.log_is ∙ c.and-self.ensures);
        reorder_buffer = opens.reorder_buffer;
        joins = opens.joins;
        unsent = opens.unsent;
        shards = opens.shards;
        noted = opens.noted;
      };
    }

pub returns-in-Err : goal.returns-in-Err
returns-in-Err g c =
    record {
      pending_reply = refusal_of c.args.self.now;
      pending_reply_is = rw c.in-Err.is refl;
      opens = rw c.in-Err.is c.open_refusal.ensures;
    }
