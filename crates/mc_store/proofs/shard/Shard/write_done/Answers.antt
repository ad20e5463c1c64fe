use Rattle.std.proofs.Common.{◌≡◌, ℕ, ap, Some}
use Rattle.mc_item.specs.declared.answer.Answer.{Answer}
use Rattle.mc_store.specs.State.{without_dead}
use Rattle.mc_store.specs.Rows.{done_of}
use Rattle.mc_store.specs.Shard.{IsShard, held_of}
use Rattle.mc_store.proofs.Writes.{as_answer, met_time}
use Rattle.mc_store.proofs.Counts.{done_with}
use Rattle.mc_store.proofs.shard.Shard.write_done.Goals as goal

pub returns-in-Err-clause-does : goal.returns-in-Err-clause-does
unfolding IsShard
returns-in-Err-clause-does c = λ reply state h.
    let said : ℕ → Answer = λ unique. reply
    (done_of (record c.args.item { unique = unique }) c.args.number (without_dead state (Some c.args.key)).time) in
    rw c.answer.ensures (c.in-Err.ensures said state h)

pub returns-clause-does : goal.returns-clause-does
unfolding IsShard
returns-clause-does c = λ reply state h.
    let settled = without_dead state (Some c.args.key) in
    let said : ℕ → Answer = λ unique. reply
    (done_of (record c.args.item { unique = unique }) c.args.number settled.time) in
    let same : done_of (record c.args.item { unique = c.in-Ok.unique }) c.args.number settled.time
    ≡ record {
      unique = c.in-Ok.unique;
      size = c.len-size.result;
      left = c.seconds_left-left.result;
      number = c.args.number;
    } = rw (met_time state c.args.key, h.time, c.len-size.ensures.value, c.seconds_left-left.ensures) in
    as_answer settled (done_with settled c.args.key c.args.token (λ unique. record c.args.item { unique = unique })
    c.args.number reply) (said c.in-Ok.unique) _ (held_of c.write.new.self) (ap reply same)
    (c.in-Ok.ensures said state h)
