use Rattle.std.proofs.Common.{◌≡◌, ◌-◌, ap, length, arith}
use Rattle.mc_join.proofs.queue.drop_first.Goals as goal

pub returns-clause-items : goal.returns-clause-items
returns-clause-items c =
    let items = c.args.pending_replies.now.items in
    let count : length items - (c.len.result - c.args.count) ≡ c.args.count =
    omega (arith, c.len.ensures.len, c.requires) in
    rw count at (ap (λ b. b.items) c.truncate_front.ensures)
