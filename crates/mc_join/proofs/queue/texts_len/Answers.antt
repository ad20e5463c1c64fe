use Rattle.mc_join.proofs.Written.{counted}
use Rattle.mc_join.proofs.queue.texts_len.Goals as goal

pub returns : goal.returns
returns c =
    let counter = c.put_first.new.out in
    counted c.put_first.result _ counter.count counter.full counter.is_full counter.within
    (rw c.new-counter.ensures.sight at c.put_first.ensures.writes)
