-- It serves no line, and the record is of the ends.
use Rattle.std.proofs.Common.{refl, sym, ap}
use Rattle.mc_sizes.specs.Sizes.{rules_of}
use Rattle.mc_session.proofs.Placing.{history_same}
use Rattle.mc_session.proofs.session.Session.recorded.Goals as goal

pub returns-clause-vacant : goal.returns-clause-vacant
returns-clause-vacant g c =
    let made = c.in_ok-shard_link.ensures in
    record {
      ready = rw c.new-buffered_conn.ensures (rw made.ends (sym c.requires.width), refl, refl);
      idle = made.idle;
      recorded = rw (made.clerk, made.ends) c.requires.past;
    }

pub returns-clause-ruled : goal.returns-clause-ruled
returns-clause-ruled g c keeps = rw c.in_ok-shard_link.ensures.clerk (ap rules_of (sym (c.requires.named keeps)))

pub returns-clause-history : goal.returns-clause-history
returns-clause-history g c = history_same g.C.Clerk c.args.clerk _ c.in_ok-shard_link.ensures.clerk
