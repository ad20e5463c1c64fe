-- What was read is fed from the front.
use Rattle.mc_transport.specs.internal.Steps.{all_handed}
use Rattle.mc_transport.proofs.Turns.{goes_feed}
use Rattle.mc_transport.proofs.read_side.ReadSide.feed.Goals as goal

pub returns : goal.returns
returns c received begin now flow is serving open_is =
    rw (c.give_back.ensures, c.advance.ensures)
    (goes_feed received begin now c.args.self.now.unread flow c.feed-count.result c.feed-count.new.self open_is
    (rw c.bytes.ensures at (c.feed-count.ensures.fed (all_handed flow) is)) serving)
