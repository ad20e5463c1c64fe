use Rattle.std.proofs.Common.{◌≡◌, ◌++◌, ◌<◌, length, arith, rules}
use Rattle.mc_sim.proofs.Feeding.{front_of}
use Rattle.mc_sim.proofs.sim.at_seat.feed_into.Goals as goal

pub returns : goal.returns
returns c =
    let some : 0 < c.feed_some-count.result = omega (arith, c.if-count-eq0.false) in
    let before : c.len-before.result ≡ length c.args.fed.now.items = search rules in
    let all : c.extend_from_slice.new.self.items ≡ c.args.fed.now.items ++ c.args.bytes.now = search rules in (
      c.feed_some-count.result,
      some,
      front_of c.args.fed.now.items c.truncate.new.self.items c.extend_from_slice.new.self.items c.args.bytes.now
          c.len-before.result c.feed_some-count.result before all c.truncate.ensures.items,
      c.feed_some-count.ensures.taken,
    )
