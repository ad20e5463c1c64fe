-- The next stream comes in, or no more do.
use Rattle.mc_net.proofs.Comes.{next_comes, none_comes}
use Rattle.mc_net.proofs.stream_source.StreamSourceConnectionSource.accept.Goals as goal

pub returns-in-Came-clause-flow : goal.returns-in-Came-clause-flow
returns-in-Came-clause-flow g c =
    let next = next_comes g.A.Stream.Stream.remaining g.A.Stream.Stream.contents _ _ _ _ _ _ _ c.begin-line.ensures.new
    c.in-Came.ensures in
    (next.0, rw c.of.ensures next.1)

pub returns-in-Over-clause-flow : goal.returns-in-Over-clause-flow
returns-in-Over-clause-flow g c =
    none_comes g.A.Stream.Stream.remaining g.A.Stream.Stream.contents _ _ _ _ _ c.in-Over.ensures.0 c.in-Over.ensures.1
