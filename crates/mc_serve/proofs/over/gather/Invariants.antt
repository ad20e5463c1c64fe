-- The lines reported so far, then the sources that are left.
use Rattle.std.proofs.Common.{◌≡◌, ◌++◌, List}
use Rattle.std.specs.Vec.Iter.{into_iter_items}
use Rattle.mc_poll.specs.Zips.{Zips}
use Rattle.mc_net.specs.One.{IsBack, flow_of}
use Rattle.mc_serve.proofs.over.gather.Given as goal

abbrev pub invariant-loop-source : goal.invariant-loop-source
invariant-loop-source g l =
    (done : List _) × (done ++ into_iter_items l.source-iterator ≡ l.fn.sources.items)
    × Zips
    (λ source one. IsBack (flow_of (λ line. g.L.Transport.sight line) source)
    (g.L.Transport.sight one.line) one.commands
    one.broke) done l.lines.items
