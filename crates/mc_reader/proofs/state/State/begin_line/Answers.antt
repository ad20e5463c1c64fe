use Rattle.std.proofs.Common.{refl}
use Rattle.mc_reader.proofs.Lines.{ends_found}
use Rattle.mc_reader.proofs.state.State.begin_line.Goals as goal

pub returns-clause-holds : goal.returns-clause-holds
returns-clause-holds c rules limited =
    let same = c.unread.ensures.bytes in
    let found = ends_found c.unread.result.now c.memchr.result c.memchr.ensures in
    rw c.set_line.ensures (refl, rw (same, limited) at c.unread.ensures.fits, rw same at found)
