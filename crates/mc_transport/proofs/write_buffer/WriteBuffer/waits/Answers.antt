-- What is left of the front waits.
use Rattle.std.proofs.Common.{drop}
use Rattle.mc_transport.specs.Chunks.{bytes_of}
use Rattle.mc_transport.specs.Later.{behind}
use Rattle.mc_transport.proofs.Pieces.{not_empty, some_waits}
use Rattle.mc_transport.proofs.write_buffer.WriteBuffer.waits.Goals as goal

pub returns : goal.returns
returns c = λ some.
    let waits = c.args.self.now in
    some_waits (drop waits.sent (bytes_of waits.front)) _ (behind waits)
    c.rest.ensures.left (not_empty _ _ c.is_empty.ensures some)
