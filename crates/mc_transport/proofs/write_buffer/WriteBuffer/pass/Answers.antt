-- The rest of the front was passed, and what is behind it becomes the front.
use Rattle.std.proofs.Common.{◌<◌, ◌∙◌, arith, length, length-drop, drop}
use Rattle.mc_transport.specs.Chunks.{bytes_of}
use Rattle.mc_transport.specs.Later.{behind}
use Rattle.mc_transport.proofs.Pieces.{passes_on}
use Rattle.mc_transport.proofs.write_buffer.WriteBuffer.pass.Goals as goal

pub loop-left-preserved : goal.loop-left-preserved
loop-left-preserved c =
    let waits = c.loop-left.self in
    let rest = drop waits.sent (bytes_of waits.front) in
    let more : length rest < c.loop-left.left = rw c.rest.ensures.left at c.loop-left-test.true in
    let on = passes_on rest (behind waits) c.loop-left.left more c.loop-left.invariant.0 in
    rw (c.go_on.ensures.text, c.rest-in-loop-left.ensures.left) (on.within, on.same ∙ c.loop-left.invariant.1)

pub overflow_add-self : goal.overflow_add-self
overflow_add-self c =
    let waits = c.loop-left.self in
    let fits = rw c.rest.ensures.left at c.loop-left-test.false in
    omega (arith, length-drop waits.sent (bytes_of waits.front), waits.within, c.rest.ensures.fits, fits)
