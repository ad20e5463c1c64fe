-- What is left of the front is nothing.
use Rattle.mc_transport.proofs.Pieces.{is_passed}
use Rattle.mc_transport.proofs.write_buffer.WriteBuffer.at_tail.Goals as goal

pub returns-clause-front : goal.returns-clause-front
returns-clause-front c = λ first. is_passed _ _ _ c.rest.ensures.left c.is_empty-2.ensures first
