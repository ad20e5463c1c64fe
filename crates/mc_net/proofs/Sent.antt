-- A source for one line can be sent to another thread if its line can.
use denote.RattleType.{RattleType}
use denote.Param.Send.{IsSend, sendable}
use Rattle.std.proofs.Crossing.{crosses}
use Rattle.mc_transport.specs.declared.transport.Transport.{Ghosts}
use Rattle.mc_transport.specs.declared.warrant.Warrant.{Ghosts as Warrants}
use Rattle.mc_net.specs.contracts.single_source.SingleSource as source

-- A source for one line can be sent to another thread if its line can.
pub source_send : (L T : RattleType) (line : Ghosts L.Denot T.Denot) (warrant : Warrants T.Denot) (token : _)
    → IsSend L → IsSend (source.the_row L T line warrant token)
source_send L T line warrant token sent = search (sendable, crosses) depth 20
