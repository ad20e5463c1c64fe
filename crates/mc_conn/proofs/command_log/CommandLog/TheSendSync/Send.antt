-- A log owns nothing, so it may move to another thread.
use denote.RattleType.{RattleType}
use denote.Param.Send.{IsSend, owning_send, sendable}
use Rattle.mc_conn.specs.contracts.command_log.CommandLog.{the_row, the_type}

pub send : IsSend the_row
send = owning_send the_type (search sendable, tt) (λ d. tt) (λ k x w. tt)
