use Rattle.std.proofs.Common.{◌∙◌}
use Rattle.mc_conn.proofs.Shutdown.{asks_flow}
use Rattle.mc_conn.proofs.conn.Conn.asks_shutdown.Goals as goal

pub returns : goal.returns
returns c flow h = c.asks_shutdown.ensures ∙ asks_flow c.args.self.now flow h
