-- A line that is at rest or active, as contracts see it.
use Rattle.std.specs.Prelude.{Option, Some, None}
use Rattle.std.specs.declared.alloc.Global.{Global}
use Rattle.std.specs.declared.boxed.Box.{Box}
use Rattle.mc_transport.specs.declared.buffered_conn.BufferedConn.{BufferedConn}
use Rattle.mc_transport.specs.declared.line_buffers.Rest.{Rest}

abbrev pub line_in : Option (Box BufferedConn Global) → Option Rest → Option BufferedConn
line_in (Some line) rest = Some line.value
line_in None (Some rest) = Some rest.seen.value
line_in None None = None
