-- What `stats` shows beside the counts of the shards, and where a pending reply holds it.
use Rattle.std.specs.Prelude.{Bool, true, false}
use Rattle.mc_command.specs.declared.command.Command.{Command}
use Rattle.mc_command.specs.declared.command.Command.TheVariants as command
use Rattle.mc_command.specs.declared.command.StatsRequest.TheVariants.{General}
use Rattle.mc_reply.specs.declared.pending_reply.PendingReply.{PendingReply}
use Rattle.mc_reply.specs.declared.pending_reply.ReplyKind.{ReplyKind}
use Rattle.mc_reply.specs.declared.pending_reply.ReplyKind.TheVariants as reply_kind
use Rattle.mc_reply.specs.declared.server_stats.ServerStats.{ServerStats}

-- nothing is known of the server
abbrev pub no_server : ServerStats
no_server =
    record {
      pid = 0;
      uptime = 0;
      time = 0;
      user_time = 0;
      system_time = 0;
      max_connections = 0;
      curr_connections = 0;
      total_connections = 0;
      rejected_connections = 0;
      bytes_read = 0;
      bytes_written = 0;
    }

-- The reply to the command shows the server: only that to `stats` does.
abbrev pub shows_server : Command → Bool
shows_server (command.Stats General) = true
shows_server other = false

-- the shape of the same reply, of this server
abbrev pub of_server : ServerStats → ReplyKind → ReplyKind
of_server server (reply_kind.Stats other) = reply_kind.Stats server
of_server server other = other

-- the pending reply of the same reply, of this server
abbrev pub pending_reply_of_server : ServerStats → PendingReply → PendingReply
pending_reply_of_server server pending_reply =
    record pending_reply { reply_kind = of_server server pending_reply.reply_kind }
