-- What taking a command does to the place where commands are planned and opened.
use Rattle.std.specs.Prelude.{ℕ, ◌≡◌, ◌<◌, true, List, [], ◌∷◌, ◌++◌, length, MatchBool, Result, Ok, Err, MatchResult}
use Rattle.mc_command.specs.declared.command.Command.{Command}
use Rattle.mc_command.specs.declared.command.Command.TheVariants as command
use Rattle.mc_command.specs.declared.command.Command.TheVariants.{Refused}
use Rattle.mc_command.specs.declared.command.StatsRequest.TheVariants.{General}
use Rattle.mc_command.specs.declared.error.CommandError.TheVariants.{Memory}
use Rattle.mc_item.specs.declared.memory.NoMemory.{NoMemory}
use Rattle.mc_split.specs.Plan.{pending_reply_of}
use Rattle.mc_ring.specs.Reply.{Shown}
use Rattle.mc_reply.specs.declared.pending_reply.PendingReply.{PendingReply}
use Rattle.mc_reply.specs.declared.server_stats.ServerStats.{ServerStats}
use Rattle.mc_reply.specs.Server.{pending_reply_of_server, no_server, shows_server}
use Rattle.mc_join.specs.Held.{opened_count}
use Rattle.mc_join.specs.Joined.{IsReorderBuffer}
use Rattle.mc_conn.specs.declared.dispatcher.Dispatcher.{Dispatcher}
use Rattle.mc_conn.specs.History.{Taken, carrying_out}
use Rattle.mc_conn.specs.internal.Plans.{Plans}

-- There is room for one command more, and its number is written.
pub record CanOpen (dispatcher : Dispatcher) : Type 0 where
  pub room : length dispatcher.reorder_buffer.pending_replies < dispatcher.reorder_buffer.window
  pub number : dispatcher.planner.ticket.0 ≡ opened_count dispatcher.reorder_buffer

-- the log once this command is carried out too, at the moment that is written, by this server
abbrev pub logged : Dispatcher → ServerStats → Command → List Taken
logged dispatcher server carried = dispatcher.log ++ carrying_out dispatcher.planner.moment server carried ∷ []

-- The command was planned, whole or as given up, and the pending reply of its reply is the last of those that are open.
-- Nothing is known of the server yet, and no `stats` was noted.
pub record OpensPendingReply (old : Dispatcher) (command : Command) (new : Dispatcher) : Type 0 where
  pub pending_reply : PendingReply
  pub carried : Command
  pub plan : Plans old.planner.shards old.planner.ticket old.planner.moment command carried pending_reply
      old.unsent.items new.unsent.items
  pub reorder_buffer : new.reorder_buffer
      ≡ record old.reorder_buffer { pending_replies = old.reorder_buffer.pending_replies ++ pending_reply ∷ [] }
  pub joins : (opened : List PendingReply) (accepted : List Shown) (handed : List (List ℕ))
      → IsReorderBuffer old.reorder_buffer opened accepted handed
      → IsReorderBuffer new.reorder_buffer (opened ++ pending_reply ∷ []) accepted handed
  pub shards : new.planner.shards ≡ old.planner.shards
  pub noted : new.stats_asked ≡ old.stats_asked
  pub log_is : new.log ≡ logged old no_server carried

-- `stats` was planned, whole or as given up, and the pending reply of its reply, of this server, is the last of those
-- that are open.
pub record OpensStats (old : Dispatcher) (server : ServerStats) (new : Dispatcher) : Type 0 where
  pub pending_reply : PendingReply
  pub carried : Command
  pub plan : Plans old.planner.shards old.planner.ticket old.planner.moment (command.Stats General) carried
      pending_reply old.unsent.items new.unsent.items
  pub reorder_buffer : new.reorder_buffer
      ≡ record old.reorder_buffer
      { pending_replies = old.reorder_buffer.pending_replies ++ pending_reply_of_server server pending_reply ∷ [] }
  pub joins : (opened : List PendingReply) (accepted : List Shown) (handed : List (List ℕ))
      → IsReorderBuffer old.reorder_buffer opened accepted handed
      → IsReorderBuffer new.reorder_buffer (opened ++ pending_reply_of_server server pending_reply ∷ []) accepted handed
  pub shards : new.planner.shards ≡ old.planner.shards
  pub log_is : new.log ≡ logged old server carried

-- Where `stats` was noted it is opened, of a server that its source may show; else nothing changes.
abbrev pub OpensNoted : (ServerStats → Type 0) → Dispatcher → Dispatcher → Type 0
OpensNoted may_show old new =
    MatchBool old.stats_asked ((server : ServerStats) × may_show server × OpensStats old server new) (new ≡ old)

-- A command was read: `stats` is noted, so that what is known of the server can be asked for, and any other is planned
-- and opened.
abbrev pub TakesIn : Dispatcher → Command → Dispatcher → Type 0
TakesIn old asked new =
    MatchBool (shows_server asked) (new ≡ record old { stats_asked = true }) (OpensPendingReply old asked new)

-- the pending reply of the refusal "out of memory", at the number of the next command
abbrev pub refusal_of : Dispatcher → PendingReply
refusal_of dispatcher = pending_reply_of dispatcher.planner.shards dispatcher.planner.ticket (Refused Memory)

-- This form is the last of those that are open, and this is the log.
pub record Opens (old : Dispatcher) (pending_reply : PendingReply) (log : List Taken) (new : Dispatcher) : Type 0 where
  pub log_is : new.log ≡ log
  pub reorder_buffer : new.reorder_buffer
      ≡ record old.reorder_buffer { pending_replies = old.reorder_buffer.pending_replies ++ pending_reply ∷ [] }
  pub joins : (opened : List PendingReply) (accepted : List Shown) (handed : List (List ℕ))
      → IsReorderBuffer old.reorder_buffer opened accepted handed
      → IsReorderBuffer new.reorder_buffer (opened ++ pending_reply ∷ []) accepted handed
  pub unsent : new.unsent ≡ old.unsent
  pub shards : new.planner.shards ≡ old.planner.shards
  pub noted : new.stats_asked ≡ old.stats_asked

-- what is carried out of a command that was split: the refusal where memory ran out
abbrev pub split_or_refused : Command → Result PendingReply NoMemory → Command
split_or_refused asked (Ok pending_reply) = asked
split_or_refused asked (Err fault) = Refused Memory

-- The pending reply of a command that was split, or of the refusal where memory ran out, is the last of those that are
-- open.
pub record OpensSplit (old : Dispatcher) (asked : Command) (split : Result PendingReply NoMemory) (new : Dispatcher) :
    Type 0 where
  pub pending_reply : PendingReply
  pub pending_reply_is : MatchResult split (λ f. pending_reply ≡ f) (λ _. pending_reply ≡ refusal_of old)
  pub opens : Opens old pending_reply (logged old no_server (split_or_refused asked split)) new
