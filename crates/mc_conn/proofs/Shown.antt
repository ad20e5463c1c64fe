-- Where a command shows the server: `stats` alone.
use Rattle.std.proofs.Common.{◌≡◌, ℕ, Bool, true, false, refl, sym, ap, subst, ◌∙◌}
use Rattle.std.specs.Prelude.{IsTrue, MatchBool}
use Rattle.std.proofs.lemmas.Bool.{false≢true}
use Rattle.mc_command.specs.declared.command.Command.{Command}
use Rattle.mc_command.specs.declared.command.Command.TheVariants as command
use Rattle.mc_command.specs.declared.command.StatsRequest.TheVariants.{General, Reset, Empty}
use Rattle.mc_reply.specs.declared.server_stats.ServerStats.{ServerStats}
use Rattle.mc_reply.specs.declared.ticket.Ticket.{Ticket}
use Rattle.mc_reply.specs.Server.{pending_reply_of_server, shows_server}
use Rattle.mc_reply.specs.ReplyKind.{reply_kind_of}
use Rattle.mc_split.specs.Plan.{pending_reply_of}
use Rattle.mc_conn.specs.declared.dispatcher.Dispatcher.{Dispatcher}
use Rattle.mc_conn.specs.internal.Dispatcher.{CanOpen, OpensPendingReply, TakesIn}
use Rattle.mc_conn.specs.internal.Plans.{unless_given_up}

-- The pending reply of any other command is the same, whatever is known of the server.
pub same_pending_reply : (server : ServerStats) (shards : ℕ) (ticket : Ticket) (asked : Command) → shows_server asked
    ≡ false → pending_reply_of_server server (pending_reply_of shards ticket asked)
    ≡ pending_reply_of shards ticket asked
unfolding reply_kind_of
same_pending_reply server shards ticket (command.Stats General) none = absurd (cc none)
same_pending_reply server shards ticket (command.Stats Reset) none = refl
same_pending_reply server shards ticket (command.Stats Empty) none = refl
same_pending_reply server shards ticket asked none = refl

-- Only `stats` shows it.
is_stats : (asked : Command) → shows_server asked ≡ true → asked ≡ command.Stats General
is_stats (command.Stats General) shows = refl
is_stats (command.Stats Reset) shows = absurd (cc shows)
is_stats (command.Stats Empty) shows = absurd (cc shows)
is_stats asked shows = absurd (cc shows)

-- What was given up shows nothing of the server.
pub shows_whole : (gave : Bool) (asked : Command) → IsTrue (shows_server (unless_given_up gave asked))
    → IsTrue (shows_server asked)
shows_whole true asked shows = absurd (cc shows)
shows_whole false asked shows = shows

-- Nor does what was given up of a command that shows none.
pub shows_none : (gave : Bool) (asked : Command) → shows_server asked ≡ false
    → shows_server (unless_given_up gave asked) ≡ false
shows_none true asked none = refl
shows_none false asked none = none

-- Where `stats` was noted it was read, and nothing else has changed.
pub stats_noted : (before after : Dispatcher) (asked : Command) → before.stats_asked ≡ false → after.stats_asked ≡ true
    → TakesIn before asked after → (asked ≡ command.Stats General) × (after ≡ record before { stats_asked = true })
stats_noted before after asked not_yet noted takes =
    elim (shows_server asked) as
    (λ shows. shows_server asked ≡ shows
    → MatchBool shows (after ≡ record before { stats_asked = true }) (OpensPendingReply before asked after)
    → (asked ≡ command.Stats General) × (after ≡ record before { stats_asked = true })) [
      | true ↦ λ is changed. (is_stats asked is, changed)
      | false ↦ λ is opens. absurd (false≢true (sym not_yet ∙ (sym opens.noted ∙ noted)))
    ] refl takes

-- Where it was not noted, another command was read, and opened.
pub none_noted : (before after : Dispatcher) (asked : Command) → after.stats_asked ≡ false → TakesIn before asked after
    → (shows_server asked ≡ false) × OpensPendingReply before asked after
none_noted before after asked none takes =
    elim (shows_server asked) as
    (λ shows. shows_server asked ≡ shows
    → MatchBool shows (after ≡ record before { stats_asked = true }) (OpensPendingReply before asked after)
    → (shows_server asked ≡ false) × OpensPendingReply before asked after) [
      | true ↦ λ is changed. absurd (false≢true (sym none ∙ ap (λ (d : Dispatcher). d.stats_asked) changed))
      | false ↦ λ is opens. (is, opens)
    ] refl takes

-- What was noted can be opened where the command could be.
pub can_open_noted : (before after : Dispatcher) (asked : Command) → CanOpen before → before.stats_asked ≡ false
    → TakesIn before asked after → IsTrue after.stats_asked → CanOpen after
can_open_noted before after asked can not_yet takes noted =
    let is = stats_noted before after asked not_yet noted takes in
    let same : CanOpen (record before { stats_asked = true }) = record { room = can.room; number = can.number } in
    subst (λ d. CanOpen d) (sym is.1) same
