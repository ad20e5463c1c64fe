-- What it makes of a connection to take a command.
use Rattle.std.proofs.Common.{◌≡◌, ℕ, ◌+◌, ◌<◌, ◌≤◌, ◌^◌, ◌↔◌, ◌||◌, Bool, true, false, if◌then◌else◌, inl, inr, List}
use Rattle.std.proofs.Common.{[], ◌∷◌, ◌++◌, length, map, drop, Some, None, IsTrue, refl, sym, ap, subst, ◌∙◌, arith}
use Rattle.std.proofs.Common.{length-append, append-nil}
use Rattle.std.specs.Prelude.{MatchBool, Option}
use Rattle.std.specs.Bool.{OnTrue}
use Rattle.std.proofs.lemmas.Bool.{false≢true}
use Rattle.std.proofs.lemmas.List.{drop-append-le, map-append}
use Rattle.mc_command.specs.declared.command.Command.{Command}
use Rattle.mc_command.specs.declared.command.Command.TheVariants.{Refused}
use Rattle.mc_command.specs.declared.error.CommandError.TheVariants.{Memory}
use Rattle.mc_command.specs.Command.{can_give_up}
use Rattle.mc_reader.specs.declared.reader.Next.TheVariants as next
use Rattle.mc_reader.specs.Reader.{NextSays, entries_of}
use Rattle.mc_reader.specs.Spelling.{AreCommands, BeginCommands, Given, is_closed, most_commands}
use Rattle.mc_ring.specs.Reply.{Shown}
use Rattle.mc_reply.specs.declared.pending_reply.PendingReply.{PendingReply}
use Rattle.mc_reply.specs.declared.server_stats.ServerStats.{ServerStats}
use Rattle.mc_reply.specs.Server.{pending_reply_of_server, no_server, shows_server}
use Rattle.mc_split.specs.declared.plan.Piece.{Piece}
use Rattle.mc_reply.specs.declared.ticket.Ticket.{Ticket}
use Rattle.mc_split.specs.Pieces.{pieces_of}
use Rattle.mc_split.specs.Plan.{pending_reply_of, parts_from}
use Rattle.mc_join.specs.Held.{Held, opened_count}
use Rattle.mc_join.specs.Joined.{IsReorderBuffer}
use Rattle.mc_join.proofs.Joins.{opened_length}
use Rattle.mc_conn.specs.declared.conn.Conn.{Conn}
use Rattle.mc_conn.specs.Conn.{FillsWindow, IfConn, IsAwaiting, IsConn, NeedsMore, TakesCommand}
use Rattle.mc_conn.specs.internal.Inside.{put_first}
use Rattle.mc_conn.specs.Due.{pending_reply_at, pending_replies_of, pieces_from, ticket_at}
use Rattle.mc_conn.specs.History.{Taken, MayBeTaken, carried_out, carrying_out, planned}
use Rattle.mc_conn.specs.declared.dispatcher.Dispatcher.{Dispatcher}
use Rattle.mc_conn.specs.internal.Dispatcher.{OpensPendingReply, OpensNoted, OpensStats, TakesIn}
use Rattle.mc_conn.specs.internal.Plans.{Plans, unless_given_up}
use Rattle.mc_conn.specs.Flow.{Flow, IsOver, all_pending_replies, all_pieces, commands_of}
use Rattle.mc_conn.proofs.Calls.{reorder_buffer_stays, waiting_is}
use Rattle.mc_conn.proofs.Fitting.{pieces_from-append}
use Rattle.mc_conn.proofs.PendingReplies.{pending_replies-push, length-pending_replies}
use Rattle.mc_conn.proofs.Shown.{none_noted, same_pending_reply, shows_none, shows_whole, stats_noted}
use Rattle.mc_ring.proofs.Lists.{all_push}

-- The connection is neither closed nor broken.
abbrev pub GoesOn : Conn → Type 0
GoesOn conn = IfConn conn (λ flow. ¬ IsOver flow)

-- A connection that is tested not to be over is neither closed nor broken.
pub goes_on : (conn : Conn) (over : Bool) → over ≡ false → IfConn conn (λ flow. IsTrue over ↔ IsOver flow) → GoesOn conn
goes_on conn over none says flow h o = false≢true (sym none ∙ (says flow h).1 o)

unbroken : (flow : Flow) → ¬ IsOver flow → flow.broken ≡ false
unbroken flow not_over = elim flow.broken as (λ b. flow.broken ≡ b → b ≡ false) [
  | true ↦ λ e. absurd (not_over (inl e))
  | false ↦ λ e. refl
] refl

-- A connection that continues and holds as many pending replies as its window has room for has as many commands open as
-- may be.
pub fills_window : (conn : Conn) → GoesOn conn → length conn.dispatcher.reorder_buffer.pending_replies
    ≡ conn.dispatcher.reorder_buffer.window → IfConn conn (λ flow. FillsWindow flow conn)
unfolding IsConn
fills_window conn on full flow h =
    let pending_replies = waiting_is conn flow h in
    let window = h.window in
    record {
      full = omega (arith, pending_replies, window, full);
      whole = unbroken flow (on flow h);
      goes_on = λ closed. on flow h (inr closed);
      now = h;
    }

-- There are always numbers left.
pub numbers_left : (conn : Conn) → GoesOn conn → opened_count conn.dispatcher.reorder_buffer ≡ 2 ^ 64
    → IfConn conn (λ flow. flow.broken ≡ false → length flow.taken ≤ most_commands)
    → IfConn conn (λ flow. FillsWindow flow conn)
unfolding IsConn
numbers_left conn on none most flow h =
    let few = most flow h (unbroken flow (on flow h)) in
    let opened = opened_length conn.dispatcher.reorder_buffer (all_pending_replies flow) flow.accepted h.texts h.joined
    in
    absurd (omega (arith, few, opened, none, length-pending_replies flow.shards 0 flow.taken))

-- A connection that continues, and whose window has room, needs more bytes where its reader does.
pub needs_more : (old new : Conn) → GoesOn old
    → length old.dispatcher.reorder_buffer.pending_replies < old.dispatcher.reorder_buffer.window
    → NextSays old.reader next.NeedMore new.reader →
    new.dispatcher.reorder_buffer ≡ old.dispatcher.reorder_buffer → new.dispatcher.unsent ≡ old.dispatcher.unsent
    → new.put_back ≡ old.put_back → new.dispatcher.planner.shards ≡ old.dispatcher.planner.shards → new.dispatcher.log
    ≡ old.dispatcher.log → new.broken ≡ old.broken →
    IfConn old (λ flow. NeedsMore flow new)
unfolding IsConn IsAwaiting
needs_more old new on room says reorder_buffer unsent put_back shards log broken flow h =
    let said = says flow.rules flow.fed flow.ended h.given h.read in
    let pending_replies = waiting_is old flow h in
    let window = h.window in
    let All : List Command → Type 0 = λ entries. AreCommands flow.rules flow.fed entries in
    let On : List Command → Type 0 = λ entries. is_closed entries ≡ false in
    record {
      all = subst All h.spelled said.1.0;
      comes = said.0;
      whole = unbroken flow (on flow h);
      goes_on = subst On h.spelled said.1.1;
      room = omega (arith, pending_replies, window, room);
      waits = said.3;
      now =
          reorder_buffer_stays old new flow flow.out flow.lent h shards log broken said.2 reorder_buffer h.within
          (rw (put_back, unsent) h.unsent) (rw put_back h.lent);
    }

-- what is planned of a command that was given up by the reader or in planning
planned_is : (up gave : Bool) (entry shown : Command) → shown ≡ (if up then Refused Memory else entry)
    → unless_given_up gave shown ≡ (if up || gave then Refused Memory else entry)
planned_is true true entry shown is = refl
planned_is true false entry shown is = is
planned_is false true entry shown is = refl
planned_is false false entry shown is = is

may_be : (up gave : Bool) (entry shown : Command) → shown ≡ (if up then Refused Memory else entry)
    → OnTrue up (IsTrue (can_give_up entry)) → (IsTrue gave → IsTrue (can_give_up shown)) → IsTrue (up || gave)
    → IsTrue (can_give_up entry)
may_be true gave entry shown is early late given = early
may_be false true entry shown is early late given = rw (← is) (late refl)
may_be false false entry shown is early late given = absurd (false≢true given)

put_first-append : (back : Option (ℕ × Piece)) (others more : List (ℕ × Piece)) → put_first back (others ++ more)
    ≡ put_first back others ++ more
put_first-append None others more = refl
put_first-append (Some piece) others more = refl

-- The command that the reader returns is taken, where the connection continues, its window has room, and the pending
-- reply and the pieces were put behind the others.
pub opens : (old new : Conn) (shown carried : Command) (ticket : Ticket) (moment : ℕ) (may_show : ServerStats → Type 0)
    (server : ServerStats) (pending_reply : PendingReply) → GoesOn old
    → length old.dispatcher.reorder_buffer.pending_replies < old.dispatcher.reorder_buffer.window → ticket.0
    ≡ opened_count old.dispatcher.reorder_buffer →
    NextSays old.reader (next.Command shown) new.reader
    → Plans old.dispatcher.planner.shards ticket moment shown carried pending_reply old.dispatcher.unsent.items
    new.dispatcher.unsent.items →
    (IsTrue (shows_server shown) → may_show server) →
    new.dispatcher.reorder_buffer
    ≡ record old.dispatcher.reorder_buffer {
      pending_replies = old.dispatcher.reorder_buffer.pending_replies
          ++ pending_reply_of_server server pending_reply ∷ [];
    } →
    ((opened : List PendingReply) (accepted : List Shown) (handed : List (List ℕ))
    → IsReorderBuffer old.dispatcher.reorder_buffer opened accepted handed
    → IsReorderBuffer new.dispatcher.reorder_buffer (opened ++ pending_reply_of_server server pending_reply ∷ [])
    accepted handed) →
    new.put_back ≡ old.put_back → new.dispatcher.planner.shards ≡ old.dispatcher.planner.shards → new.dispatcher.log
    ≡ old.dispatcher.log ++ carrying_out moment server carried ∷ [] → new.broken ≡ old.broken →
    IfConn old (λ flow. TakesCommand flow moment may_show ticket new)
unfolding IsConn
opens old new shown carried ticket moment may_show server pending_reply on room number says plan may_be_shown
    reorder_buffer joins put_back shards log broken flow h =
    let said = says flow.rules flow.fed flow.ended h.given h.read in
    let given = said.0 in
    let is = said.1.shown_is in
    let one : Taken = record {
      entry = given.entry;
      moment = moment;
      server = server;
      given_up = given.given_up || plan.given_up;
    } in
    let whole : unless_given_up plan.given_up shown ≡ planned one =
    planned_is given.given_up plan.given_up given.entry shown is in
    let same : carried ≡ planned one = plan.carried_is ∙ whole in
    let Shows : Command → Type 0 = λ asked. IsTrue (shows_server asked) in
    let may : MayBeTaken one = may_be given.given_up plan.given_up given.entry shown is said.1.may plan.may in
    let pending_replies = waiting_is old flow h in
    let window = h.window in
    let opened = opened_length old.dispatcher.reorder_buffer (all_pending_replies flow) flow.accepted h.texts h.joined
    in
    let long = length-pending_replies flow.shards 0 flow.taken in
    let place : ticket.0 ≡ length flow.taken = omega (arith, number, opened, long) in
    let behind : ticket.0 ≡ 0 + length flow.taken = omega (arith, place) in
    let below : length flow.taken < flow.handed + flow.window = omega (arith, pending_replies, window, room) in
    let spelled : entries_of (h.given ++ given ∷ []) ≡ commands_of (flow.taken ++ one ∷ []) =
    map-append (λ (g : Given). g.entry) h.given (given ∷ [])
    ∙ (ap (λ es. es ++ given.entry ∷ []) h.spelled ∙ sym (map-append (λ (t : Taken). t.entry) flow.taken (one ∷ []))) in
    let Begin : List Command → Type 0 = λ entries. BeginCommands flow.rules flow.fed entries in
    let pending_reply_is : pending_reply_of_server server pending_reply
    ≡ pending_reply_at flow.shards (0 + length flow.taken) one =
    ap (λ f. pending_reply_of_server server f)
    (plan.pending_reply_is ∙
    (ap (λ k. pending_reply_of k ticket carried) h.shards
    ∙ (ap (λ command. pending_reply_of flow.shards ticket command) same
    ∙ ap (λ k. pending_reply_of flow.shards (ticket_at k) (planned one)) behind))) in
    let Joined : List PendingReply → Type 0 =
    λ fs. IsReorderBuffer new.dispatcher.reorder_buffer fs flow.accepted h.texts in
    let all_is : all_pending_replies flow ++ pending_reply_of_server server pending_reply ∷ []
    ≡ pending_replies_of flow.shards (flow.taken ++ one ∷ []) =
    ap (λ f. all_pending_replies flow ++ f ∷ []) pending_reply_is
    ∙ sym (pending_replies-push flow.shards 0 flow.taken one) in
    let more : List (ℕ × Piece) = pieces_from flow.shards (0 + length flow.taken) (one ∷ []) in
    let added : parts_from 0 ticket moment (pieces_of old.dispatcher.planner.shards carried) ≡ more =
    ap (λ k. parts_from 0 ticket moment (pieces_of k carried)) h.shards
    ∙ (ap (λ command. parts_from 0 ticket moment (pieces_of flow.shards command)) same
    ∙ (ap (λ k. parts_from 0 (ticket_at k) moment (pieces_of flow.shards (planned one))) behind
    ∙ sym (append-nil (parts_from 0 (ticket_at (0 + length flow.taken)) moment (pieces_of flow.shards (planned one))))))
    in
    let longer = pieces_from-append flow.shards 0 flow.taken (one ∷ []) in
    let within = h.within in
    record {
      one = one;
      moment_is = refl;
      shown = λ shows. may_be_shown (shows_whole plan.given_up shown (subst Shows (sym whole) shows));
      may = may;
      next = subst Begin spelled said.2;
      number = place;
      room = below;
      whole = unbroken flow (on flow h);
      now = record {
        given = h.given ++ given ∷ [];
        texts = h.texts;
        shards = shards ∙ h.shards;
        window = ap (λ (held : Held). held.window) reorder_buffer ∙ h.window;
        broken = broken ∙ h.broken;
        read = said.3;
        spelled = spelled;
        may = all_push MayBeTaken flow.taken one h.may may;
        logged =
            log ∙ (ap (λ (l : List Taken). l ++ carrying_out moment server carried ∷ []) h.logged
            ∙ (ap (λ (command : Command). map carried_out flow.taken ++ carrying_out moment server command ∷ []) same
            ∙ sym (map-append carried_out flow.taken (one ∷ []))));
        joined = subst Joined all_is (joins (all_pending_replies flow) flow.accepted h.texts h.joined);
        handed = h.handed;
        bounded = omega (arith, below, length-append flow.taken (one ∷ []));
        works = λ whole. ap (λ (held : Held). held.gone) reorder_buffer ∙ h.works (sym broken ∙ whole);
        within = omega (arith, within, ap length longer, length-append (all_pieces flow) more);
        unsent =
            ap (λ back. put_first back new.dispatcher.unsent.items) put_back
            ∙ (ap (λ items. put_first old.put_back items)
            (plan.unsent ∙ ap (λ ps. old.dispatcher.unsent.items ++ ps) added)
            ∙ (put_first-append old.put_back old.dispatcher.unsent.items more
            ∙ (ap (λ ps. ps ++ more) h.unsent
            ∙ (sym (drop-append-le flow.out (all_pieces flow) more h.within)
            ∙ ap (λ ps. drop flow.out ps) (sym longer)))));
        lent = rw put_back h.lent;
      };
    }

-- A command that shows nothing of the server is taken at once.
pub opens_plain : (old new : Conn) (shown carried : Command) (ticket : Ticket) (moment : ℕ)
    (may_show : ServerStats → Type 0) (pending_reply : PendingReply) → GoesOn old
    → length old.dispatcher.reorder_buffer.pending_replies < old.dispatcher.reorder_buffer.window → ticket.0
    ≡ opened_count old.dispatcher.reorder_buffer →
    NextSays old.reader (next.Command shown) new.reader
    → Plans old.dispatcher.planner.shards ticket moment shown carried pending_reply old.dispatcher.unsent.items
    new.dispatcher.unsent.items →
    shows_server shown ≡ false →
    new.dispatcher.reorder_buffer
    ≡ record old.dispatcher.reorder_buffer
    { pending_replies = old.dispatcher.reorder_buffer.pending_replies ++ pending_reply ∷ [] } →
    ((opened : List PendingReply) (accepted : List Shown) (handed : List (List ℕ))
    → IsReorderBuffer old.dispatcher.reorder_buffer opened accepted handed
    → IsReorderBuffer new.dispatcher.reorder_buffer (opened ++ pending_reply ∷ []) accepted handed) →
    new.put_back ≡ old.put_back → new.dispatcher.planner.shards ≡ old.dispatcher.planner.shards → new.dispatcher.log
    ≡ old.dispatcher.log ++ carrying_out moment no_server carried ∷ [] → new.broken ≡ old.broken →
    IfConn old (λ flow. TakesCommand flow moment may_show ticket new)
opens_plain old new shown carried ticket moment may_show pending_reply on room number says plan none reorder_buffer
    joins put_back shards log broken =
    let none_planned : shows_server carried ≡ false = ap shows_server plan.carried_is
    ∙ shows_none plan.given_up shown none in
    let same : pending_reply_of_server no_server pending_reply ≡ pending_reply =
    ap (λ f. pending_reply_of_server no_server f) plan.pending_reply_is
    ∙ (same_pending_reply no_server old.dispatcher.planner.shards ticket carried none_planned
    ∙ sym plan.pending_reply_is) in
    let Joined : PendingReply → Type 0 = λ f. new.dispatcher.reorder_buffer
    ≡ record old.dispatcher.reorder_buffer { pending_replies = old.dispatcher.reorder_buffer.pending_replies ++ f ∷ [] }
    in
    let Joins : PendingReply → Type 0 = λ f.
    (opened : List PendingReply) (accepted : List Shown) (handed : List (List ℕ))
    → IsReorderBuffer old.dispatcher.reorder_buffer opened accepted handed
    → IsReorderBuffer new.dispatcher.reorder_buffer (opened ++ f ∷ []) accepted handed in
    opens old new shown carried ticket moment may_show no_server pending_reply on room number says plan
    (λ shows. absurd (false≢true (sym none ∙ shows)))
    (subst Joined (sym same) reorder_buffer) (subst Joins (sym same) joins) put_back shards log broken

-- The command that the reader returns is taken: `stats` is opened once it was noted, and any other at once.
pub gives : (old new : Conn) (some : 0 < old.dispatcher.planner.shards) (after : Dispatcher) (shown : Command)
    (ticket : Ticket) (moment : ℕ) (may_show : ServerStats → Type 0) → GoesOn old
    → length old.dispatcher.reorder_buffer.pending_replies < old.dispatcher.reorder_buffer.window → ticket.0
    ≡ opened_count old.dispatcher.reorder_buffer →
    NextSays old.reader (next.Command shown) new.reader →
    TakesIn (record old.dispatcher {
      planner = record old.dispatcher.planner { ticket = ticket; moment = moment; some_shards = some };
      stats_asked = false;
    }) shown after →
    OpensNoted may_show after new.dispatcher → new.put_back ≡ old.put_back → new.broken ≡ old.broken →
    IfConn old (λ flow. TakesCommand flow moment may_show ticket new)
gives old new some after shown ticket moment may_show on room number says takes noted put_back broken =
    let before : Dispatcher =
    record old.dispatcher {
      planner = record old.dispatcher.planner
          { ticket = ticket; moment = moment; some_shards = some };
      stats_asked = false;
    } in
    elim after.stats_asked as
    (λ b. after.stats_asked ≡ b
    → MatchBool b ((server : ServerStats) × may_show server × OpensStats after server new.dispatcher)
    (new.dispatcher ≡ after) → IfConn old (λ flow. TakesCommand flow moment may_show ticket new)) [
      | true ↦ λ is_noted by.
          let is = stats_noted before after shown refl is_noted takes in
          let Opened : Dispatcher → Type 0 = λ d. OpensStats d by.0 new.dispatcher in
          let opened : OpensStats (record before { stats_asked = true }) by.0 new.dispatcher = subst Opened is.1 by.2 in
          let Planned : Command → Type 0 =
          λ asked. Plans old.dispatcher.planner.shards ticket moment asked opened.carried opened.pending_reply
          old.dispatcher.unsent.items new.dispatcher.unsent.items in
          opens old new shown opened.carried ticket moment may_show by.0 opened.pending_reply on room number says
          (subst Planned (sym is.0) opened.plan) (λ shows. by.1) opened.reorder_buffer opened.joins put_back
          opened.shards opened.log_is broken
      | false ↦ λ none by.
          let is = none_noted before after shown none takes in
          let Opened : Dispatcher → Type 0 = λ d. OpensPendingReply before shown d in
          let opened : OpensPendingReply before shown new.dispatcher = subst Opened (sym by) is.1 in
          opens_plain old new shown opened.carried ticket moment may_show opened.pending_reply on room number says
          opened.plan is.0 opened.reorder_buffer opened.joins put_back opened.shards opened.log_is broken
    ] refl noted
