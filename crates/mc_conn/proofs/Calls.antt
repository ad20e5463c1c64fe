-- What each call makes of what came in at a connection and what went out.
use Rattle.std.proofs.Common.{◌≡◌, ℕ, ◌+◌, ◌<◌, ◌≤◌, ◌==◌, ◌↔◌, Bool, true, false, not, inl, inr, List, [], ◌∷◌, ◌++◌}
use Rattle.std.proofs.Common.{length, drop, Some, None, IsTrue, refl, sym, ap, subst, ◌∙◌, arith, length-drop}
use Rattle.std.specs.Prelude.{Option, Result, Ok, Err, OnOk, OnErr, IfNone, IfSome, is_some}
use Rattle.std.specs.List.{slice_get}
use Rattle.std.proofs.lemmas.Bool.{false≢true}
use Rattle.std.proofs.lemmas.Bool.Decides.{nat_tests}
use Rattle.std.proofs.lemmas.List.{at_drop_more}
use Rattle.std.proofs.lemmas.Option.{get_or_from_slice_get, slice_get_within}
use Rattle.mc_command.specs.declared.command.Command.{Command}
use Rattle.mc_reader.specs.Reader.{IfReader, IsAmidSkipped, IsClosedLine, IsReader, entries_of}
use Rattle.mc_reader.specs.Spelling.{SpellsFront, is_closed}
use Rattle.mc_ring.specs.Reply.{Shown}
use Rattle.mc_reply.specs.declared.pending_reply.PendingReply.{PendingReply}
use Rattle.mc_split.specs.declared.plan.Piece.{Piece}
use Rattle.mc_join.specs.Held.{Held, TakesIn}
use Rattle.mc_join.specs.Joined.{IsReorderBuffer}
use Rattle.mc_join.specs.Replies.{replies}
use Rattle.mc_join.proofs.Joins.{opened_length, slice_get-drop}
use Rattle.mc_conn.specs.declared.conn.Conn.{Conn}
use Rattle.mc_conn.specs.internal.Inside.{HasFlow, put_first}
use Rattle.mc_join.specs.Expects.{Expects}
use Rattle.mc_conn.specs.Flow.{Flow, IsAllTaken, IsAtRest, IsOver, IsShut, EndsAmidSkipped, LeavesUnread}
use Rattle.mc_conn.specs.Flow.{all_pending_replies, all_pieces, all_texts}
use Rattle.mc_conn.proofs.PendingReplies.{length-pending_replies}

-- A call took no command and handed out nothing: what it made of the reader, of the answers and of the pieces is all
-- that is new.
pub stays_flow : (old new : Conn) (flow : Flow) (out : ℕ) (lent : Bool) (accepted : List Shown)
    (h : HasFlow old flow) → new.dispatcher.planner.shards ≡ old.dispatcher.planner.shards → new.dispatcher.log
    ≡ old.dispatcher.log → new.broken ≡ old.broken →
    IsReader new.reader flow.rules flow.fed flow.ended h.given → new.dispatcher.reorder_buffer.window
    ≡ old.dispatcher.reorder_buffer.window → new.dispatcher.reorder_buffer.gone ≡ old.dispatcher.reorder_buffer.gone
    → IsReorderBuffer new.dispatcher.reorder_buffer (all_pending_replies flow) accepted h.texts →
    out ≤ length (all_pieces flow) → put_first new.put_back new.dispatcher.unsent.items ≡ drop out (all_pieces flow)
    → (IsTrue lent → (new.put_back ≡ None) × (0 < out)) →
    HasFlow new (record flow { out = out; lent = lent; accepted = accepted })
stays_flow old new flow out lent accepted h shards log broken read window gone joined within unsent lent_is = record {
  given = h.given;
  texts = h.texts;
  shards = shards ∙ h.shards;
  window = window ∙ h.window;
  broken = broken ∙ h.broken;
  read = read;
  spelled = h.spelled;
  may = h.may;
  logged = log ∙ h.logged;
  joined = joined;
  handed = h.handed;
  bounded = h.bounded;
  works = λ whole. gone ∙ h.works (sym broken ∙ whole);
  within = within;
  unsent = unsent;
  lent = lent_is;
}

-- And the reorder buffer is the same.
pub reorder_buffer_stays : (old new : Conn) (flow : Flow) (out : ℕ) (lent : Bool) (h : HasFlow old flow)
    → new.dispatcher.planner.shards ≡ old.dispatcher.planner.shards → new.dispatcher.log ≡ old.dispatcher.log
    → new.broken ≡ old.broken →
    IsReader new.reader flow.rules flow.fed flow.ended h.given → new.dispatcher.reorder_buffer
    ≡ old.dispatcher.reorder_buffer →
    out ≤ length (all_pieces flow) → put_first new.put_back new.dispatcher.unsent.items ≡ drop out (all_pieces flow)
    → (IsTrue lent → (new.put_back ≡ None) × (0 < out)) →
    HasFlow new (record flow { out = out; lent = lent })
reorder_buffer_stays old new flow out lent h shards log broken read reorder_buffer =
    stays_flow old new flow out lent flow.accepted h shards log broken read
    (ap (λ (held : Held). held.window) reorder_buffer) (ap (λ (held : Held). held.gone) reorder_buffer)
    (rw reorder_buffer h.joined)

-- A reply is accepted.
pub accepts : {A B : Type 0} (result : Result A B) (old new : Conn) (reply : Shown) →
    new.reader ≡ old.reader → new.dispatcher.unsent ≡ old.dispatcher.unsent → new.put_back ≡ old.put_back
    → new.dispatcher.planner.shards ≡ old.dispatcher.planner.shards → new.dispatcher.log ≡ old.dispatcher.log
    → new.broken ≡ old.broken →
    OnOk result ((opened : List PendingReply) (accepted : List Shown) (handed : List (List ℕ))
    → IsReorderBuffer old.dispatcher.reorder_buffer opened accepted handed → Expects opened accepted reply)
    → OnOk result (TakesIn old.dispatcher.reorder_buffer new.dispatcher.reorder_buffer reply) →
    OnOk result ((opened : List PendingReply) (accepted : List Shown) (handed : List (List ℕ))
    → IsReorderBuffer old.dispatcher.reorder_buffer opened accepted handed
    → IsReorderBuffer new.dispatcher.reorder_buffer opened (accepted ++ reply ∷ []) handed) →
    OnOk result ((flow : Flow) → HasFlow old flow → Expects (all_pending_replies flow) flow.accepted reply
    × HasFlow new (record flow { accepted = flow.accepted ++ reply ∷ [] }))
accepts (Ok done) old new reply reader unsent put_back shards log broken expected takes joins = λ flow h. (
  expected (all_pending_replies flow) flow.accepted h.texts h.joined,
  stays_flow old new flow flow.out flow.lent (flow.accepted ++ reply ∷ []) h shards log broken (rw reader h.read)
      (ap (λ (held : Held). held.window) takes.after) (ap (λ (held : Held). held.gone) takes.after)
      (joins (all_pending_replies flow) flow.accepted h.texts h.joined) h.within (rw (put_back, unsent) h.unsent)
      (rw put_back h.lent),
)
accepts (Err fault) old new reply reader unsent put_back shards log broken expected takes joins = tt

-- An unexpected reply changes nothing.
pub refuses : {A B : Type 0} (result : Result A B) (old new : Conn) (reply : Shown) →
    new.reader ≡ old.reader → new.dispatcher.unsent ≡ old.dispatcher.unsent → new.put_back ≡ old.put_back
    → new.dispatcher.planner.shards ≡ old.dispatcher.planner.shards → new.dispatcher.log ≡ old.dispatcher.log
    → new.broken ≡ old.broken →
    OnErr result ((opened : List PendingReply) (accepted : List Shown) (handed : List (List ℕ))
    → IsReorderBuffer old.dispatcher.reorder_buffer opened accepted handed → ¬ Expects opened accepted reply)
    → OnErr result (new.dispatcher.reorder_buffer ≡ old.dispatcher.reorder_buffer) →
    OnErr result ((flow : Flow) → HasFlow old flow → (¬ Expects (all_pending_replies flow) flow.accepted reply)
    × HasFlow new flow)
refuses (Ok done) old new reply reader unsent put_back shards log broken unexpected same = tt
refuses (Err fault) old new reply reader unsent put_back shards log broken unexpected same = λ flow h. (
  unexpected (all_pending_replies flow) flow.accepted h.texts h.joined,
  reorder_buffer_stays old new flow flow.out flow.lent h shards log broken (rw reader h.read) same h.within
      (rw (put_back, unsent) h.unsent) (rw put_back h.lent),
)

drop_at : {X : Type 0} (n : ℕ) (xs : List X) (x : X) → slice_get xs n ≡ Some x → drop n xs ≡ x ∷ drop (n + 1) xs
drop_at n xs x here =
    at_drop_more (λ ys. ys) xs n x (slice_get_within xs n x here)
    ∙ ap (λ y. y ∷ drop (n + 1) xs) (get_or_from_slice_get xs n x x here)

get_drop : {X : Type 0} (n : ℕ) (xs : List X) (x : X) (rest : List X) → drop n xs ≡ x ∷ rest → (slice_get xs n ≡ Some x)
    × (rest ≡ drop (n + 1) xs)
get_drop n xs x rest here =
    let at : n ≡ n + 0 = omega arith in
    let found : slice_get xs n ≡ Some x =
    ap (λ k. slice_get xs k) at ∙ (sym (slice_get-drop n 0 xs) ∙ ap (λ ys. slice_get ys 0) here) in
    let next = drop_at n xs x found in
    (found, cc)

-- The oldest piece is taken out.
pub gives : (old new : Conn) (piece : ℕ × Piece) →
    new.reader ≡ old.reader → new.dispatcher.reorder_buffer ≡ old.dispatcher.reorder_buffer
    → new.dispatcher.planner.shards ≡ old.dispatcher.planner.shards → new.dispatcher.log ≡ old.dispatcher.log
    → new.broken ≡ old.broken → new.put_back ≡ None →
    put_first old.put_back old.dispatcher.unsent.items ≡ piece ∷ new.dispatcher.unsent.items →
    (flow : Flow) → HasFlow old flow → (slice_get (all_pieces flow) flow.out ≡ Some piece)
    × HasFlow new (record flow { out = flow.out + 1; lent = true })
gives old new piece reader reorder_buffer shards log broken none left flow h =
    let at = get_drop flow.out (all_pieces flow) piece new.dispatcher.unsent.items (sym h.unsent ∙ left) in
    let below = slice_get_within (all_pieces flow) flow.out piece at.0 in (
      at.0,
      reorder_buffer_stays old new flow (flow.out + 1) true h shards log broken (rw reader h.read) reorder_buffer
          (omega (arith, below)) (rw none at.1) (λ _. (none, omega arith)),
    )

-- A piece of the queue is the oldest that has not left, where none was put back.
pub gives_front : (result : Option (ℕ × Piece)) (old new : Conn) →
    new.reader ≡ old.reader → new.dispatcher.reorder_buffer ≡ old.dispatcher.reorder_buffer
    → new.dispatcher.planner.shards ≡ old.dispatcher.planner.shards → new.dispatcher.log ≡ old.dispatcher.log →
    new.broken ≡ old.broken → new.put_back ≡ None → old.put_back ≡ None →
    IfSome result (λ piece. old.dispatcher.unsent.items ≡ piece ∷ new.dispatcher.unsent.items) →
    IfSome result (λ piece. (flow : Flow) → HasFlow old flow → (slice_get (all_pieces flow) flow.out ≡ Some piece)
    × HasFlow new (record flow { out = flow.out + 1; lent = true }))
gives_front None old new reader reorder_buffer shards log broken none before left = tt
gives_front (Some piece) old new reader reorder_buffer shards log broken none before left =
    gives old new piece reader reorder_buffer shards log broken none (rw before left)

-- A piece that was put back is the oldest that has not left.
pub gives_back : (result : Option (ℕ × Piece)) (old new : Conn) →
    new.reader ≡ old.reader → new.dispatcher.reorder_buffer ≡ old.dispatcher.reorder_buffer
    → new.dispatcher.planner.shards ≡ old.dispatcher.planner.shards → new.dispatcher.log ≡ old.dispatcher.log
    → new.broken ≡ old.broken → new.put_back ≡ None → result ≡ old.put_back → new.dispatcher.unsent
    ≡ old.dispatcher.unsent →
    IfSome result (λ piece. (flow : Flow) → HasFlow old flow → (slice_get (all_pieces flow) flow.out ≡ Some piece)
    × HasFlow new (record flow { out = flow.out + 1; lent = true }))
gives_back None old new reader reorder_buffer shards log broken none taken unsent = tt
gives_back (Some piece) old new reader reorder_buffer shards log broken none taken unsent =
    gives old new piece reader reorder_buffer shards log broken none (rw (← taken, unsent) refl)

-- None was put back.
pub none_back : (back : Option (ℕ × Piece)) (found : Bool) → found ≡ is_some back → found ≡ false → back ≡ None
none_back None found is not_found = refl
none_back (Some piece) found is not_found = absurd (false≢true (sym not_found ∙ is))

-- The piece that was taken out last is put back.
pub takes_back : (old new : Conn) (piece : ℕ × Piece) →
    new.reader ≡ old.reader → new.dispatcher.reorder_buffer ≡ old.dispatcher.reorder_buffer
    → new.dispatcher.planner.shards ≡ old.dispatcher.planner.shards → new.dispatcher.log ≡ old.dispatcher.log
    → new.broken ≡ old.broken → new.put_back ≡ Some piece → new.dispatcher.unsent ≡ old.dispatcher.unsent →
    (flow : Flow) (before : ℕ) → HasFlow old flow → IsTrue flow.lent → flow.out ≡ before + 1
    → slice_get (all_pieces flow) before ≡ Some piece →
    HasFlow new (record flow { out = before; lent = false })
takes_back old new piece reader reorder_buffer shards log broken back unsent flow before h lent out here =
    let within = h.within in
    let none = (h.lent lent).0 in
    let items : old.dispatcher.unsent.items ≡ drop flow.out (all_pieces flow) = rw none at h.unsent in
    reorder_buffer_stays old new flow before false h shards log broken (rw reader h.read) reorder_buffer
    (omega (arith, within, out))
    (rw (back, unsent) (ap (λ rest. piece ∷ rest) (items ∙ ap (λ n. drop n (all_pieces flow)) out)
    ∙ sym (drop_at before (all_pieces flow) piece here)))
    (λ yes. absurd (false≢true yes))

-- how many tickets are open
pub waiting_is : (conn : Conn) (flow : Flow) → HasFlow conn flow
    → flow.handed + length conn.dispatcher.reorder_buffer.pending_replies ≡ length flow.taken
waiting_is conn flow h =
    let opened = opened_length conn.dispatcher.reorder_buffer (all_pending_replies flow) flow.accepted h.texts h.joined
    in
    let long = length-pending_replies flow.shards 0 flow.taken in
    let count = h.joined.count in
    let handed = h.handed in
    omega (arith, opened, long, count, handed)

-- no piece is left
nothing_left : (conn : Conn) (flow : Flow) → HasFlow conn flow → conn.put_back ≡ None
    → length conn.dispatcher.unsent.items ≡ 0 → flow.out ≡ length (all_pieces flow)
nothing_left conn flow h none empty =
    let items : conn.dispatcher.unsent.items ≡ drop flow.out (all_pieces flow) = rw none at h.unsent in
    let within = h.within in
    omega (arith, within, empty, ap length items, length-drop flow.out (all_pieces flow))

-- None is left.
pub gives_none : (result : Option (ℕ × Piece)) (old new : Conn) →
    new.reader ≡ old.reader → new.dispatcher.reorder_buffer ≡ old.dispatcher.reorder_buffer
    → new.dispatcher.planner.shards ≡ old.dispatcher.planner.shards → new.dispatcher.log ≡ old.dispatcher.log →
    new.broken ≡ old.broken → new.put_back ≡ old.put_back → old.put_back ≡ None
    → IfNone result (old.dispatcher.unsent.items ≡ []) → IfNone result (new.dispatcher.unsent.items ≡ []) →
    IfNone result ((flow : Flow) → HasFlow old flow → (flow.out ≡ length (all_pieces flow)) × HasFlow new flow)
gives_none (Some piece) old new reader reorder_buffer shards log broken back none before left = tt
gives_none None old new reader reorder_buffer shards log broken back none before left = λ flow h.
    let same : new.dispatcher.unsent.items ≡ old.dispatcher.unsent.items = left ∙ sym before in (
      nothing_left old flow h none (ap length before),
      reorder_buffer_stays old new flow flow.out flow.lent h shards log broken (rw reader h.read) reorder_buffer
          h.within (rw (back, same) h.unsent) (rw back h.lent),
    )

same_number : (a b : ℕ) → IsTrue (a == b) ↔ (a ≡ b)
same_number a b = (λ e. grind (arith, nat_tests), λ e. grind (arith, nat_tests))

-- when a broken connection is at rest
pub rest_broken : (conn : Conn) (flow : Flow) (passes waiting : ℕ) → flow.out ≡ length (all_pieces flow)
    → conn.broken ≡ true →
    ((opened : List PendingReply) (accepted : List Shown) (handed : List (List ℕ))
    → IsReorderBuffer conn.dispatcher.reorder_buffer opened accepted handed → length handed + passes
    ≡ length (replies opened accepted)) →
    waiting ≡ length conn.dispatcher.reorder_buffer.pending_replies → HasFlow conn flow → IsTrue (passes == waiting)
    ↔ IsAtRest flow
rest_broken conn flow passes waiting sent broken passed tickets h =
    let flow_broken : flow.broken ≡ true = sym h.broken ∙ broken in
    let texts = passed (all_pending_replies flow) flow.accepted h.texts h.joined in
    let handed = h.handed in
    let pending_replies = waiting_is conn flow h in (
      λ same.
          let e = (same_number passes waiting).0 same in
          let all : length (all_texts flow) ≡ length flow.taken =
          omega (arith, texts, handed, pending_replies, tickets, e) in
          record { sent = sent; done = rw flow_broken all },
      λ rest.
          let all : length (all_texts flow) ≡ length flow.taken = rw flow_broken at rest.done in
          (same_number passes waiting).1 (omega (arith, texts, handed, pending_replies, tickets, all)),
    )

-- when an unbroken one is
pub rest_whole : (conn : Conn) (flow : Flow) (waiting : ℕ) → flow.out ≡ length (all_pieces flow)
    → conn.broken ≡ false → IsAllTaken flow →
    waiting ≡ length conn.dispatcher.reorder_buffer.pending_replies → HasFlow conn flow → IsTrue (waiting == 0)
    ↔ IsAtRest flow
rest_whole conn flow waiting sent broken all tickets h =
    let flow_broken : flow.broken ≡ false = sym h.broken ∙ broken in
    let pending_replies = waiting_is conn flow h in (
      λ same.
          let e = (same_number waiting 0).0 same in
          let handed : flow.handed ≡ length flow.taken = omega (arith, pending_replies, tickets, e) in
          record { sent = sent; done = rw flow_broken (all, handed) },
      λ rest.
          let done : IsAllTaken flow × (flow.handed ≡ length flow.taken) = rw flow_broken at rest.done in
          let handed = done.1 in
          (same_number waiting 0).1 (omega (arith, pending_replies, tickets, handed)),
    )

-- what the reader's test says of the last command taken
pub shut_is : (conn : Conn) (closed : Bool)
    → IfReader conn.reader (λ rules fed ended given. IsTrue closed ↔ IsClosedLine given) →
    (flow : Flow) → HasFlow conn flow → IsTrue closed ↔ IsShut flow
shut_is conn closed says flow h =
    let P : List Command → Type 0 = λ entries. IsTrue closed ↔ IsTrue (is_closed entries) in
    subst P h.spelled (says flow.rules flow.fed flow.ended h.given h.read)

-- An ended connection continues only while some command is not taken.
pub over_at_end : (flow : Flow) (whole : Bool) → flow.broken ≡ false → ¬ IsShut flow → IsTrue flow.ended
    → ((whole ≡ false) ↔ IsAllTaken flow) → IsTrue (not whole) ↔ IsOver flow
over_at_end flow true unbroken on ended says = (
  λ none. absurd (false≢true none),
  λ over. elim over [
    | inl broken ↦ absurd (false≢true (sym unbroken ∙ broken))
    | inr closed ↦ elim closed [
      | inl shut ↦ absurd (on shut)
      | inr done ↦ absurd (false≢true (sym (says.1 done.1)))
    ]
  ],
)
over_at_end flow false unbroken on ended says = (λ _. inr (inr (ended, says.0 refl)), λ _. refl)

-- A connection with a command that is not taken is not at rest.
pub rest_unread : (flow : Flow) (whole : Bool) → flow.broken ≡ false → not whole ≡ false
    → ((whole ≡ false) ↔ IsAllTaken flow) → IsTrue (not whole) ↔ IsAtRest flow
rest_unread flow whole unbroken unread says = (
  λ none. absurd (false≢true (sym unread ∙ none)),
  λ rest.
      let done : IsAllTaken flow × (flow.handed ≡ length flow.taken) = rw unbroken at rest.done in
      absurd (false≢true (sym unread ∙ ap not (says.1 done.0))),
)

-- What is skipped behind the commands taken is skipped behind those that the reader returned.
pub amid_skipped : (conn : Conn) (flow : Flow) (h : HasFlow conn flow) → EndsAmidSkipped flow
    → IsAmidSkipped flow.rules flow.fed h.given
amid_skipped conn flow h skips =
    let Front : List Command → Type 0 =
    λ entries. SpellsFront flow.rules 0 flow.fed entries (skips.line ++ 10 ∷ skips.skipped) in
    let On : List Command → Type 0 = λ entries. is_closed entries ≡ false in
    record {
      line = skips.line;
      skipped = skips.skipped;
      discarded = skips.discarded;
      refusal = skips.refusal;
      count = skips.count;
      front = subst Front (sym h.spelled) skips.front;
      goes_on = subst On (sym h.spelled) skips.goes_on;
      no_end = skips.no_end;
      says = skips.says;
      behind = skips.behind;
    }

-- What is unread behind the commands taken is unread behind those that the reader returned.
pub unread_behind : (conn : Conn) (flow : Flow) (h : HasFlow conn flow) (unread : List ℕ) → LeavesUnread flow unread
    → SpellsFront flow.rules 0 flow.fed (entries_of h.given) unread × (is_closed (entries_of h.given) ≡ false)
unread_behind conn flow h unread leaves =
    let P : List Command → Type 0 = λ entries. SpellsFront flow.rules 0 flow.fed entries unread
    × (is_closed entries ≡ false) in
    subst P (sym h.spelled) (leaves.used, leaves.goes_on)
