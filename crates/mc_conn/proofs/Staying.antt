-- What holds of every connection, and what stays as it continues.
use Rattle.std.proofs.Common.{◌≡◌, ℕ, ◌+◌, List, [], ◌∷◌, ◌++◌, length, map, take, drop, refl, sym, ap, subst, ◌∙◌}
use Rattle.std.proofs.Common.{arith}
use Rattle.std.specs.List.{slice_set}
use Rattle.std.proofs.lemmas.List.{length-map}
use Rattle.std.proofs.lemmas.List.Sums.{prefix_len-le-length}
use Rattle.mc_command.specs.declared.command.Command.{Command}
use Rattle.mc_reader.specs.Reader.{IsReader}
use Rattle.mc_reader.specs.Spelling.{BeginCommands}
use Rattle.mc_ring.specs.Reply.{Shown}
use Rattle.mc_reply.specs.declared.pending_reply.PendingReply.{PendingReply}
use Rattle.mc_join.specs.Held.{Held, AreNumbered, Fills, with_answer}
use Rattle.mc_join.specs.Joined.{IsReorderBuffer}
use Rattle.mc_join.specs.Replies.{answered, is_answered}
use Rattle.mc_join.proofs.Joins.{all_answered, handed_within, join_accept, join_open, opened_length, passed_count}
use Rattle.mc_join.proofs.Queues.{numbered_along, numbered_drop}
use Rattle.mc_conn.specs.declared.conn.Conn.{Conn}
use Rattle.mc_conn.specs.Conn.{IsConn}
use Rattle.mc_conn.specs.Due.{pending_reply_at}
use Rattle.mc_join.specs.Expects.{Expects}
use Rattle.mc_conn.specs.History.{Taken}
use Rattle.mc_conn.specs.Flow.{Flow, IsSound, KeepsHanded, all_pending_replies, all_texts}
use Rattle.mc_conn.proofs.Counting.{length-replies}
use Rattle.mc_join.proofs.Expecting.{awaited_from}
use Rattle.mc_conn.proofs.PendingReplies.{pending_replies-push, length-pending_replies}

-- Every connection took only commands that its bytes spell, has no more open than its window has room for, and handed
-- out only replies whose turn has come.
pub is_sound : (conn : Conn) (flow : Flow) → IsConn conn flow → IsSound flow
unfolding IsConn IsReader
is_sound conn flow h =
    let Begin : List Command → Type 0 = λ entries. BeginCommands flow.rules flow.fed entries in
    let passed = passed_count conn.dispatcher.reorder_buffer (all_pending_replies flow) flow.accepted h.texts h.joined
    in
    let handed = h.handed in
    let opened = all_pending_replies flow in
    let most = prefix_len-le-length is_answered (map (answered flow.accepted) opened) in
    record {
      begin = subst Begin h.spelled (h.read.unread, h.read.front);
      may = h.may;
      handed = omega (arith, passed, handed);
      complete =
          omega (
            arith,
            most,
            length-replies opened flow.accepted,
            length-map opened (answered flow.accepted),
            length-pending_replies flow.shards 0 flow.taken,
          );
      bounded = h.bounded;
      out = h.within;
    }

-- Two lists of which the texts handed out are a beginning.
both_begin : (n : ℕ) (texts before after : List (List ℕ)) → length texts ≡ n → texts ≡ take (length texts) before
    → texts ≡ take (length texts) after → take n after ≡ take n before
both_begin n texts before after long old new =
    ap (λ k. take k after) (sym long) ∙ (sym new ∙ (old ∙ ap (λ k. take k before) long))

numbered_answered : (n : ℕ) (accepted : List Shown) (pending_replies : List PendingReply)
    → AreNumbered n pending_replies → AreNumbered n (map (answered accepted) pending_replies)
numbered_answered n accepted [] numbered = tt
numbered_answered n accepted (pending_reply ∷ pending_replies) numbered =
    (numbered.0, numbered_answered (n + 1) accepted pending_replies numbered.1)

numbered_held : (held : Held) (opened : List PendingReply) (accepted : List Shown) (handed : List (List ℕ))
    → IsReorderBuffer held opened accepted handed → AreNumbered held.handed held.pending_replies
numbered_held held opened accepted handed j =
    let pending_replies = all_answered opened accepted in
    let within = handed_within pending_replies handed j.beginning in
    let count = j.count in
    let all = numbered_drop 0 (length handed) pending_replies (numbered_answered 0 accepted opened j.numbered)
    (omega (arith, within, prefix_len-le-length is_answered pending_replies)) in
    let P : List PendingReply → Type 0 = λ fs. AreNumbered held.handed fs in
    subst P (sym j.rest) (numbered_along (0 + length handed) held.handed (drop (length handed) pending_replies)
    (omega (arith, count)) all)

-- the reorder buffer with one reply more
joined_accept : (held : Held) (opened : List PendingReply) (accepted : List Shown) (handed : List (List ℕ))
    (reply : Shown) → IsReorderBuffer held opened accepted handed → Expects opened accepted reply → (new : Held)
    × IsReorderBuffer new opened (accepted ++ reply ∷ []) handed
joined_accept held opened accepted handed reply j expects =
    let awaited = awaited_from held opened accepted handed reply j expects in
    let at = awaited.1 in
    let pending_replies = slice_set held.pending_replies awaited.0
    (with_answer reply.part reply.answer at.pending_reply) in
    let new : Held = record held { pending_replies = pending_replies } in
    let fills : Fills held.pending_replies new.pending_replies awaited.0 reply.part reply.answer =
    record { pending_reply = at.pending_reply; here = at.here; after = refl } in (
      new,
      join_accept held new reply awaited.0 at fills refl (numbered_held held opened accepted handed j) opened
          accepted handed j,
    )

keeps : (flow later : Flow) (held new : Held) (texts : List (List ℕ)) → length texts ≡ flow.handed
    → IsReorderBuffer held (all_pending_replies flow) flow.accepted texts
    → IsReorderBuffer new (all_pending_replies later) later.accepted texts → KeepsHanded flow later
keeps flow later held new texts long old after =
    let passed = passed_count new (all_pending_replies later) later.accepted texts after in
    record {
      within = omega (arith, passed, long);
      same = both_begin flow.handed texts (all_texts flow) (all_texts later) long old.beginning after.beginning;
    }

-- The replies that were handed out stay the same when a reply is accepted that is expected.
pub keeps_accept : (conn : Conn) (flow : Flow) (reply : Shown) → IsConn conn flow
    → Expects (all_pending_replies flow) flow.accepted reply
    → KeepsHanded flow (record flow { accepted = flow.accepted ++ reply ∷ [] })
unfolding IsConn
keeps_accept conn flow reply h expects =
    let after = joined_accept conn.dispatcher.reorder_buffer (all_pending_replies flow) flow.accepted h.texts reply
    h.joined expects in
    keeps flow (record flow { accepted = flow.accepted ++ reply ∷ [] }) conn.dispatcher.reorder_buffer after.0 h.texts
    h.handed h.joined after.1

-- The replies that were handed out stay the same when a command is taken.
pub keeps_take : (conn : Conn) (flow : Flow) (one : Taken) → IsConn conn flow
    → KeepsHanded flow (record flow { taken = flow.taken ++ one ∷ [] })
unfolding IsConn
keeps_take conn flow one h =
    let held = conn.dispatcher.reorder_buffer in
    let pending_reply : PendingReply = pending_reply_at flow.shards (0 + length flow.taken) one in
    let new : Held = record held { pending_replies = held.pending_replies ++ pending_reply ∷ [] } in
    let opened = opened_length held (all_pending_replies flow) flow.accepted h.texts h.joined in
    let more = join_open held new pending_reply (omega (arith, opened, length-pending_replies flow.shards 0 flow.taken))
    refl refl (all_pending_replies flow) flow.accepted h.texts h.joined in
    let P : List PendingReply → Type 0 = λ fs. IsReorderBuffer new fs flow.accepted h.texts in
    keeps flow (record flow { taken = flow.taken ++ one ∷ [] }) held new h.texts h.handed h.joined
    (subst P (sym (pending_replies-push flow.shards 0 flow.taken one)) more)
