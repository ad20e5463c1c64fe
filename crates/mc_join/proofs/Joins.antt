-- What each call makes of the lists that a reorder buffer was given and gave.
use Rattle.std.proofs.Common.{◌≡◌, ℕ, zero, suc, ◌+◌, ◌<◌, ◌≤◌, Bool, true, false, cond, List, [], ◌∷◌, ◌++◌, length}
use Rattle.std.proofs.Common.{map, set, take, drop, Some, None, refl, sym, ap, subst, ◌∙◌, arith, length-append}
use Rattle.std.proofs.Common.{length-drop, length-set}
use Rattle.std.specs.List.{slice_get, AllByRecursion, concat, prefix_len}
use Rattle.std.proofs.lemmas.List.{take_all, take-take, take-append-le, take-set-le, drop-append-le, drop-set-add}
use Rattle.std.proofs.lemmas.List.{drop-drop, drop-take, drop-map, take-map, length-take, length-map, map-append}
use Rattle.std.proofs.lemmas.Option.{same_Some, slice_get_within}
use Rattle.std.proofs.lemmas.List.Folds.{length-prefix_len}
use Rattle.std.proofs.lemmas.List.Sums.{prefix_len-le-length}
use Rattle.circular_buffer.proofs.Places.{slice_get-drop as behind}
use Rattle.mc_ring.specs.Reply.{Shown}
use Rattle.mc_reply.specs.declared.pending_reply.PendingReply.{PendingReply}
use Rattle.mc_reply.specs.declared.ticket.Ticket.{Ticket}
use Rattle.mc_join.specs.Held.{Held, AreNumbered, AwaitsAt, Fills, due_text, opened_count, with_answer}
use Rattle.mc_join.specs.Joined.{IsReorderBuffer, unhanded}
use Rattle.mc_join.specs.Replies.{answered, complete, pending_reply_text, is_answered, replies}
use Rattle.mc_join.proofs.Answered.{pending_replies-filled, answered-none}
use Rattle.mc_join.proofs.Queues.{numbered_at, numbered_more}

-- a test that is counted passes, and the rest of the count is that of the others
pub passes : (test : Bool) (n more : ℕ) → suc n ≤ cond test (1 + more) 0 → (test ≡ true) × (n ≤ more)
passes true n more some = (refl, omega (arith, some))
passes false n more some = absurd (omega (arith, some))

-- a list whose first elements are those of another has as many that pass
prefix_same : {X : Type 0} (p : X → Bool) (n : ℕ) (xs ys : List X) → n ≤ prefix_len p xs → take n xs ≡ take n ys
    → n ≤ length ys → n ≤ prefix_len p ys
prefix_same p zero xs ys within same there = omega arith
prefix_same p (suc n) [] ys within same there = absurd (omega (arith, within))
prefix_same p (suc n) (x ∷ xs) [] within same there = absurd (omega (arith, there))
prefix_same p (suc n) (x ∷ xs) (y ∷ ys) within same there =
    let first = passes (p x) n (prefix_len p xs) within in
    let tails : take n xs ≡ take n ys = cc in
    let passes_too : p y ≡ true = cc (first.0) in
    rw passes_too (omega (arith, prefix_same p n xs ys first.1 tails (omega (arith, there))))

-- behind the first n elements, which all pass, n fewer pass
pub prefix_len-drop : {X : Type 0} (p : X → Bool) (n : ℕ) (xs : List X) → n ≤ prefix_len p xs
    → n + prefix_len p (drop n xs) ≡ prefix_len p xs
prefix_len-drop p zero xs within = omega arith
prefix_len-drop p (suc n) [] within = absurd (omega (arith, within))
prefix_len-drop p (suc n) (x ∷ xs) within =
    let first = passes (p x) n (prefix_len p xs) within in
    rw first.0 (omega (arith, prefix_len-drop p n xs first.1))

-- there are as many replies as pending replies that are complete
length-replies : (pending_replies : List PendingReply) → length (map pending_reply_text (complete pending_replies))
    ≡ prefix_len is_answered pending_replies
length-replies pending_replies =
    length-map (complete pending_replies) pending_reply_text ∙ length-prefix_len is_answered pending_replies

-- what was handed out is within the replies
pub handed_within : (pending_replies : List PendingReply) (handed : List (List ℕ)) → handed
    ≡ take (length handed) (map pending_reply_text (complete pending_replies))
    → length handed ≤ prefix_len is_answered pending_replies
handed_within pending_replies handed beginning =
    omega (
      arith,
      ap length beginning,
      length-take (length handed) (map pending_reply_text (complete pending_replies)),
      length-replies pending_replies,
    )

-- of pending replies that are all complete the replies are the texts
first_texts : (pending_replies : List PendingReply) (n : ℕ) → n ≤ prefix_len is_answered pending_replies
    → take n (map pending_reply_text (complete pending_replies)) ≡ map pending_reply_text (take n pending_replies)
first_texts pending_replies n within =
    take-map pending_reply_text n (complete pending_replies)
    ∙ ap (map pending_reply_text) (take-take n (prefix_len is_answered pending_replies) pending_replies within)

-- the texts written stay a prefix of the replies if the first pending replies stay
beginning-same : (pending_replies new : List PendingReply) (handed : List (List ℕ)) → handed
    ≡ take (length handed) (map pending_reply_text (complete pending_replies)) → take (length handed) pending_replies
    ≡ take (length handed) new → length handed ≤ length new → handed
    ≡ take (length handed) (map pending_reply_text (complete new))
beginning-same pending_replies new handed beginning same there =
    let within = handed_within pending_replies handed beginning in
    let within_new = prefix_same is_answered (length handed) pending_replies new within same there in
    beginning ∙ (first_texts pending_replies (length handed) within
    ∙ (ap (map pending_reply_text) same ∙ sym (first_texts new (length handed) within_new)))

-- the pending replies that were opened, each with the answers accepted for its parts
abbrev pub all_answered : List PendingReply → List Shown → List PendingReply
all_answered opened accepted = map (answered accepted) opened

-- each pending reply that was opened was handed out or is held
pub opened_length : (held : Held) (opened : List PendingReply) (accepted : List Shown) (handed : List (List ℕ))
    → IsReorderBuffer held opened accepted handed → opened_count held ≡ length opened
opened_length held opened accepted handed j =
    let pending_replies = all_answered opened accepted in
    let within = handed_within pending_replies handed j.beginning in
    let left = ap length j.rest ∙ length-drop (length handed) pending_replies in
    omega (arith, within, prefix_len-le-length is_answered pending_replies, length-map opened (answered accepted), left)

asked_more : (n m : ℕ) (accepted : List Shown) → n ≤ m → AllByRecursion (λ reply. reply.ticket.0 < n) accepted
    → AllByRecursion (λ reply. reply.ticket.0 < m) accepted
asked_more n m [] more asked = tt
asked_more n m (reply ∷ accepted) more asked = (omega (arith, asked.0, more), asked_more n m accepted more asked.1)

asked_push : (n : ℕ) (accepted : List Shown) (reply : Shown) → AllByRecursion (λ reply. reply.ticket.0 < n) accepted
    → reply.ticket.0 < n → AllByRecursion (λ reply. reply.ticket.0 < n) (accepted ++ reply ∷ [])
asked_push n [] reply asked below = (below, tt)
asked_push n (first ∷ accepted) reply asked below = (asked.0, asked_push n accepted reply asked.1 below)

-- one pending reply more is opened
pub join_open : (old new : Held) (pending_reply : PendingReply) → pending_reply.ticket.0 ≡ opened_count old → new.handed
    ≡ old.handed → new.pending_replies ≡ old.pending_replies ++ pending_reply ∷ []
    → (opened : List PendingReply) (accepted : List Shown) (handed : List (List ℕ))
    → IsReorderBuffer old opened accepted handed → IsReorderBuffer new (opened ++ pending_reply ∷ []) accepted handed
join_open old new pending_reply next same_handed after opened accepted handed j =
    let pending_replies = all_answered opened accepted in
    let number : pending_reply.ticket.0 ≡ length opened = next ∙ opened_length old opened accepted handed j in
    let fresh = answered-none accepted pending_reply (length opened) j.asked number in
    let more : all_answered (opened ++ pending_reply ∷ []) accepted ≡ pending_replies ++ pending_reply ∷ [] =
    map-append (answered accepted) opened (pending_reply ∷ []) ∙ ap (λ f. pending_replies ++ f ∷ []) fresh in
    let within : length handed ≤ length pending_replies =
    omega (arith, handed_within pending_replies handed j.beginning, prefix_len-le-length is_answered pending_replies) in
    let longer : length handed ≤ length (pending_replies ++ pending_reply ∷ []) =
    omega (arith, within, length-append pending_replies (pending_reply ∷ [])) in
    record {
      numbered = numbered_more 0 opened pending_reply j.numbered (omega (arith, number));
      asked =
          asked_more (length opened) (length (opened ++ pending_reply ∷ [])) accepted
          (omega (arith, length-append opened (pending_reply ∷ []))) j.asked;
      beginning =
          rw more (beginning-same pending_replies (pending_replies ++ pending_reply ∷ []) handed j.beginning
          (sym (take-append-le (length handed) pending_replies (pending_reply ∷ []) within)) longer);
      count = same_handed ∙ j.count;
      rest =
          rw (after, j.rest, more) (sym (drop-append-le (length handed) pending_replies (pending_reply ∷ []) within));
    }

-- the places behind the front of a list
pub slice_get-drop : {X : Type 0} (n i : ℕ) (xs : List X) → slice_get (drop n xs) i ≡ slice_get xs (n + i)
slice_get-drop n i xs = behind n xs i (n + i) refl

-- one reply more is accepted
pub join_accept : (old new : Held) (reply : Shown) (place : ℕ) → AwaitsAt old reply place
    → Fills old.pending_replies new.pending_replies place reply.part reply.answer → new.handed ≡ old.handed
    → AreNumbered old.handed old.pending_replies
    → (opened : List PendingReply) (accepted : List Shown) (handed : List (List ℕ))
    → IsReorderBuffer old opened accepted handed → IsReorderBuffer new opened (accepted ++ reply ∷ []) handed
join_accept old new reply place awaits fills same_handed numbered opened accepted handed j =
    let pending_replies = all_answered opened accepted in
    let n = length handed in
    let pending_reply = fills.pending_reply in
    let same : awaits.pending_reply ≡ pending_reply =
    same_Some awaits.pending_reply pending_reply (sym awaits.here ∙ fills.here) in
    let there = numbered_at old.handed old.pending_replies place awaits.pending_reply numbered awaits.here in
    let ticket : awaits.pending_reply.ticket.0 ≡ reply.ticket.0 = ap (λ (t : Ticket). t.0) awaits.ticket in
    let at : reply.ticket.0 ≡ 0 + (n + place) = omega (arith, there, ticket, j.count) in
    let fresh : slice_get pending_reply.slots reply.part ≡ Some None = rw same at awaits.awaits.unanswered in
    let here : slice_get pending_replies (n + place) ≡ Some pending_reply =
    sym (behind n pending_replies place (n + place) refl) ∙ (rw j.rest at fills.here) in
    let filled = with_answer reply.part reply.answer pending_reply in
    let more : all_answered opened (accepted ++ reply ∷ []) ≡ set pending_replies (n + place) filled =
    pending_replies-filled accepted reply 0 (n + place) opened pending_reply j.numbered at here fresh in
    let within : n ≤ length pending_replies =
    omega (arith, handed_within pending_replies handed j.beginning, prefix_len-le-length is_answered pending_replies) in
    let longer : n ≤ length (set pending_replies (n + place) filled) =
    omega (arith, within, length-set pending_replies (n + place) filled) in
    let below = slice_get_within old.pending_replies place pending_reply fills.here in
    record {
      numbered = j.numbered;
      asked =
          asked_push (length opened) accepted reply j.asked
          (omega (arith, there, ticket, below, opened_length old opened accepted handed j));
      beginning =
          rw more (beginning-same pending_replies (set pending_replies (n + place) filled) handed j.beginning
          (sym (take-set-le n pending_replies (n + place) filled (omega arith))) longer);
      count = same_handed ∙ j.count;
      rest = rw (fills.after, j.rest, more) (sym (drop-set-add n pending_replies place filled));
    }

-- as many more replies have their turn as held pending replies have all their answers
pub passed_count : (held : Held) (opened : List PendingReply) (accepted : List Shown) (handed : List (List ℕ))
    → IsReorderBuffer held opened accepted handed → length handed + prefix_len is_answered held.pending_replies
    ≡ length (replies opened accepted)
passed_count held opened accepted handed j =
    let pending_replies = all_answered opened accepted in
    let behind = prefix_len-drop is_answered (length handed) pending_replies
    (handed_within pending_replies handed j.beginning) in
    omega (arith, behind, ap (prefix_len is_answered) j.rest, length-replies pending_replies)

-- If some pending reply has all its answers, not all replies whose turn has come were handed out.
pub owes_some : (held : Held) → 0 < prefix_len is_answered held.pending_replies
    → (opened : List PendingReply) (accepted : List Shown) (handed : List (List ℕ))
    → IsReorderBuffer held opened accepted handed → length handed < length (replies opened accepted)
owes_some held some opened accepted handed j =
    omega (arith, some, passed_count held opened accepted handed j)

-- If no pending reply has all its answers, all replies whose turn has come were handed out.
pub join_none : (held : Held) (count : ℕ) → count ≡ prefix_len is_answered held.pending_replies → count ≡ 0
    → (opened : List PendingReply) (accepted : List Shown) (handed : List (List ℕ))
    → IsReorderBuffer held opened accepted handed → IsReorderBuffer held opened accepted (replies opened accepted)
join_none held count passed none opened accepted handed j =
    let texts = replies opened accepted in
    let whole : length handed ≡ length texts =
    omega (arith, passed, none, passed_count held opened accepted handed j) in
    let same : handed ≡ texts = j.beginning ∙ take_all (length handed) texts (omega (arith, whole)) in
    let P : List (List ℕ) → Type 0 = λ all. IsReorderBuffer held opened accepted all in
    subst P same j

-- the replies whose turn has come are handed out
pub join_hand : (old new : Held) (count : ℕ) → count ≡ prefix_len is_answered old.pending_replies → new.handed
    ≡ old.handed + count → new.pending_replies ≡ drop count old.pending_replies
    → (opened : List PendingReply) (accepted : List Shown) (handed : List (List ℕ))
    → IsReorderBuffer old opened accepted handed → IsReorderBuffer new opened accepted (replies opened accepted)
join_hand old new count passed all left opened accepted handed j =
    let pending_replies = all_answered opened accepted in
    let texts = replies opened accepted in
    let whole : length handed + count ≡ length texts = rw passed (passed_count old opened accepted handed j) in
    record {
      numbered = j.numbered;
      asked = j.asked;
      beginning = sym (take_all (length texts) texts (omega arith));
      count = omega (arith, all, j.count, whole);
      rest =
          rw (left, j.rest) (drop-drop count (length handed) pending_replies ∙ ap (λ k. drop k pending_replies) whole);
    }

-- what is due are the replies that were not handed out yet
pub due_unhanded : (held : Held) → held.gone ≡ false
    → (opened : List PendingReply) (accepted : List Shown) (handed : List (List ℕ))
    → IsReorderBuffer held opened accepted handed → due_text held ≡ unhanded opened accepted handed
due_unhanded held there opened accepted handed j =
    let pending_replies = all_answered opened accepted in
    let n = length handed in
    let behind = prefix_len-drop is_answered n pending_replies (handed_within pending_replies handed j.beginning) in
    rw (there, j.rest, ← drop-take n (prefix_len is_answered (drop n pending_replies)) pending_replies, behind)
    (ap concat (sym (drop-map pending_reply_text n (complete pending_replies))))

-- the pending reply after the completely answered ones is not completely answered
pub none_complete : (pending_replies : List PendingReply) (count : ℕ) → count ≡ prefix_len is_answered pending_replies
    → complete (drop count pending_replies) ≡ []
none_complete pending_replies count passed =
    let behind = prefix_len-drop is_answered count pending_replies (omega (arith, passed)) in
    let none : prefix_len is_answered (drop count pending_replies) ≡ 0 = omega (arith, behind, passed) in
    rw none
