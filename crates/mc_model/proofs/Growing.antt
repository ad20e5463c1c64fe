-- Later events take nothing back.
use Rattle.std.proofs.Common.{◌≡◌, ◌≢◌, ℕ, zero, suc, ◌+◌, ◌<◌, ◌≤◌, ◌==◌, inl, inr, true, false, cond, List, [], ◌∷◌}
use Rattle.std.proofs.Common.{◌++◌, length, map, take, drop, set, Option, Some, None, refl, sym, ap, ◌∙◌, subst, arith}
use Rattle.std.proofs.Common.{append-nil, append_assoc, eqb-true}
use Rattle.std.specs.List.{concat, slice_get}
use Rattle.std.specs.Option.{is_none}
use Rattle.std.proofs.lemmas.Bool.{cases_eq}
use Rattle.std.proofs.lemmas.List.{take-append-drop, take-take}
use Rattle.std.proofs.lemmas.List.Elements.{filter-append}
use Rattle.std.proofs.lemmas.List.Sums.{sum_by-cons, take_while-cons}
use Rattle.mc_sizes.specs.declared.sizes.Sizes.{Sizes}
use Rattle.mc_item.specs.declared.answer.Answer.{Answer}
use Rattle.mc_ring.specs.Reply.{Shown}
use Rattle.mc_reply.specs.declared.pending_reply.PendingReply.{PendingReply}
use Rattle.mc_reply.specs.declared.ticket.Ticket.{Ticket}
use Rattle.mc_reply.specs.Slots.{missing_in}
use Rattle.mc_join.specs.Replies.{answer_to, answered, complete, pending_reply_text, is_answered, is_to, replies}
use Rattle.mc_join.specs.Replies.{slots_after}
use Rattle.mc_conn.specs.History.{Taken}
use Rattle.mc_conn.specs.Due.{pending_reply_at, pending_replies_from, pending_replies_of}
use Rattle.mc_conn.proofs.Gets.{get_front}
use Rattle.mc_model.specs.Log.{Entry, of_asker, replies_in, reply_to}
use Rattle.mc_model.specs.World.{IsLink, Link, World, with_link}
use Rattle.mc_model.specs.Events.{Allows, Changes, Event, one_more}
use Rattle.mc_model.specs.Events.Event.{Open, Feed, Take, Send, Pop, Give, Receive, Hand, End, Break}
use Rattle.mc_model.specs.declared.event.StepReply.{StepReply}
use Rattle.mc_model.specs.Schedule.{Happens, Leads}
use Rattle.mc_model.specs.declared.event.StepReply.TheVariants.{Done, Idle, NoMemory}
use Rattle.mc_model.specs.Headline.{handed_bytes, replies_to}
use Rattle.mc_model.specs.Grows.{Grows, Lengthens}
use Rattle.mc_model.specs.Law.{Law}
use Rattle.mc_model.proofs.Lists.{at_once}
use Rattle.mc_model.proofs.Every.{event_kept}
use Rattle.mc_model.proofs.Follows.{are_replies}

-- an answer that has come stays
answer_stays : (accepted more : List Shown) (ticket : Ticket) (part : ℕ) (answer : Answer)
    → answer_to accepted ticket part ≡ Some answer → answer_to (accepted ++ more) ticket part ≡ Some answer
answer_stays [] more ticket part answer here = absurd (cc)
answer_stays (reply ∷ accepted) more ticket part answer here =
    elim (is_to ticket part reply) as
    (λ b. cond b (Some reply.answer) (answer_to accepted ticket part) ≡ Some answer
    → cond b (Some reply.answer) (answer_to (accepted ++ more) ticket part) ≡ Some answer) [
      | true ↦ λ this. this
      | false ↦ λ later. answer_stays accepted more ticket part answer later
    ] here

-- slots that are all filled stay as they are
slots_stay : (accepted more : List Shown) (ticket : Ticket) (part : ℕ) (slots : List (Option Answer))
    → missing_in (slots_after accepted ticket part slots) ≡ 0 → slots_after (accepted ++ more) ticket part slots
    ≡ slots_after accepted ticket part slots
slots_stay accepted more ticket part [] full = refl
slots_stay accepted more ticket part (Some answer ∷ slots) full =
    let step = sum_by-cons (λ (slot : Option Answer). cond (is_none slot) 1 0) (Some answer)
    (slots_after accepted ticket (part + 1) slots) in
    ap (λ xs. Some answer ∷ xs) (slots_stay accepted more ticket (part + 1) slots (omega (arith, full, step)))
slots_stay accepted more ticket part (None ∷ slots) full =
    let step = sum_by-cons (λ (slot : Option Answer). cond (is_none slot) 1 0) (answer_to accepted ticket part)
    (slots_after accepted ticket (part + 1) slots) in
    elim (answer_to accepted ticket part) as
    (λ o. answer_to accepted ticket part ≡ o → missing_in (o ∷ slots_after accepted ticket (part + 1) slots)
    ≡ cond (is_none o) 1 0 + missing_in (slots_after accepted ticket (part + 1) slots)
    → missing_in (o ∷ slots_after accepted ticket (part + 1) slots) ≡ 0
    → answer_to (accepted ++ more) ticket part ∷ slots_after (accepted ++ more) ticket (part + 1) slots
    ≡ o ∷ slots_after accepted ticket (part + 1) slots) [
      | None ↦ λ is sum none. absurd (omega (arith, sum, none))
      | Some answer ↦ λ is sum none.
          ap (λ o. o ∷ slots_after (accepted ++ more) ticket (part + 1) slots)
          (answer_stays accepted more ticket part answer is)
          ∙ ap (λ xs. Some answer ∷ xs) (slots_stay accepted more ticket (part + 1) slots (omega (arith, sum, none)))
    ] refl step full

-- the replies that are there stay, whatever more is opened and accepted
pub replies_stay : (opened others : List PendingReply) (accepted more : List Shown) (count : ℕ)
    → count ≤ length (replies opened accepted) → take count (replies (opened ++ others) (accepted ++ more))
    ≡ take count (replies opened accepted)
replies_stay opened others accepted more zero within = refl
replies_stay [] others accepted more (suc count) within = absurd (omega (arith, within))
replies_stay (pending_reply ∷ opened) others accepted more (suc count) within =
    let rest = complete (map (answered accepted) opened) in
    let rest' = complete (map (answered (accepted ++ more)) (opened ++ others)) in
    let old_is = take_while-cons is_answered (answered accepted pending_reply) (map (answered accepted) opened) in
    let new_is = take_while-cons is_answered (answered (accepted ++ more) pending_reply)
    (map (answered (accepted ++ more)) (opened ++ others)) in
    let some : suc count ≤ length
    (map pending_reply_text (cond (is_answered (answered accepted pending_reply))
    (answered accepted pending_reply ∷ rest) [])) =
    subst (λ fs. suc count ≤ length (map pending_reply_text fs)) old_is within in
    ap (λ fs. take (suc count) (map pending_reply_text fs)) new_is
    ∙ (elim (is_answered (answered accepted pending_reply)) as
    (λ b. is_answered (answered accepted pending_reply) ≡ b
    → suc count ≤ length (map pending_reply_text (cond b (answered accepted pending_reply ∷ rest) []))
    → take (suc count) (map pending_reply_text
    (cond (is_answered (answered (accepted ++ more) pending_reply)) (answered (accepted ++ more) pending_reply ∷ rest')
    [])) ≡ take (suc count) (map pending_reply_text (cond b (answered accepted pending_reply ∷ rest) []))) [
      | false ↦ λ is none. absurd (omega (arith, none))
      | true ↦ λ is more_than.
          let same : answered (accepted ++ more) pending_reply ≡ answered accepted pending_reply =
          ap (λ slots. record pending_reply { slots = slots })
          (slots_stay accepted more pending_reply.ticket 0 pending_reply.slots
          (eqb-true (missing_in (answered accepted pending_reply).slots) 0 is)) in
          ap (λ f. take (suc count) (map pending_reply_text (cond (is_answered f) (f ∷ rest') []))) same
          ∙ (ap (λ b. take (suc count) (map pending_reply_text (cond b (answered accepted pending_reply ∷ rest') [])))
          is
          ∙ ap (λ texts. pending_reply_text (answered accepted pending_reply) ∷ texts)
          (replies_stay opened others accepted more count (omega (arith, more_than))))
    ] refl some
    ∙ ap (λ fs. take (suc count) (map pending_reply_text fs)) (sym old_is))

-- The pending replies of commands with more behind them are the pending replies of the first, then those of the others,
-- numbered on.
pub pending_replies-append : (shards number : ℕ) (taken more : List Taken)
    → pending_replies_from shards number (taken ++ more) ≡ pending_replies_from shards number taken
    ++ pending_replies_from shards (number + length taken) more
pending_replies-append shards number [] more = let at : number ≡ number + 0 =
    omega arith in ap (λ n. pending_replies_from shards n more) at
pending_replies-append shards number (one ∷ taken) more =
    let at : number + 1 + length taken ≡ number + suc (length taken) = omega arith in
    ap (λ fs. pending_reply_at shards number one ∷ fs)
    (pending_replies-append shards (number + 1) taken more
    ∙ ap (λ n. pending_replies_from shards (number + 1) taken ++ pending_replies_from shards n more) at)

-- The bytes of texts with more texts behind them are those of the first, then those of the others.
pub concat-append : (a b : List (List ℕ)) → concat (a ++ b) ≡ concat a ++ concat b
concat-append [] b = refl
concat-append (x ∷ a) b = ap (λ t. x ++ t) (concat-append a b) ∙ sym (append_assoc x (concat a) (concat b))

map-push : (own more : List Entry) → replies_in (own ++ more) ≡ replies_in own ++ replies_in more
map-push [] more = refl
map-push (e ∷ own) more = ap (λ rs. reply_to e ∷ rs) (map-push own more)

-- What a connection was later: no list is shorter, and no less is handed out.
pub record IsLonger (w : World) (k : ℕ) (link : Link) (w' : World) : Type 0 where
  pub later : Link
  pub here : IsLink w' k later
  pub seat : later.seat ≡ link.seat
  pub fed : Lengthens link.fed later.fed
  pub taken : Lengthens link.taken later.taken
  pub answered : Lengthens (of_asker k w.log) (of_asker k w'.log)
  pub handed : link.handed ≤ later.handed

-- A list lengthens itself.
pub stays : {X : Type 0} (xs : List X) → Lengthens xs xs
stays xs = ([], sym (append-nil xs))

-- A list that lengthens a longer one lengthens the first one too.
pub further : {X : Type 0} (xs ys zs : List X) → Lengthens xs ys → Lengthens ys zs → Lengthens xs zs
further xs ys zs a b = (a.0 ++ b.0, b.1 ∙ (ap (λ t. t ++ b.0) a.1 ∙ append_assoc xs a.0 b.0))

same_longer : (w : World) (k : ℕ) (link : Link) → IsLink w k link → IsLonger w k link w
same_longer w k link here =
    record {
      later = link;
      here = here;
      seat = refl;
      fed = stays link.fed;
      taken = stays link.taken;
      answered = stays (of_asker k w.log);
      handed = omega arith;
    }

then_longer : (v w u : World) (k : ℕ) (link : Link) (a : IsLonger v k link w) → IsLonger w k a.later u
    → IsLonger v k link u
then_longer v w u k link a b =
    let more = a.handed in
    let more' = b.handed in
    record {
      later = b.later;
      here = b.here;
      seat = b.seat ∙ a.seat;
      fed = further link.fed a.later.fed b.later.fed a.fed b.fed;
      taken = further link.taken a.later.taken b.later.taken a.taken b.taken;
      answered = further (of_asker k v.log) (of_asker k w.log) (of_asker k u.log) a.answered b.answered;
      handed = omega (arith, more, more');
    }

-- An element that replaces another one in a list is at its index.
pub set_here : {X : Type 0} (xs : List X) (k : ℕ) (v x : X) → slice_get xs k ≡ Some x → slice_get (set xs k v) k
    ≡ Some v
set_here [] k v x here = absurd (cc)
set_here (y ∷ xs) zero v x here = refl
set_here (y ∷ xs) (suc k) v x here = set_here xs k v x here

-- What is put in one place of a list leaves the other places as they are.
pub set_other : {X : Type 0} (xs : List X) (k : ℕ) (v : X) (j : ℕ) → j ≢ k → slice_get (set xs k v) j ≡ slice_get xs j
set_other [] k v j other = refl
set_other (y ∷ xs) zero v zero other = absurd (other refl)
set_other (y ∷ xs) zero v (suc j) other = refl
set_other (y ∷ xs) (suc k) v zero other = refl
set_other (y ∷ xs) (suc k) v (suc j) other = set_other xs k v j (λ e. other (ap suc e))

-- one connection changed
link_longer : (w : World) (k : ℕ) (link new : Link) (w' : World) → IsLink w k link → w' ≡ with_link w k new
    → new.seat ≡ link.seat → Lengthens link.fed new.fed → Lengthens link.taken new.taken → link.handed ≤ new.handed
    → (j : ℕ) (one : Link) → IsLink w j one → IsLonger w j one w'
link_longer w k link new w' here is seat fed taken handed j one at =
    subst (λ v. IsLonger w j one v) (sym is) (elim (cases_eq j k) [
      | inl same ↦
          let this : link ≡ one = at_once w.links k j link one here at (sym same) in
          let found : IsLink (with_link w k new) j new = ap (λ n. slice_get (set w.links k new) n) same
          ∙ set_here w.links k new link here in
          subst (λ x. IsLonger w j x (with_link w k new)) this
          (record {
            later = new;
            here = found;
            seat = seat;
            fed = fed;
            taken = taken;
            answered = stays (of_asker j w.log);
            handed = handed;
          })
      | inr other ↦ record {
        later = one;
        here = set_other w.links k new j other ∙ at;
        seat = refl;
        fed = stays one.fed;
        taken = stays one.taken;
        answered = stays (of_asker j w.log);
        handed = omega arith;
      }
    ])

done_longer : (sizes : Sizes) (w : World) (event : Event) (k : ℕ) (link : Link) (w' : World) → Law sizes w
    → Allows sizes w event k link → Changes sizes w event k link w' → (j : ℕ) (one : Link) → IsLink w j one
    → IsLonger w j one w'
done_longer sizes w (Open seat) k link w' l may is j one here =
    subst (λ v. IsLonger w j one v) (sym is)
    (record {
      later = one;
      here = get_front w.links (link ∷ []) j one here;
      seat = refl;
      fed = stays one.fed;
      taken = stays one.taken;
      answered = stays (of_asker j w.log);
      handed = omega arith;
    })
done_longer sizes w (Feed seat bytes) k link w' l may is j one here =
    link_longer w k link (record link { fed = link.fed ++ take is.0 bytes }) w' may.0.here is.3 refl
    (take is.0 bytes, refl) (stays link.taken) (omega arith) j one here
done_longer sizes w (Take seat moment) k link w' l may is j one here =
    link_longer w k link (record link { taken = link.taken ++ is.0 ∷ [] }) w' may.0.here is.2 refl (stays link.fed)
    (is.0 ∷ [], refl) (omega arith) j one here
done_longer sizes w (Send seat) k link w' l may is j one here =
    link_longer w k link (record link { sent = link.sent + 1 }) w' may.0.here is refl (stays link.fed)
    (stays link.taken) (omega arith) j one here
done_longer sizes w (Pop shard seat) k link w' l may is j one here =
    let more = filter-append (λ (e : Entry). e.asker == j) w.log (is.0 ∷ []) in
    subst (λ v. IsLonger w j one v) (sym is.2)
    (record {
      later = one;
      here = here;
      seat = refl;
      fed = stays one.fed;
      taken = stays one.taken;
      answered = (of_asker j (is.0 ∷ []), more);
      handed = omega arith;
    })
done_longer sizes w (Give shard) k link w' l may is j one here =
    link_longer w k link (record link { given = one_more link.given shard }) w' may.0 is refl (stays link.fed)
    (stays link.taken) (omega arith) j one here
done_longer sizes w (Receive seat shard) k link w' l may is j one here =
    link_longer w k link (record link { received = one_more link.received shard }) w' may.0.here is refl
    (stays link.fed) (stays link.taken) (omega arith) j one here
done_longer sizes w (Hand seat) k link w' l may is j one here =
    let own = l.links k link may.0.here in
    link_longer w k link (record link { handed = is.0 }) w' may.0.here is.2 refl (stays link.fed) (stays link.taken)
    (is.1.most link.handed own.handed own.come) j one here
done_longer sizes w (End seat) k link w' l may is j one here =
    link_longer w k link (record link { ended = true }) w' may.0.here is refl (stays link.fed) (stays link.taken)
    (omega arith) j one here
done_longer sizes w (Break seat) k link w' l may is j one here =
    link_longer w k link (record link { broken = true }) w' may.0.here is refl (stays link.fed) (stays link.taken)
    (omega arith) j one here

event_longer : (sizes : Sizes) (w : World) (event : Event) (reply : StepReply) (w' : World) → Law sizes w
    → Happens sizes w event reply w' → (k : ℕ) (link : Link) → IsLink w k link → IsLonger w k link w'
event_longer sizes w event Done w' l h k link here = done_longer sizes w event h.0 h.1 w' l h.2 h.3 k link here
event_longer sizes w event Idle w' l h k link here =
    subst (λ v. IsLonger w k link v) (sym h.1) (same_longer w k link here)
event_longer sizes w event NoMemory w' l h k link here =
    subst (λ v. IsLonger w k link v) (sym h.1) (same_longer w k link here)

all_longer : (sizes : Sizes) (w : World) (events : List Event) (w' : World) → 0 < sizes.shards → Law sizes w
    → Leads sizes w events w' → (k : ℕ) (link : Link) → IsLink w k link → IsLonger w k link w'
all_longer sizes w [] w' some l leads k link here =
    subst (λ v. IsLonger w k link v) (sym leads) (same_longer w k link here)
all_longer sizes w (event ∷ events) w' some l leads k link here =
    let first = event_longer sizes w event leads.0 leads.1 l leads.2 k link here in
    then_longer w leads.1 w' k link first
    (all_longer sizes leads.1 events w' some (event_kept sizes w event leads.0 leads.1 some leads.2 l) leads.3 k
    first.later first.here)

bytes_stay : (sizes : Sizes) (w : World) (k : ℕ) (link : Link) (w' : World) (a : IsLonger w k link w')
    → link.handed ≤ length (replies_to sizes w k link)
    → Lengthens (handed_bytes sizes w k link) (handed_bytes sizes w' k a.later)
bytes_stay sizes w k link w' a within =
    let later = a.later in
    let old = replies_to sizes w k link in
    let new = replies_to sizes w' k later in
    let pending_replies : pending_replies_of sizes.shards later.taken ≡ pending_replies_of sizes.shards link.taken
    ++ pending_replies_from sizes.shards (0 + length link.taken) a.taken.0 =
    ap (λ ts. pending_replies_of sizes.shards ts) a.taken.1
    ∙ pending_replies-append sizes.shards 0 link.taken a.taken.0 in
    let accepted : replies_in (of_asker k w'.log) ≡ replies_in (of_asker k w.log) ++ replies_in a.answered.0 =
    ap replies_in a.answered.1 ∙ map-push (of_asker k w.log) a.answered.0 in
    let same : take link.handed new ≡ take link.handed old =
    ap (λ fs. take link.handed (replies fs (replies_in (of_asker k w'.log)))) pending_replies
    ∙ (ap (λ rs. take link.handed
    (replies (pending_replies_of sizes.shards link.taken
    ++ pending_replies_from sizes.shards (0 + length link.taken) a.taken.0) rs)) accepted
    ∙ replies_stay (pending_replies_of sizes.shards link.taken)
    (pending_replies_from sizes.shards (0 + length link.taken) a.taken.0) (replies_in (of_asker k w.log))
    (replies_in a.answered.0) link.handed within) in
    let given = take later.handed new in (
      concat (drop link.handed given),
      ap (λ ts. concat ts) (sym (take-append-drop link.handed given))
          ∙ (concat-append (take link.handed given) (drop link.handed given)
          ∙ ap (λ ts. concat ts ++ concat (drop link.handed given))
          (take-take link.handed later.handed new a.handed ∙ same)),
    )

-- If the law holds and there is a shard, each connection stays whatever events follow. All that it
-- was fed, took, was answered and was handed only grows at its end.
pub all_grow : (sizes : Sizes) (w : World) (events : List Event) (w' : World) → 0 < sizes.shards → Law sizes w
    → Leads sizes w events w' → (k : ℕ) (link : Link) → IsLink w k link → Grows sizes w k link w'
all_grow sizes w events w' some l leads k link here =
    let a = all_longer sizes w events w' some l leads k link here in
    let replied = are_replies sizes w k link (l.links k link here) in
    record {
      later = a.later;
      here = a.here;
      seat = a.seat;
      fed = a.fed;
      taken = a.taken;
      answered = a.answered;
      handed = a.handed;
      bytes = bytes_stay sizes w k link w' a replied.whole;
    }
