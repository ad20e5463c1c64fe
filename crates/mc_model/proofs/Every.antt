-- Every event keeps the law, and so does every list of them.
use Rattle.std.proofs.Common.{◌≡◌, ℕ, ◌+◌, ◌<◌, ◌≤◌, inl, inr, true, List, [], ◌∷◌, ◌++◌, take, refl, sym, ap, ◌∙◌}
use Rattle.std.proofs.Common.{subst, arith}
use Rattle.std.proofs.lemmas.Bool.Decides.{eqb_tells}
use Rattle.mc_sizes.specs.declared.sizes.Sizes.{Sizes}
use Rattle.mc_model.specs.Log.{of_asker}
use Rattle.mc_model.specs.World.{IsAt, Link, World, with_link}
use Rattle.mc_model.specs.Events.{Allows, Changes, Event, one_more}
use Rattle.mc_model.specs.Events.Event.{Open, Feed, Take, Send, Pop, Give, Receive, Hand, End, Break}
use Rattle.mc_model.specs.declared.event.StepReply.{StepReply}
use Rattle.mc_model.specs.Schedule.{Happens, Leads}
use Rattle.mc_model.specs.declared.event.StepReply.TheVariants.{Done, Idle, NoMemory}
use Rattle.mc_model.specs.Law.{Law, LinkLaw}
use Rattle.mc_model.proofs.Links.{end_kept, feed_kept, give_kept, hand_kept, receive_kept, send_kept, take_kept}
use Rattle.mc_model.proofs.Worlds.{at_unfollowed, entry_kept, hand_unfollowed, link_kept, open_kept}

-- one connection at a seat changes, and no answer is given for it
seat_kept : (sizes : Sizes) (w : World) (seat k : ℕ) (link new : Link) (w' : World) → Law sizes w → IsAt w seat k link
    → LinkLaw sizes (of_asker k w.log) new → new.seat ≡ link.seat → ((s : ℕ) → link.given s ≤ new.given s) → w'
    ≡ with_link w k new → Law sizes w'
seat_kept sizes w seat k link new w' l at kept same grows is =
    subst (λ v. Law sizes v) (sym is)
    (link_kept sizes w k link new l at.here kept same grows (at_unfollowed w seat k link at))

-- A count to which one is added for some shard is no less for any.
pub one_more_grows : (counts : ℕ → ℕ) (shard s : ℕ) → counts s ≤ one_more counts shard s
one_more_grows counts shard s = elim (eqb_tells s shard) [
  | inl here ↦ rw here.0 (omega arith)
  | inr other ↦ rw other.0 (omega arith)
]

done_kept : (sizes : Sizes) (w : World) (event : Event) (k : ℕ) (link : Link) (w' : World) → 0 < sizes.shards
    → Law sizes w → Allows sizes w event k link → Changes sizes w event k link w' → Law sizes w'
done_kept sizes w (Open seat) k link w' some l may is =
    subst (λ v. Law sizes v) (sym (is ∙ ap (λ x. record w { links = w.links ++ x ∷ [] }) may.1))
    (open_kept sizes w seat l may.3)
done_kept sizes w (Feed seat bytes) k link w' some l may is =
    seat_kept sizes w seat k link (record link { fed = link.fed ++ take is.0 bytes }) w' l may.0
    (feed_kept sizes (of_asker k w.log) link (take is.0 bytes) (l.links k link may.0.here)) refl (λ s. omega arith) is.3
done_kept sizes w (Take seat moment) k link w' some l may is =
    let one = is.0 in
    let takes = is.1 in
    seat_kept sizes w seat k link (record link { taken = link.taken ++ one ∷ [] }) w' l may.0
    (take_kept sizes (of_asker k w.log) link one (l.links k link may.0.here) takes.next takes.may may.2) refl
    (λ s. omega arith) is.2
done_kept sizes w (Send seat) k link w' some l may is =
    seat_kept sizes w seat k link (record link { sent = link.sent + 1 }) w' l may.0
    (send_kept sizes (of_asker k w.log) link may.1.piece (l.links k link may.0.here) may.1.next may.1.room) refl
    (λ s. omega arith) is
done_kept sizes w (Pop shard seat) k link w' some l may is =
    subst (λ v. Law sizes v) (sym is.2) (entry_kept sizes w shard seat k link is.0 some l may.0 may.1 may.2 is.1)
done_kept sizes w (Give shard) k link w' some l may is =
    let new : Link = record link { given = one_more link.given shard } in
    let kept = give_kept sizes (of_asker k w.log) link shard (l.links k link may.0) may.1 may.2 in
    subst (λ v. Law sizes v) (sym is)
    (link_kept sizes w k link new l may.0 kept refl (λ s. one_more_grows link.given shard s)
    (hand_unfollowed sizes w shard k link l may.0 may.1))
done_kept sizes w (Receive seat shard) k link w' some l may is =
    seat_kept sizes w seat k link (record link { received = one_more link.received shard }) w' l may.0
    (receive_kept sizes (of_asker k w.log) link shard (l.links k link may.0.here) may.1) refl (λ s. omega arith) is
done_kept sizes w (Hand seat) k link w' some l may is =
    seat_kept sizes w seat k link (record link { handed = is.0 }) w' l may.0
    (hand_kept sizes (of_asker k w.log) link is.0 (l.links k link may.0.here) is.1) refl (λ s. omega arith) is.2
done_kept sizes w (End seat) k link w' some l may is =
    seat_kept sizes w seat k link (record link { ended = true }) w' l may.0
    (end_kept sizes (of_asker k w.log) link true link.broken (l.links k link may.0.here)) refl (λ s. omega arith) is
done_kept sizes w (Break seat) k link w' some l may is =
    seat_kept sizes w seat k link (record link { broken = true }) w' l may.0
    (end_kept sizes (of_asker k w.log) link link.ended true (l.links k link may.0.here)) refl (λ s. omega arith) is

-- one event, whatever it is and however it is answered
pub event_kept : (sizes : Sizes) (w : World) (event : Event) (reply : StepReply) (w' : World) → 0 < sizes.shards
    → Happens sizes w event reply w' → Law sizes w → Law sizes w'
event_kept sizes w event Done w' some h l = done_kept sizes w event h.0 h.1 w' some l h.2 h.3
event_kept sizes w event Idle w' some h l = subst (λ v. Law sizes v) (sym h.1) l
event_kept sizes w event NoMemory w' some h l = subst (λ v. Law sizes v) (sym h.1) l

-- If there is a shard, the law holds of every world to which events lead from one of which it holds.
pub all_kept : (sizes : Sizes) (w : World) (events : List Event) (w' : World) → 0 < sizes.shards
    → Leads sizes w events w' → Law sizes w → Law sizes w'
all_kept sizes w [] w' some leads l = subst (λ v. Law sizes v) (sym leads) l
all_kept sizes w (event ∷ events) w' some leads l =
    all_kept sizes leads.1 events w' some leads.3 (event_kept sizes w event leads.0 leads.1 some leads.2 l)
