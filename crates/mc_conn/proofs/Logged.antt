-- The commands that were taken, each as it is carried out.
use Rattle.std.proofs.Common.{◌≡◌, ℕ, ◌+◌, true, false, if◌then◌else◌, List, [], ◌∷◌, ◌++◌, map, refl, sym, ap, ◌∙◌}
use Rattle.std.specs.List.{AllByRecursion}
use Rattle.std.proofs.lemmas.Bool.{false≢true}
use Rattle.mc_reply.specs.declared.pending_reply.PendingReply.{PendingReply}
use Rattle.mc_reply.specs.Server.{pending_reply_of_server, no_server, shows_server}
use Rattle.mc_split.specs.Plan.{pending_reply_of}
use Rattle.mc_conn.specs.declared.conn.Conn.{Conn}
use Rattle.mc_conn.specs.Conn.{IfConn, IsConn, taken_by}
use Rattle.mc_conn.specs.Due.{due, pending_reply_at, pending_replies_from, pending_replies_of, channel, pieces_at}
use Rattle.mc_conn.specs.Due.{pieces_from, ticket_at}
use Rattle.mc_conn.specs.History.{MayBeTaken, Taken, carried_out, planned}
use Rattle.mc_conn.proofs.Shown.{same_pending_reply}

-- The log has what was taken.
pub log_is : (conn : Conn) → IfConn conn (λ flow. taken_by conn ≡ map carried_out flow.taken)
unfolding IsConn taken_by
log_is conn flow h = h.logged

pieces_carried : (shards number : ℕ) (taken : List Taken) → pieces_from shards number (map carried_out taken)
    ≡ pieces_from shards number taken
pieces_carried shards number [] = refl
pieces_carried shards number (one ∷ later) =
    ap (λ ps. pieces_at shards number one ++ ps) (pieces_carried shards (number + 1) later)

-- What is due doesn't change.
pub due_carried : (shards s : ℕ) (taken : List Taken) → due shards s (map carried_out taken) ≡ due shards s taken
due_carried shards s taken = ap (channel s) (pieces_carried shards 0 taken)

pending_reply_carried : (shards number : ℕ) (one : Taken) → pending_reply_at shards number (carried_out one)
    ≡ pending_reply_at shards number one
pending_reply_carried shards number one =
    let pending_reply = pending_reply_of shards (ticket_at number) (planned one) in
    elim (shows_server (planned one)) as
    (λ b. shows_server (planned one) ≡ b → pending_reply_of_server (if b then one.server else no_server) pending_reply
    ≡ pending_reply_of_server one.server pending_reply) [
      | true ↦ λ shows. refl
      | false ↦ λ none. same_pending_reply no_server shards (ticket_at number) (planned one) none
          ∙ sym (same_pending_reply one.server shards (ticket_at number) (planned one) none)
    ] refl

pending_replies_carried_from : (shards number : ℕ) (taken : List Taken)
    → pending_replies_from shards number (map carried_out taken) ≡ pending_replies_from shards number taken
pending_replies_carried_from shards number [] = refl
pending_replies_carried_from shards number (one ∷ later) =
    ap (λ (pending_reply : PendingReply). pending_reply ∷ pending_replies_from shards (number + 1)
    (map carried_out later)) (pending_reply_carried shards number one)
    ∙ ap (λ pending_replies. pending_reply_at shards number one ∷ pending_replies)
    (pending_replies_carried_from shards (number + 1) later)

-- The pending replies of the replies are the same.
pub pending_replies_carried : (shards : ℕ) (taken : List Taken) → pending_replies_of shards (map carried_out taken)
    ≡ pending_replies_of shards taken
pending_replies_carried shards taken = pending_replies_carried_from shards 0 taken

-- Each of them may be taken.
pub may_carried : (taken : List Taken) → AllByRecursion MayBeTaken (map carried_out taken)
may_carried [] = tt
may_carried (one ∷ later) = ((λ up. absurd (false≢true up)), may_carried later)
