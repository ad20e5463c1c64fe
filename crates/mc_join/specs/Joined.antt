-- A reorder buffer against the lists of its inputs and outputs.
use Rattle.std.specs.Prelude.{ℕ, ◌≡◌, ◌<◌, List, length, drop, take, map}
use Rattle.std.specs.List.{AllByRecursion, concat}
use Rattle.mc_ring.specs.Reply.{Shown}
use Rattle.mc_reply.specs.declared.pending_reply.PendingReply.{PendingReply}
use Rattle.mc_join.specs.Held.{Held, AreNumbered}
use Rattle.mc_join.specs.Replies.{answered, replies}

-- These pending replies were opened, these replies accepted and these texts written, completely and in order.
pub record IsReorderBuffer (held : Held) (opened : List PendingReply) (accepted : List Shown) (handed : List (List ℕ)) :
    Type 0 where
  -- the tickets of the pending replies are 0, 1, 2 and so on
  pub numbered : AreNumbered 0 opened
  -- each reply accepted answers a pending reply that was opened
  pub asked : AllByRecursion (λ reply. reply.ticket.0 < length opened) accepted
  -- the texts written are a prefix of the replies
  pub beginning : handed ≡ take (length handed) (replies opened accepted)
  pub count : held.handed ≡ length handed
  -- all other pending replies are held, with the answers that have come
  pub rest : held.pending_replies ≡ drop (length handed) (map (answered accepted) opened)

-- the replies that were not written yet
abbrev pub unhanded : List PendingReply → List Shown → List (List ℕ) → List ℕ
unhanded opened accepted handed = concat (drop (length handed) (replies opened accepted))
