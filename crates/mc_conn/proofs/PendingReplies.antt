-- The pending replies of the commands that were taken: their kinds, and their slots once answers have come.
use Rattle.std.proofs.Common.{◌≡◌, ℕ, zero, suc, ◌+◌, List, [], ◌∷◌, ◌++◌, length, Some, refl, sym, ap, ◌∙◌, arith}
use Rattle.std.specs.List.{slice_get}
use Rattle.std.proofs.lemmas.Option.{same_Some}
use Rattle.mc_command.specs.declared.command.Command.{Command}
use Rattle.mc_item.specs.Kind.{kind_of}
use Rattle.mc_ring.specs.Reply.{Shown}
use Rattle.mc_reply.specs.declared.ticket.Ticket.{Ticket}
use Rattle.mc_split.specs.Pieces.{ShardOp, pieces_of}
use Rattle.mc_split.specs.Plan.{pending_reply_kind, no_answers}
use Rattle.mc_split.proofs.Shards.{pieces_alike}
use Rattle.mc_join.specs.Replies.{answer_to, slots_after}
use Rattle.mc_conn.specs.History.{Taken}
use Rattle.mc_conn.specs.Due.{pending_reply_at, pending_replies_from}
use Rattle.mc_ring.proofs.Lists.{all_at}

-- The pending reply of a command is of the kind of each of its pieces.
pub kind_at : (shards : ℕ) (command : Command) (part : ℕ) (asked : ShardOp) → slice_get (pieces_of shards command) part
    ≡ Some asked → pending_reply_kind (pieces_of shards command) ≡ kind_of asked.op
kind_at shards command part asked here =
    sym (all_at (λ one. kind_of one.op ≡ pending_reply_kind (pieces_of shards command)) (pieces_of shards command) part
    asked (pieces_alike shards command) here)

-- the pending reply of the command at a place
pub pending_reply_there : (shards number : ℕ) (taken : List Taken) (k : ℕ) (one : Taken) → slice_get taken k ≡ Some one
    → slice_get (pending_replies_from shards number taken) k ≡ Some (pending_reply_at shards (number + k) one)
pending_reply_there shards number [] k one here = absurd (cc)
pending_reply_there shards number (first ∷ taken) zero one here =
    let same : first ≡ one = same_Some first one here in
    let at : number ≡ number + 0 = omega arith in
    ap (λ n. Some (pending_reply_at shards n first)) at ∙ ap (λ t. Some (pending_reply_at shards (number + 0) t)) same
pending_reply_there shards number (first ∷ taken) (suc k) one here =
    let at : number + 1 + k ≡ number + suc k = omega arith in
    pending_reply_there shards (number + 1) taken k one here ∙ ap (λ n. Some (pending_reply_at shards n one)) at

-- There is one pending reply for each command that was taken.
pub length-pending_replies : (shards number : ℕ) (taken : List Taken)
    → length (pending_replies_from shards number taken) ≡ length taken
length-pending_replies shards number [] = refl
length-pending_replies shards number (one ∷ taken) = ap suc (length-pending_replies shards (number + 1) taken)

-- a slot holds what was accepted for its part
pub slot_at : (accepted : List Shown) (ticket : Ticket) (first : ℕ) (asked : List ShardOp) (i : ℕ) (one : ShardOp)
    → slice_get asked i ≡ Some one → slice_get (slots_after accepted ticket first (no_answers asked)) i
    ≡ Some (answer_to accepted ticket (first + i))
slot_at accepted ticket first [] i one here = absurd (cc)
slot_at accepted ticket first (a ∷ asked) zero one here =
    let at : first ≡ first + 0 = omega arith in ap (λ k. Some (answer_to accepted ticket k)) at
slot_at accepted ticket first (a ∷ asked) (suc i) one here =
    let at : first + 1 + i ≡ first + suc i = omega arith in
    slot_at accepted ticket (first + 1) asked i one here ∙ ap (λ k. Some (answer_to accepted ticket k)) at

-- one command more
pub pending_replies-push : (shards number : ℕ) (taken : List Taken) (one : Taken)
    → pending_replies_from shards number (taken ++ one ∷ []) ≡ pending_replies_from shards number taken
    ++ pending_reply_at shards (number + length taken) one ∷ []
pending_replies-push shards number [] one = let at : number ≡ number + 0 =
    omega arith in ap (λ n. pending_reply_at shards n one ∷ []) at
pending_replies-push shards number (first ∷ taken) one =
    let at : number + 1 + length taken ≡ number + suc (length taken) = omega arith in
    ap (λ fs. pending_reply_at shards number first ∷ fs)
    (pending_replies-push shards (number + 1) taken one
    ∙ ap (λ n. pending_replies_from shards (number + 1) taken ++ pending_reply_at shards n one ∷ []) at)
