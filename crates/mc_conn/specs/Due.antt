-- What is due at the shards for the commands that were taken, and the pending replies of their replies.
use Rattle.std.specs.Prelude.{ℕ, ◌+◌, ◌==◌, List, [], ◌∷◌, ◌++◌, map, filter}
use Rattle.mc_item.specs.declared.answer.Answer.{Answer}
use Rattle.mc_ring.specs.Reply.{Shown}
use Rattle.mc_join.specs.Replies.{answers_of, slots_after}
use Rattle.mc_reply.specs.declared.pending_reply.PendingReply.{PendingReply}
use Rattle.mc_reply.specs.Server.{pending_reply_of_server}
use Rattle.mc_split.specs.declared.plan.Piece.{Piece}
use Rattle.mc_reply.specs.declared.ticket.Ticket.{Ticket}
use Rattle.mc_split.specs.Pieces.{pieces_of}
use Rattle.mc_split.specs.Plan.{pending_reply_of, no_answers, parts_from}
use Rattle.mc_conn.specs.History.{Taken, AnsweredCommand, planned, taken_of}

-- the ticket of this number
abbrev pub ticket_at : ℕ → Ticket
ticket_at number = record { 0 = number }

-- the pieces of one command; none where it was given up
abbrev pub pieces_at : ℕ → ℕ → Taken → List (ℕ × Piece)
pieces_at shards number one = parts_from 0 (ticket_at number) one.moment (pieces_of shards (planned one))

-- the pieces of these commands, the first of which has this number
abbrev pub pieces_from : ℕ → ℕ → List Taken → List (ℕ × Piece)
pieces_from shards number [] = []
pieces_from shards number (one ∷ later) = pieces_at shards number one ++ pieces_from shards (number + 1) later

abbrev pub pieces : ℕ → List Taken → List (ℕ × Piece)
pieces shards taken = pieces_from shards 0 taken

-- of these pieces those for one shard
abbrev pub channel : ℕ → List (ℕ × Piece) → List Piece
channel shard all = map (λ piece. piece.1) (filter (λ piece. piece.0 == shard) all)

-- the pieces that are due at a shard: those it is to run, in order
abbrev pub due : ℕ → ℕ → List Taken → List Piece
due shards shard taken = channel shard (pieces shards taken)

-- the pending reply of one command
abbrev pub pending_reply_at : ℕ → ℕ → Taken → PendingReply
pending_reply_at shards number one =
    pending_reply_of_server one.server (pending_reply_of shards (ticket_at number) (planned one))

-- the pending replies of these commands, the first of which has this number
abbrev pub pending_replies_from : ℕ → ℕ → List Taken → List PendingReply
pending_replies_from shards number [] = []
pending_replies_from shards number (one ∷ later) =
    pending_reply_at shards number one ∷ pending_replies_from shards (number + 1) later

abbrev pub pending_replies_of : ℕ → List Taken → List PendingReply
pending_replies_of shards taken = pending_replies_from shards 0 taken

-- a command with the answers accepted for its pieces
abbrev pub done_at : ℕ → List Shown → ℕ → Taken → AnsweredCommand
done_at shards accepted number one =
    record {
      entry = one.entry;
      moment = one.moment;
      server = one.server;
      given_up = one.given_up;
      answers = answers_of (slots_after accepted (ticket_at number) 0 (no_answers (pieces_of shards (planned one))));
    }

abbrev pub history_from : ℕ → List Shown → ℕ → List Taken → List AnsweredCommand
history_from shards accepted number [] = []
history_from shards accepted number (one ∷ later) =
    done_at shards accepted number one ∷ history_from shards accepted (number + 1) later

-- the history of these commands whose answers are those accepted
abbrev pub history_of : ℕ → List Shown → List Taken → List AnsweredCommand
history_of shards accepted taken = history_from shards accepted 0 taken

-- a piece that a shard ran, and its answer
pub record Ran : Type 0 where
  pub shard : ℕ
  pub piece : Piece
  pub answer : Answer

-- the pieces with their answers, one by one
abbrev pub ran_by : List (ℕ × Piece) → List Answer → List Ran
ran_by [] answers = []
ran_by (piece ∷ rest) [] = []
ran_by (piece ∷ rest) (answer ∷ answers) =
    record { shard = piece.0; piece = piece.1; answer = answer } ∷ ran_by rest answers

-- what was run for these commands, the first of which has this number
abbrev pub log_from : ℕ → ℕ → List AnsweredCommand → List Ran
log_from shards number [] = []
log_from shards number (done ∷ history) =
    ran_by (pieces_at shards number (taken_of done)) done.answers ++ log_from shards (number + 1) history

abbrev pub log_of : ℕ → List AnsweredCommand → List Ran
log_of shards history = log_from shards 0 history

abbrev pub on_shard : ℕ → List Ran → List Ran
on_shard shard log = filter (λ entry. entry.shard == shard) log

-- these pieces were run by a shard with the answers of these replies, one by one
abbrev pub ran_on : ℕ → List Piece → List Shown → List Ran
ran_on shard [] replies = []
ran_on shard (piece ∷ rest) [] = []
ran_on shard (piece ∷ rest) (reply ∷ replies) =
    record { shard = shard; piece = piece; answer = reply.answer } ∷ ran_on shard rest replies
