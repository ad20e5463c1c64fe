-- The pieces of a command, numbered one after another, and how it is split into them.
use Rattle.std.proofs.Common.{◌≡◌, ℕ, suc, ◌+◌, ◌-◌, ◌<◌, ◌≤◌, List, [], ◌∷◌, length, map, replicate, Option, None}
use Rattle.std.proofs.Common.{refl, ap, sym, ◌∙◌, arith}
use Rattle.std.proofs.lemmas.List.{length-map}
use Rattle.std.proofs.lemmas.List.FromFn.{length-map-range_with_len}
use Rattle.std.specs.Prelude.{ℤ, IsTrue, Result, Ok, Err}
use Rattle.std.specs.List.{range_with_len}
use Rattle.mc_wire.specs.Key.{place_of}
use Rattle.mc_command.specs.Command.{can_give_up}
use Rattle.mc_command.specs.declared.command.Command.{Command}
use Rattle.mc_command.specs.declared.command.Retrieval.{Retrieval}
use Rattle.mc_item.specs.Kind.{kind_of}
use Rattle.mc_item.specs.declared.answer.Answer.{Answer}
use Rattle.mc_item.specs.declared.answer.Kind.TheVariants.{Fetch}
use Rattle.mc_item.specs.declared.memory.NoMemory.{NoMemory}
use Rattle.mc_item.specs.declared.op.Op.{Op}
use Rattle.mc_item.specs.declared.op.Op.TheVariants as op
use Rattle.mc_reply.specs.ReplyKind.{reply_kind_of}
use Rattle.mc_reply.specs.declared.pending_reply.PendingReply.{PendingReply}
use Rattle.mc_reply.specs.declared.pending_reply.ReplyKind.{ReplyKind}
use Rattle.mc_reply.specs.declared.ticket.Ticket.{Ticket}
use Rattle.mc_split.specs.declared.plan.Piece.{Piece}
use Rattle.mc_split.specs.declared.run.Asks.{Asks}
use Rattle.mc_split.specs.declared.planner.Planner.{Planner}
use Rattle.mc_split.specs.declared.stats.ToAll.{ToAll}
use Rattle.mc_split.specs.Pieces.{ShardOp, asked_of, asked_of_all, pieces_of}
use Rattle.mc_split.specs.Plan.{SplitsInto, pending_reply_kind, no_answers, parts_from}
use Rattle.mc_split.specs.internal.Left.{asks_from, fetches_left, gets_of}
use Rattle.mc_split.specs.internal.Queue.{asks_left}
use Rattle.mc_split.specs.internal.Splits.{Splits}
use Rattle.mc_split.specs.internal.ToAll.{op_of}
use Rattle.mc_split.proofs.Shards.{ask_of, asks_kind, gets_kind}

-- A command has one piece for each thing that it asks of a shard.
pub length-parts_from : (part : ℕ) (ticket : Ticket) (moment : ℕ) (asked : List ShardOp)
    → length (parts_from part ticket moment asked) ≡ length asked
length-parts_from part ticket moment [] = refl
length-parts_from part ticket moment (one ∷ asked) = ap (λ n. suc n) (length-parts_from (part + 1) ticket moment asked)

-- there is a slot for each part
pub empty_slots : (asked : List ShardOp) → replicate {A = Option Answer} (length asked) None ≡ no_answers asked
empty_slots [] = refl
empty_slots (piece ∷ asked) = ap (λ (slots : List (Option Answer)). None ∷ slots) (empty_slots asked)

-- the parts are numbered from the first on
pub parts_numbered : (part : ℕ) (ticket : Ticket) (moment : ℕ) (asked : List ShardOp)
    → map (λ (sent : ℕ × Piece). sent.1.part) (parts_from part ticket moment asked) ≡ range_with_len part (length asked)
parts_numbered part ticket moment [] = refl
parts_numbered part ticket moment (piece ∷ asked) =
    ap (λ (parts : List ℕ). part ∷ parts) (parts_numbered (part + 1) ticket moment asked)

-- What the shards from one on are asked is what that one is asked, and what those behind it are.
pub asks_from-next : (op : Op) (first shards : ℕ) → first < shards → asks_from op first (shards - first)
    ≡ ask_of op first ∷ asks_from op (first + 1) (shards - (first + 1))
asks_from-next op first shards below =
    let left : shards - first ≡ suc (shards - (first + 1)) = omega arith in
    rw left refl

-- Where there is a shard, what every shard is asked is one piece at least.
pub asks_some : (op : Op) (shards : ℕ) → 0 < shards → 0 < length (asks_from op 0 shards)
asks_some op shards some = omega (arith, length-map-range_with_len (ask_of op) 0 shards, some)

-- this part of a planner's command
abbrev pub part_of : Planner → ℕ → Op → Piece
part_of planner part op = record { ticket = planner.ticket; part = part; op = op; moment = planner.moment }

-- The fetches that are left are that of the next key, and those of the keys behind it.
pub fetch_next : (planner : Planner) (touch : Option ℤ) (count : ℕ) (key : List ℕ) (keys : List (List ℕ))
    → length (key ∷ keys) ≤ count →
    fetches_left planner touch count (key ∷ keys)
    ≡ (place_of key planner.shards, part_of planner (count - length (key ∷ keys)) (op.Fetch key touch)) ∷ fetches_left
    planner touch count keys
fetch_next planner touch count key keys within =
    let next : (count - length (key ∷ keys)) + 1 ≡ count - length keys = omega (arith, within) in
    ap (λ part. (place_of key planner.shards, part_of planner (count - length (key ∷ keys)) (op.Fetch key touch)) ∷
    parts_from part planner.ticket planner.moment (gets_of planner.shards touch keys)) next

-- A key that is left has a fetch that is left.
pub fetches_some : (planner : Planner) (touch : Option ℤ) (count : ℕ) (keys : List (List ℕ)) → 0 < length keys
    → 0 < length (fetches_left planner touch count keys)
fetches_some planner touch count keys some =
    let asked = gets_of planner.shards touch keys in
    omega (
      arith,
      some,
      length-parts_from (count - length keys) planner.ticket planner.moment asked,
      length-map keys (λ key. asked_of planner.shards key (op.Fetch key touch)),
    )

-- Without a key no fetch is left.
pub fetches_none : (planner : Planner) (touch : Option ℤ) (count : ℕ) (keys : List (List ℕ)) → length keys ≡ 0
    → fetches_left planner touch count keys ≡ []
fetches_none planner touch count [] none = refl
fetches_none planner touch count (key ∷ keys) none = absurd (omega (arith, none))

-- What is left to ask is what the next shard is asked, and what those behind it are.
pub ask_next : (planner : Planner) (asked : ToAll) (next : ℕ) → next < planner.shards →
    asks_left (record { planner = planner; asked = asked; next = next })
    ≡ (next, part_of planner next (op_of asked)) ∷ asks_left
    (record { planner = planner; asked = asked; next = next + 1 })
ask_next planner asked next below =
    ap (λ asks. parts_from next planner.ticket planner.moment asks)
    (asks_from-next (op_of asked) next planner.shards below)

-- Once all shards were asked nothing is left to ask.
pub asks_over : (asks : Asks) → asks.planner.shards ≤ asks.next → asks_left asks ≡ []
asks_over asks all =
    let none : asks.planner.shards - asks.next ≡ 0 = omega arith in
    ap (λ count. parts_from asks.next asks.planner.ticket asks.planner.moment
    (asks_from (op_of asks.asked) asks.next count)) none

-- Before that there is.
pub asks_go_on : (asks : Asks) → asks.next < asks.planner.shards → 0 < length (asks_left asks)
asks_go_on asks below =
    let count = asks.planner.shards - asks.next in
    let asked = asks_from (op_of asks.asked) asks.next count in
    omega (
      arith,
      below,
      length-parts_from asks.next asks.planner.ticket asks.planner.moment asked,
      length-map-range_with_len (ask_of (op_of asks.asked)) asks.next count,
    )

-- A command is split once its pieces are queued.
pub splits_into : (planner : Planner) (command : Command) (result : Result PendingReply NoMemory)
    (reply_kind : ReplyKind) (asked : List ShardOp) (old now : List (ℕ × Piece)) → reply_kind ≡ reply_kind_of command
    → asked ≡ pieces_of planner.shards command → IsTrue (can_give_up command)
    → Splits result planner.ticket planner.moment reply_kind asked old now →
    SplitsInto planner command result old now
splits_into planner command (Ok pending_reply) reply_kind asked old now reply_kind_is pieces_are may one =
    let all = rw (reply_kind_is, pieces_are) at one in
    record { pending_reply = all.pending_reply; pieces = all.pieces; unchanged = tt; asks = tt; gives_up = tt }
splits_into planner command (Err fault) reply_kind asked old now reply_kind_is pieces_are may one =
    let all = rw (reply_kind_is, pieces_are) at one in
    record { pending_reply = tt; pieces = tt; unchanged = all.unchanged; asks = all.asks; gives_up = may }

-- A get of a key at least asks a shard.
pub get_asks : (shards : ℕ) (retrieval : Retrieval) → 0 < length retrieval.keys
    → 0 < length (gets_of shards retrieval.touch retrieval.keys)
get_asks shards retrieval some =
    omega (arith, some, length-map retrieval.keys (λ key. asked_of shards key (op.Fetch key retrieval.touch)))

-- The pending reply of a get has a slot for each key.
pub get_pending_reply : (ticket : Ticket) (reply_kind : ReplyKind) (shards : ℕ) (touch : Option ℤ)
    (keys : List (List ℕ)) (count : ℕ) (pending_reply : PendingReply) → 0 < length keys → count ≡ length keys →
    pending_reply ≡ record { ticket = ticket; kind = Fetch; reply_kind = reply_kind; slots = replicate count None }
    → pending_reply ≡ record {
      ticket = ticket;
      kind = pending_reply_kind (gets_of shards touch keys);
      reply_kind = reply_kind;
      slots = no_answers (gets_of shards touch keys);
    }
get_pending_reply ticket reply_kind shards touch [] count pending_reply some count_is pending_reply_is =
    absurd (omega (arith, some))
get_pending_reply ticket reply_kind shards touch (key ∷ keys) count pending_reply some count_is pending_reply_is =
    let slots : replicate {A = Option Answer} count None ≡ no_answers (gets_of shards touch (key ∷ keys)) =
    ap (λ n. replicate {A = Option Answer} n None)
    (count_is ∙ sym (length-map (key ∷ keys) (λ one. asked_of shards one (op.Fetch one touch))))
    ∙ empty_slots (gets_of shards touch (key ∷ keys)) in
    rw (pending_reply_is, slots, gets_kind shards touch key keys) refl

-- The pending reply of a command that asks every shard has a slot for each shard.
pub asks_pending_reply : (ticket : Ticket) (reply_kind : ReplyKind) (op : Op) (shards : ℕ)
    (pending_reply : PendingReply) → 0 < shards →
    pending_reply ≡ record {
      ticket = ticket;
      kind = kind_of op;
      reply_kind = reply_kind;
      slots = replicate shards None;
    } → pending_reply ≡ record {
      ticket = ticket;
      kind = pending_reply_kind (asks_from op 0 shards);
      reply_kind =
          reply_kind;
      slots = no_answers (asks_from op 0 shards);
    }
asks_pending_reply ticket reply_kind op shards pending_reply some pending_reply_is =
    let slots : replicate {A = Option Answer} shards None ≡ no_answers (asks_from op 0 shards) =
    ap (λ n. replicate {A = Option Answer} n None) (sym (length-map-range_with_len (ask_of op) 0 shards))
    ∙ empty_slots (asks_from op 0 shards) in
    rw (pending_reply_is, slots, asks_kind 0 shards op some) refl

-- Before the first piece is taken, the fetches of all keys are left.
pub all_fetches : (planner : Planner) (touch : Option ℤ) (copies keys : List (List ℕ)) → copies ≡ keys
    → fetches_left planner touch (length copies) copies
    ≡ parts_from 0 planner.ticket planner.moment (gets_of planner.shards touch keys)
all_fetches planner touch copies keys same =
    let none : length copies - length copies ≡ 0 = omega arith in
    ap (λ part. parts_from part planner.ticket planner.moment (gets_of planner.shards touch copies)) none
    ∙ ap (λ ks. parts_from 0 planner.ticket planner.moment (gets_of planner.shards touch ks)) same

-- Before the first piece is taken, what all shards are asked is left.
pub all_asks : (planner : Planner) (asked : ToAll) → asks_left (record { planner = planner; asked = asked; next = 0 })
    ≡ parts_from 0 planner.ticket planner.moment (asked_of_all planner.shards (op_of asked))
all_asks planner asked =
    let all : planner.shards - 0 ≡ planner.shards = omega arith in
    ap (λ count. parts_from 0 planner.ticket planner.moment (asks_from (op_of asked) 0 count)) all
