-- Returned flags in another order.
use Rattle.std.proofs.Common.{◌≡◌, ℕ, Bool, true, false, ◌&&◌, cond, List, [], ◌∷◌, ◌++◌, length, Option, Some, None}
use Rattle.std.proofs.Common.{refl, sym, ap, append-nil}
use Rattle.std.specs.Prelude.{codes, decimal}
use Rattle.std.specs.List.{flat_map, list_any}
use Rattle.std.specs.List.Sorted.{IsPermutation}
use Rattle.std.proofs.lemmas.List.Sorted.{list_any-IsPermutation}
use Rattle.mc_command.specs.declared.command.Command.{Command}
use Rattle.mc_command.specs.declared.command.Command.TheVariants as command
use Rattle.mc_command.specs.declared.meta.MetaFlags.{MetaFlags}
use Rattle.mc_command.specs.declared.meta.ReturnFlag.{ReturnFlag}
use Rattle.mc_item.specs.declared.answer.Answer.{Answer}
use Rattle.mc_item.specs.declared.answer.Answer.TheVariants.{NotStored, Exists, NotFound, Miss, Deleted, Done}
use Rattle.mc_item.specs.declared.answer.Answer.TheVariants as answer
use Rattle.mc_command.specs.declared.meta.MetaKind.{MetaKind}
use Rattle.mc_command.specs.declared.meta.MetaKind.TheVariants as kind
use Rattle.mc_reply.specs.declared.pending_reply.ReplyKind.TheVariants as reply_kind
use Rattle.mc_reply.specs.declared.server_stats.ServerStats.{ServerStats}
use Rattle.mc_reply.specs.ReplyKind.{is_key_flag, is_lenient_in, reply_kind_of, shown_key}
use Rattle.mc_reply.specs.Text.{answer_line, coded_text, failed_flag, flag_text, is_hidden, is_no_memory, marks_text}
use Rattle.mc_reply.specs.Text.{memory_line, reply_kind_text, text_of, told}
use Rattle.mc_command.specs.FlagOrder.{returned_in, with_flags, with_returned}
use Rattle.mc_reply.specs.TextLaws.{DiffersInOrder}

none_of : (flags : List ReturnFlag) → flat_map {X = ReturnFlag} {A = ℕ} (λ _. []) flags ≡ []
none_of [] = refl
none_of (flag ∷ flags) = none_of flags

-- a text that no flag changes
alike : (flags others : List ReturnFlag) (text : List ℕ) → DiffersInOrder flags others text text
alike flags others text = record {
  before = text;
  behind = [];
  one = λ _. [];
  text_is = rw (none_of flags) (sym (append-nil text));
  other_is = rw (none_of others) (sym (append-nil text));
}

-- a reply without a value
headed : (code marks : List ℕ) (one : ReturnFlag → List ℕ) (flags others : List ReturnFlag) →
    DiffersInOrder flags others (code ++ (flat_map one flags ++ (marks ++ codes "\r\n")))
    (code ++ (flat_map one others ++ (marks ++ codes "\r\n")))
headed code marks one flags others =
    record { before = code; behind = marks ++ codes "\r\n"; one = one; text_is = refl; other_is = refl }

-- a reply with a value, whose size precedes the flags
valued : (value marks : List ℕ) (one : ReturnFlag → List ℕ) (flags others : List ReturnFlag) →
    DiffersInOrder flags others
    (codes "VA " ++ (decimal (length value)
    ++ (flat_map one flags ++ (marks ++ (codes "\r\n" ++ (value ++ codes "\r\n")))))) (codes "VA "
    ++ (decimal (length value) ++ (flat_map one others ++ (marks ++ (codes "\r\n" ++ (value ++ codes "\r\n"))))))
valued value marks one flags others = record {
  before = codes "VA " ++ decimal (length value);
  behind = marks ++ (codes "\r\n" ++ (value ++ codes "\r\n"));
  one = one;
  text_is = refl;
  other_is = refl;
}

coded : (kind : MetaKind) (flags : MetaFlags) (others : List ReturnFlag) (key : Option (List ℕ)) (given : Answer)
    (value : Bool) →
    DiffersInOrder flags.returned others (coded_text kind flags key given value)
    (coded_text kind (with_flags flags others) key given value)
coded kind flags others key (answer.MetaHit hit) true =
    valued hit.value (marks_text flags.profile hit.marks) (flag_text flags key (answer.MetaHit hit)) flags.returned
    others
coded kind flags others key (answer.MetaHit hit) false =
    headed (codes "HD") (marks_text flags.profile hit.marks) (flag_text flags key (answer.MetaHit hit)) flags.returned
    others
coded kind flags others key (answer.MetaDone done) true =
    valued (decimal done.number) [] (flag_text flags key (answer.MetaDone done)) flags.returned others
coded kind flags others key (answer.MetaDone done) false =
    headed (codes "HD") [] (flag_text flags key (answer.MetaDone done)) flags.returned others
coded kind flags others key Deleted value = headed (codes "HD") [] (flag_text flags key Deleted) flags.returned others
coded kind flags others key Done value = headed (codes "HD") [] (flag_text flags key Done) flags.returned others
coded kind flags others key Miss value = headed (codes "EN") [] (flag_text flags key Miss) flags.returned others
coded kind flags others key NotStored value =
    headed (codes "NS") [] (failed_flag kind flags.profile (flag_text flags key NotStored)) flags.returned others
coded kind flags others key Exists value =
    headed (codes "EX") [] (failed_flag kind flags.profile (flag_text flags key Exists)) flags.returned others
coded kind flags others key NotFound value =
    headed (codes "NF") [] (failed_flag kind flags.profile (flag_text flags key NotFound)) flags.returned others
coded kind flags others key given value = alike flags.returned others (answer_line given)

shown_alike : (lacks hidden : Bool) (flags others : List ReturnFlag) (text other : List ℕ)
    → DiffersInOrder flags others text other →
    DiffersInOrder flags others (cond lacks memory_line (cond hidden [] text))
    (cond lacks memory_line (cond hidden [] other))
shown_alike true hidden flags others text other h = alike flags others memory_line
shown_alike false true flags others text other h = alike flags others []
shown_alike false false flags others text other h = h

with_key : (kind : MetaKind) (flags : MetaFlags) (others : List ReturnFlag) (value : Bool) (key : Option (List ℕ))
    (lenient : Bool) (answers : List Answer) →
    DiffersInOrder flags.returned others (reply_kind_text (reply_kind.Meta kind flags value key lenient) answers)
    (reply_kind_text (reply_kind.Meta kind (with_flags flags others) value key lenient) answers)
unfolding reply_kind_text
with_key kind flags others value key lenient [] = alike flags.returned others []
with_key kind flags others value key lenient (given ∷ answers) =
    shown_alike (list_any is_no_memory (given ∷ answers)) (flags.quiet && is_hidden kind value given) flags.returned
    others
    (coded_text kind flags key (told given lenient) value)
    (coded_text kind (with_flags flags others) key (told given lenient) value)
    (coded kind flags others key (told given lenient) value)

ordered : (kind : MetaKind) (flags : MetaFlags) (others : List ReturnFlag) (value : Bool) (key : List ℕ)
    (lenient : Bool) (answers : List Answer) → IsPermutation flags.returned others →
    DiffersInOrder flags.returned others
    (reply_kind_text (reply_kind.Meta kind flags value (shown_key flags key) lenient) answers)
    (reply_kind_text (reply_kind.Meta kind (with_flags flags others) value (shown_key (with_flags flags others) key)
    lenient) answers)
ordered kind flags others value key lenient answers moved =
    let same : shown_key flags key ≡ shown_key (with_flags flags others) key =
    ap (λ test. cond test (Some key) None) (list_any-IsPermutation is_key_flag flags.returned others moved) in
    rw (← same) (with_key kind flags others value (shown_key flags key) lenient answers)

-- Another order of the returned flags changes only their order in the reply.
pub orders_flags : (server : ServerStats) (command : Command) (returned : List ReturnFlag)
    → IsPermutation (returned_in command) returned → (answers : List Answer) →
    DiffersInOrder (returned_in command) returned (text_of server command answers)
    (text_of server (with_returned command returned) answers)
unfolding reply_kind_of
orders_flags server (command.MetaGet get) returned moved answers =
    ordered kind.Get get.flags returned get.value get.asked.key false answers moved
orders_flags server (command.MetaSet set) returned moved answers =
    ordered kind.Set set.flags returned false set.asked.key (is_lenient_in set.flags.profile set.asked.mode) answers
    moved
orders_flags server (command.MetaDelete delete) returned moved answers =
    ordered kind.Delete delete.flags returned false delete.asked.key false answers moved
orders_flags server (command.MetaArithmetic arithmetic) returned moved answers =
    ordered kind.Arithmetic arithmetic.flags returned arithmetic.value arithmetic.asked.key false answers moved
orders_flags server other returned moved answers = alike [] returned (text_of server other answers)
