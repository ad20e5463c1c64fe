-- A quiet command beside the loud one: its reply is empty or equal.
use Rattle.std.proofs.Common.{◌≡◌, ℕ, Bool, true, false, ◌&&◌, ◌⊎◌, inl, inr, cond, List, [], ◌∷◌, Option, refl}
use Rattle.std.specs.List.{list_any}
use Rattle.mc_command.specs.declared.command.Command.{Command}
use Rattle.mc_command.specs.declared.command.Command.TheVariants as command
use Rattle.mc_command.specs.declared.command.StatsRequest.TheVariants as request
use Rattle.mc_command.specs.declared.meta.MetaFlags.{MetaFlags}
use Rattle.mc_item.specs.declared.answer.Answer.{Answer}
use Rattle.mc_command.specs.declared.meta.MetaKind.{MetaKind}
use Rattle.mc_command.specs.declared.meta.MetaKind.TheVariants as kind
use Rattle.mc_reply.specs.declared.pending_reply.ReplyKind.TheVariants as reply_kind
use Rattle.mc_reply.specs.declared.server_stats.ServerStats.{ServerStats}
use Rattle.mc_reply.specs.Server.{shows_server}
use Rattle.mc_reply.specs.ReplyKind.{is_lenient_in, reply_kind_of, shown_key}
use Rattle.mc_reply.specs.Text.{coded_text, is_hidden, is_no_memory, memory_line, reply_kind_text, text_of, told}
use Rattle.mc_reply.specs.TextLaws.{loud, without_quiet}

-- the text is empty if the test holds
abbrev EmptyOr : List ℕ → List ℕ → Type 0
EmptyOr text other = (text ≡ []) ⊎ (text ≡ other)

hidden_or_not : (test lacks : Bool) (shown : List ℕ)
    → EmptyOr (cond lacks memory_line (cond test [] shown)) (cond lacks memory_line shown)
hidden_or_not true true shown = inr refl
hidden_or_not true false shown = inl refl
hidden_or_not false lacks shown = inr refl

noreply_or_not : (noreply : Bool) (text : List ℕ) → EmptyOr (cond noreply [] text) text
noreply_or_not true text = inl refl
noreply_or_not false text = inr refl

coded_or_not : (kind : MetaKind) (flags : MetaFlags) (value : Bool) (key : Option (List ℕ)) (test lacks : Bool)
    (given : Answer) →
    EmptyOr (cond lacks memory_line (cond test [] (coded_text kind flags key given value)))
    (cond lacks memory_line (coded_text kind (without_quiet flags) key given value))
coded_or_not kind flags value key test lacks given = hidden_or_not test lacks (coded_text kind flags key given value)

meta_or_not : (kind : MetaKind) (flags : MetaFlags) (value : Bool) (key : Option (List ℕ)) (lenient : Bool)
    (answers : List Answer) →
    EmptyOr (reply_kind_text (reply_kind.Meta kind flags value key lenient) answers)
    (reply_kind_text (reply_kind.Meta kind (without_quiet flags) value key lenient) answers)
unfolding reply_kind_text
meta_or_not kind flags value key lenient [] = inl refl
meta_or_not kind flags value key lenient (answer ∷ answers) =
    coded_or_not kind flags value key (flags.quiet && is_hidden kind value answer)
    (list_any is_no_memory (answer ∷ answers)) (told answer lenient)

-- The reply to a command is empty, or equal to that of the command without `noreply` and `q`.
pub empty_or_loud : (server : ServerStats) (command : Command) (answers : List Answer)
    → (text_of server command answers ≡ []) ⊎ (text_of server command answers ≡ text_of server (loud command) answers)
unfolding reply_kind_of reply_kind_text
empty_or_loud server (command.Store storage) answers =
    noreply_or_not storage.noreply (reply_kind_text (reply_kind.Line false storage.lenient) answers)
empty_or_loud server (command.Delete key noreply) answers =
    noreply_or_not noreply (reply_kind_text (reply_kind.Line false false) answers)
empty_or_loud server (command.Count key direction amount noreply) answers =
    noreply_or_not noreply (reply_kind_text (reply_kind.Line false false) answers)
empty_or_loud server (command.Touch key exptime noreply) answers =
    noreply_or_not noreply (reply_kind_text (reply_kind.Line false false) answers)
empty_or_loud server (command.FlushAll delay noreply) answers =
    noreply_or_not noreply (reply_kind_text (reply_kind.Line false false) answers)
empty_or_loud server (command.Verbosity true) answers = inl refl
empty_or_loud server command.Quit answers = inl refl
empty_or_loud server command.Shutdown answers = inl refl
empty_or_loud server (command.MetaGet get) answers =
    meta_or_not kind.Get get.flags get.value (shown_key get.flags get.asked.key) false answers
empty_or_loud server (command.MetaSet set) answers =
    meta_or_not kind.Set set.flags false (shown_key set.flags set.asked.key)
    (is_lenient_in set.flags.profile set.asked.mode) answers
empty_or_loud server (command.MetaDelete delete) answers =
    meta_or_not kind.Delete delete.flags false (shown_key delete.flags delete.asked.key) false answers
empty_or_loud server (command.MetaArithmetic arithmetic) answers =
    meta_or_not kind.Arithmetic arithmetic.flags arithmetic.value (shown_key arithmetic.flags arithmetic.asked.key)
    false answers
empty_or_loud server other answers = inr refl

-- Only the reply to `stats` shows the server.
pub shown_by_stats : (server other : ServerStats) (command : Command) (answers : List Answer) → shows_server command
    ≡ false → text_of server command answers ≡ text_of other command answers
unfolding reply_kind_of
shown_by_stats server other (command.Stats request.General) answers none = absurd (cc none)
shown_by_stats server other (command.Stats request.Reset) answers none = refl
shown_by_stats server other (command.Stats request.Empty) answers none = refl
shown_by_stats server other asked answers none = refl
