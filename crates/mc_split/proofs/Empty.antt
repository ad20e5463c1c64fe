-- Which commands have an empty reply, where each piece has a lawful answer.
use Rattle.std.proofs.Common.{◌≡◌, ℕ, zero, suc, ◌<◌, Bool, true, false, ◌↔◌, List, [], ◌∷◌, refl, arith}
use Rattle.std.specs.Prelude.{IsTrue}
use Rattle.std.specs.List.{flat_map, list_any, zip}
use Rattle.mc_command.specs.declared.command.Command.{Command}
use Rattle.mc_command.specs.declared.command.Command.TheVariants as command
use Rattle.mc_command.specs.declared.command.StatsRequest.TheVariants as request
use Rattle.mc_item.specs.declared.answer.Answer.{Answer}
use Rattle.mc_item.specs.declared.answer.Kind.TheVariants.{Store, Count, Delete, Touch, MetaGet, MetaStore, MetaDelete}
use Rattle.mc_item.specs.declared.answer.Kind.TheVariants.{MetaCount}
use Rattle.mc_item.specs.Kind.{kind_of}
use Rattle.mc_item.specs.declared.op.Op.{Op}
use Rattle.mc_item.specs.declared.op.Op.TheVariants as op
use Rattle.mc_command.specs.declared.meta.MetaKind.TheVariants as kind
use Rattle.mc_reply.specs.declared.server_stats.ServerStats.{ServerStats}
use Rattle.mc_reply.specs.declared.pending_reply.ReplyKind.TheVariants as reply_kind
use Rattle.mc_split.specs.Pieces.{asked_of_all, pieces_of}
use Rattle.mc_reply.specs.ReplyKind.{is_lenient_in, reply_kind_of, shown_key}
use Rattle.mc_reply.specs.Text.{is_no_memory, item_text, reply_kind_text, text_of}
use Rattle.mc_split.specs.Laws.{AnswersTo}
use Rattle.mc_reply.specs.TextLaws.{is_silent}
use Rattle.mc_reply.proofs.Silent.{is_plain, values_shown, told_shown, meta_silent, refused_shown, version_shown}
use Rattle.mc_reply.proofs.Silent.{plain_silent}

asks_silent : (shards : ℕ) → 0 < shards → (op : Op) → is_plain (kind_of op) ≡ true
    → (noreply : Bool) (answers : List Answer) → AnswersTo (asked_of_all shards op) answers →
    (reply_kind_text (reply_kind.Line noreply false) answers ≡ []) ↔ IsTrue noreply
asks_silent zero some op plain noreply answers h = absurd (omega arith)
asks_silent (suc shards) some op plain noreply (given ∷ answers) h =
    plain_silent (kind_of op) plain noreply false given answers h.0
asks_silent (suc shards) some op plain noreply [] h = absurd h

-- Where there is a shard, and each piece has a lawful answer, the reply is empty just where the command is silent.
pub empty_where_silent : (server : ServerStats) (shards : ℕ) → 0 < shards → (asked : Command) (answers : List Answer)
    → AnswersTo (pieces_of shards asked) answers → (text_of server asked answers ≡ [])
    ↔ IsTrue (is_silent asked answers)
unfolding pieces_of kind_of reply_kind_of reply_kind_text
empty_where_silent server shards some (command.Store storage) (given ∷ answers) h =
    plain_silent Store refl storage.noreply storage.lenient given answers h.0
empty_where_silent server shards some (command.Delete key noreply) (given ∷ answers) h =
    plain_silent Delete refl noreply false given answers h.0
empty_where_silent server shards some (command.Count key direction amount noreply) (given ∷ answers) h =
    plain_silent Count refl noreply false given answers h.0
empty_where_silent server shards some (command.Touch key exptime noreply) (given ∷ answers) h =
    plain_silent Touch refl noreply false given answers h.0
empty_where_silent server shards some (command.FlushAll delay noreply) answers h =
    asks_silent shards some (op.Flush delay) refl noreply answers h
empty_where_silent server shards some (command.Stats request.General) answers h =
    told_shown (list_any is_no_memory answers) _ _
empty_where_silent server shards some (command.Stats request.Reset) answers h =
    asks_silent shards some op.ResetStats refl false answers h
empty_where_silent server shards some (command.Get retrieval) answers h =
    values_shown (list_any is_no_memory answers)
    (flat_map (λ (pair : List ℕ × Answer). item_text retrieval.with_unique pair.0 pair.1) (zip retrieval.keys answers))
empty_where_silent server shards some (command.MetaGet get) (given ∷ []) h =
    meta_silent MetaGet refl kind.Get get.flags get.value (shown_key get.flags get.asked.key) false given h.0
empty_where_silent server shards some (command.MetaSet set) (given ∷ []) h =
    meta_silent MetaStore refl kind.Set set.flags false (shown_key set.flags set.asked.key)
    (is_lenient_in set.flags.profile set.asked.mode) given h.0
empty_where_silent server shards some (command.MetaDelete delete) (given ∷ []) h =
    meta_silent MetaDelete refl kind.Delete delete.flags false (shown_key delete.flags delete.asked.key) false given h.0
empty_where_silent server shards some (command.MetaArithmetic arithmetic) (given ∷ []) h =
    meta_silent MetaCount refl kind.Arithmetic arithmetic.flags arithmetic.value
    (shown_key arithmetic.flags arithmetic.asked.key) false given h.0
empty_where_silent server shards some (command.Refused refused) answers h = refused_shown refused
empty_where_silent server shards some (command.Discard key refused) answers h = refused_shown refused
empty_where_silent server shards some (command.Version profile) answers h = version_shown profile answers
empty_where_silent server shards some (command.Verbosity true) answers h = (λ e. refl, λ e. refl)
-- other answers are of no such command, and the other texts are plain to see
empty_where_silent server shards some other answers h = (λ e. search, λ e. search)
