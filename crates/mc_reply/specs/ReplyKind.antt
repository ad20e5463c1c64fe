-- What a reply's text depends on besides the answers.
use Rattle.std.specs.Prelude.{ℕ, Bool, true, false, List, Option, Some, None, if◌then◌else◌}
use Rattle.std.specs.List.{list_any}
use Rattle.mc_command.specs.declared.command.Command.{Command}
use Rattle.mc_command.specs.declared.command.Command.TheVariants as command
use Rattle.mc_command.specs.declared.command.StatsRequest.TheVariants as request
use Rattle.mc_command.specs.declared.meta.MetaFlags.{MetaFlags}
use Rattle.mc_command.specs.declared.command.StoreMode.{StoreMode}
use Rattle.mc_command.specs.declared.command.StoreMode.TheVariants.{Append, Prepend}
use Rattle.mc_command.specs.declared.meta.ReturnFlag.{ReturnFlag}
use Rattle.mc_command.specs.declared.meta.ReturnFlag.TheVariants.{Key}
use Rattle.mc_command.specs.declared.rules.Profile.{Profile}
use Rattle.mc_command.specs.declared.rules.Profile.TheVariants.{DropIn}
use Rattle.mc_reply.specs.declared.pending_reply.ReplyKind.{ReplyKind}
use Rattle.mc_reply.specs.declared.pending_reply.ReplyKind.TheVariants.{Fixed, Line, Values, Stats, Meta}
use Rattle.mc_reply.specs.declared.pending_reply.Fixed.TheVariants as fixed
use Rattle.mc_command.specs.declared.meta.MetaKind.TheVariants as kind
use Rattle.mc_reply.specs.Server.{no_server}

-- the flag k
abbrev pub is_key_flag : ReturnFlag → Bool
is_key_flag Key = true
is_key_flag flag = false

-- the key, if the flag k asks for it
abbrev pub shown_key : MetaFlags → List ℕ → Option (List ℕ)
shown_key flags key = if list_any is_key_flag flags.returned then Some key else None

-- By memcached's rules a value that `ms` joins counts as not stored if it is too large, which is no error.
abbrev pub is_lenient_in : Profile → StoreMode → Bool
is_lenient_in DropIn Append = true
is_lenient_in DropIn Prepend = true
is_lenient_in profile mode = false

-- the shape of the reply to a command, as long as nothing is known of the server
unfoldable pub reply_kind_of : Command → ReplyKind
reply_kind_of (command.Store storage) = Line storage.noreply storage.lenient
reply_kind_of (command.Get retrieval) = Values retrieval.keys retrieval.with_unique
reply_kind_of (command.Delete key noreply) = Line noreply false
reply_kind_of (command.Count key direction amount noreply) = Line noreply false
reply_kind_of (command.Touch key exptime noreply) = Line noreply false
reply_kind_of (command.FlushAll delay noreply) = Line noreply false
reply_kind_of (command.Version profile) = Fixed (fixed.Version profile)
reply_kind_of (command.Verbosity noreply) = Fixed (if noreply then fixed.Nothing else fixed.Ok)
reply_kind_of (command.Stats request.General) = Stats no_server
reply_kind_of (command.Stats request.Reset) = Line false false
reply_kind_of (command.Stats request.Empty) = Fixed fixed.End
reply_kind_of command.Quit = Fixed fixed.Nothing
reply_kind_of command.Shutdown = Fixed fixed.Nothing
reply_kind_of command.MetaNoop = Fixed fixed.MetaNoop
reply_kind_of (command.MetaGet get) = Meta kind.Get get.flags get.value (shown_key get.flags get.asked.key) false
reply_kind_of (command.MetaSet set) =
    Meta kind.Set set.flags false (shown_key set.flags set.asked.key) (is_lenient_in set.flags.profile set.asked.mode)
reply_kind_of (command.MetaDelete delete) =
    Meta kind.Delete delete.flags false (shown_key delete.flags delete.asked.key) false
reply_kind_of (command.MetaArithmetic arithmetic) =
    Meta kind.Arithmetic arithmetic.flags arithmetic.value (shown_key arithmetic.flags arithmetic.asked.key) false
reply_kind_of (command.Refused refusal) = Fixed (fixed.Refused refusal)
reply_kind_of (command.Discard key refusal) = Fixed (fixed.Refused refusal)
