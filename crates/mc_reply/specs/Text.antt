-- The texts of replies, as functions of the whole list of answers (protocol.txt, the reply lines of each
-- command).
use Rattle.std.specs.Prelude.{ℕ, ◌/◌, ◌^◌, ◌%◌, Bool, true, false, ◌&&◌, List, [], ◌∷◌, ◌++◌, length, take, drop, codes}
use Rattle.std.specs.Prelude.{decimal, Option, Some, None, if◌then◌else◌}
use Rattle.std.specs.List.{concat, flat_map, list_any, sum_by, zip}
use Rattle.mc_command.specs.declared.command.Command.{Command}
use Rattle.mc_command.specs.declared.meta.MetaFlags.{MetaFlags}
use Rattle.mc_command.specs.declared.meta.ReturnFlag.{ReturnFlag}
use Rattle.mc_command.specs.declared.meta.ReturnFlag.TheVariants as return_flag
use Rattle.mc_command.specs.declared.error.CommandError.{CommandError}
use Rattle.mc_command.specs.declared.rules.Profile.{Profile}
use Rattle.mc_command.specs.declared.rules.Profile.TheVariants as profile
use Rattle.mc_command.specs.declared.error.CommandError.TheVariants as refusal
use Rattle.mc_item.specs.declared.answer.Answer.{Answer}
use Rattle.mc_item.specs.declared.answer.Answer.TheVariants.{Stored, NotStored, Exists, NotFound, TooLarge, NoCas}
use Rattle.mc_item.specs.declared.answer.Answer.TheVariants.{NoMemory, Hit, Miss, Number, NonNumeric, Deleted, Touched}
use Rattle.mc_item.specs.declared.answer.Answer.TheVariants.{Done, Reset}
use Rattle.mc_item.specs.declared.answer.Answer.TheVariants as answer
use Rattle.mc_item.specs.declared.answer.Marks.{Marks}
use Rattle.mc_item.specs.declared.stat.Stat.{Stat}
use Rattle.mc_item.specs.declared.stat.Stat.TheVariants as stat
use Rattle.mc_item.specs.Stat.{all_stats, row_of}
use Rattle.mc_reply.specs.declared.pending_reply.Fixed.{Fixed}
use Rattle.mc_reply.specs.declared.pending_reply.Fixed.TheVariants as fixed
use Rattle.mc_command.specs.declared.meta.MetaKind.{MetaKind}
use Rattle.mc_command.specs.declared.meta.MetaKind.TheVariants as kind
use Rattle.mc_reply.specs.declared.pending_reply.ReplyKind.{ReplyKind}
use Rattle.mc_reply.specs.declared.pending_reply.ReplyKind.TheVariants as reply_kind
use Rattle.mc_reply.specs.declared.server_stats.ServerStats.{ServerStats}
use Rattle.mc_reply.specs.Server.{of_server}
use Rattle.mc_reply.specs.ReplyKind.{reply_kind_of}
use Rattle.mc_wire.specs.Base64Key.{base64_of}

-- the line of a refusal (protocol.txt, "Error strings"; the words after the first are this server's)
abbrev pub refusal_line : CommandError → List ℕ
refusal_line refusal.Unknown = codes "ERROR\r\n"
refusal_line refusal.BadFormat = codes "CLIENT_ERROR bad command line format\r\n"
refusal_line refusal.BadKey = codes "CLIENT_ERROR bad key\r\n"
refusal_line refusal.InvalidFlag = codes "CLIENT_ERROR invalid flag\r\n"
refusal_line refusal.DuplicateFlag = codes "CLIENT_ERROR duplicate flag\r\n"
refusal_line refusal.OpaqueTooLong = codes "CLIENT_ERROR opaque token too long\r\n"
refusal_line refusal.TooLarge = codes "SERVER_ERROR object too large for cache\r\n"
refusal_line refusal.BadChunk = codes "CLIENT_ERROR bad data chunk\r\n"
refusal_line refusal.LineTooLong = codes "CLIENT_ERROR line too long\r\n"
refusal_line refusal.Memory = codes "SERVER_ERROR out of memory\r\n"
refusal_line refusal.WordCount = codes "ERROR\r\n"
refusal_line refusal.Hidden = []
refusal_line refusal.ShutdownDisabled = codes "ERROR: shutdown not enabled\r\n"
refusal_line refusal.ShutdownMode = codes "CLIENT_ERROR invalid shutdown mode\r\n"

-- the memcached release whose rules are followed; clients compare its parts as numbers
abbrev pub release : List ℕ
release = codes "1.6.18"

-- the line of `version`; by memcached's rules, of the release that is followed
abbrev pub version_line : Profile → List ℕ
version_line profile.Own = codes "VERSION 1.6.0-sharded\r\n"
version_line profile.DropIn = concat (codes "VERSION " ∷ release ∷ codes "\r\n" ∷ [])

-- a reply that doesn't depend on answers
abbrev pub fixed_text : Fixed → List ℕ
fixed_text fixed.Nothing = []
fixed_text fixed.Ok = codes "OK\r\n"
fixed_text (fixed.Version profile) = version_line profile
fixed_text fixed.End = codes "END\r\n"
fixed_text fixed.MetaNoop = codes "MN\r\n"
fixed_text (fixed.Refused refusal) = refusal_line refusal

-- the reply to a command for which memory was refused
abbrev pub memory_line : List ℕ
memory_line = codes "SERVER_ERROR out of memory\r\n"

abbrev pub is_no_memory : Answer → Bool
is_no_memory NoMemory = true
is_no_memory answer = false

-- the text, or the memory line if any answer is "out of memory"
abbrev pub unless_no_memory : List Answer → List ℕ → List ℕ
unless_no_memory answers text = if list_any is_no_memory answers then memory_line else text

-- the line of an answer that has one, for all commands of its kind
abbrev pub answer_line : Answer → List ℕ
answer_line Stored = codes "STORED\r\n"
answer_line NotStored = codes "NOT_STORED\r\n"
answer_line Exists = codes "EXISTS\r\n"
answer_line NotFound = codes "NOT_FOUND\r\n"
answer_line TooLarge = codes "SERVER_ERROR object too large for cache\r\n"
answer_line NoCas = codes "SERVER_ERROR out of cas uniques\r\n"
answer_line NoMemory = memory_line
answer_line (Number number) = concat (decimal number ∷ codes "\r\n" ∷ [])
answer_line NonNumeric = codes "CLIENT_ERROR cannot increment or decrement non-numeric value\r\n"
answer_line Deleted = codes "DELETED\r\n"
answer_line Touched = codes "TOUCHED\r\n"
answer_line Done = codes "OK\r\n"
answer_line Reset = codes "RESET\r\n"
answer_line answer = []

-- An answer as it is reported: if too large counts as not stored, no answer is too large.
abbrev pub told : Answer → Bool → Answer
told TooLarge true = NotStored
told answer lenient = answer

-- the text of the first answer: if a command of several parts has one line, all its answers are equal
abbrev pub of_first : (Answer → List ℕ) → List Answer → List ℕ
of_first text [] = []
of_first text (answer ∷ answers) = text answer

-- an item found (protocol.txt, "Retrieval command"), with or without its unique; a miss has no text
abbrev pub item_text : Bool → List ℕ → Answer → List ℕ
item_text with_unique key (Hit flags unique value) =
    concat (codes "VALUE " ∷ key ∷ codes " " ∷ decimal flags ∷ codes " " ∷ decimal (length value)
    ∷ (if with_unique then codes " " ++ decimal unique else []) ∷ codes "\r\n" ∷ value ∷ codes "\r\n" ∷ [])
item_text with_unique key answer = []

-- the items found, in the order of the keys, and the line that ends them
abbrev pub values_text : List (List ℕ) → Bool → List Answer → List ℕ
values_text keys with_unique answers =
    flat_map (λ pair. item_text with_unique pair.0 pair.1) (zip keys answers) ++ codes "END\r\n"

-- a line of `stats` (protocol.txt, "General-purpose statistics")
abbrev pub stat_text : List ℕ → List ℕ → List ℕ
stat_text name value = concat (codes "STAT " ∷ name ∷ codes " " ∷ value ∷ codes "\r\n" ∷ [])

-- the value of a statistic in a shard's answer
abbrev pub stat_in : Stat → Answer → ℕ
stat_in one (answer.Stats stats) = (row_of one).1 stats
stat_in one answer = 0

-- the sum of a statistic over all shards, modulo 2^64
abbrev pub together : Stat → List Answer → ℕ
together one answers = sum_by (stat_in one) answers % 2 ^ 64

-- lines whose values are numbers
abbrev pub number_lines : List (List ℕ × ℕ) → List ℕ
number_lines lines = flat_map (λ line. stat_text line.0 (decimal line.1)) lines

-- the lines of the process
abbrev pub process_text : ServerStats → List ℕ
process_text server =
    number_lines ((codes "pid", server.pid) ∷ (codes "uptime", server.uptime) ∷ (codes "time", server.time) ∷ [])

-- the lines of its CPU time: hundredths of a second as seconds, with six digits behind the point
abbrev pub times_text : ServerStats → List ℕ
times_text server =
    concat (codes "STAT rusage_user " ∷ decimal (server.user_time / 100) ∷ codes "." ∷ decimal
    (server.user_time / 10 % 10) ∷ decimal (server.user_time % 10)
    ∷ codes "0000\r\nSTAT rusage_system " ∷ decimal (server.system_time / 100) ∷ codes "." ∷ decimal
    (server.system_time / 10 % 10) ∷ decimal (server.system_time % 10)
    ∷ codes "0000\r\n" ∷ [])

-- the lines of the connections
abbrev pub connections_text : ServerStats → List ℕ
connections_text server =
    number_lines ((codes "max_connections", server.max_connections) ∷
    (codes "curr_connections", server.curr_connections)
    ∷ (codes "total_connections", server.total_connections) ∷
    (codes "rejected_connections", server.rejected_connections) ∷ [])

-- what is known of the server, with the release, in memcached's order
abbrev pub server_text : ServerStats → List ℕ
server_text server =
    concat (process_text server ∷ stat_text (codes "version") release ∷ times_text server ∷ connections_text server ∷
    [])

-- The numbers of commands come before the traffic, and those of items behind how many threads there are.
abbrev pub command_stats : List Stat
command_stats = take 18 all_stats

abbrev pub item_stats : List Stat
item_stats = drop 19 all_stats

-- the lines of numbers of all shards together
abbrev pub shard_lines : List Answer → List Stat → List ℕ
shard_lines answers stats = flat_map (λ one. stat_text (row_of one).0 (decimal (together one answers))) stats

-- the lines of the traffic, of the memory that items may take, and of the threads: one for each shard
abbrev pub traffic_text : ServerStats → ℕ → ℕ → List ℕ
traffic_text server limit threads =
    number_lines ((codes "bytes_read", server.bytes_read) ∷ (codes "bytes_written", server.bytes_written)
    ∷ (codes "limit_maxbytes", limit) ∷ (codes "threads", threads) ∷ [])

-- the reply to `stats`
abbrev pub stats_text : ServerStats → List Answer → List ℕ
stats_text server answers =
    concat (server_text server ∷ shard_lines answers command_stats
    ∷ traffic_text server (together stat.LimitMaxbytes answers) (length answers)
    ∷ shard_lines answers item_stats ∷ codes "END\r\n" ∷ [])

-- what the flag `q` hides (protocol.txt, "Meta Commands": "noreply semantics for return codes"): the miss of
-- `mg`, the success of `ms`, success and miss of `md`, and those of `ma` unless it returns the number
abbrev pub is_hidden : MetaKind → Bool → Answer → Bool
is_hidden kind.Get value Miss = true
is_hidden kind.Set value (answer.MetaDone done) = true
is_hidden kind.Delete value Deleted = true
is_hidden kind.Delete value Done = true
is_hidden kind.Delete value NotFound = true
is_hidden kind.Arithmetic false (answer.MetaDone done) = true
is_hidden kind.Arithmetic value NotFound = true
is_hidden kind value answer = false

-- the key: its bytes, or its base64 text (RFC 4648, section 4), which the flag `b` then marks
abbrev pub key_flag : Bool → Option (List ℕ) → List ℕ
key_flag base64 None = []
key_flag false (Some key) = concat (codes " k" ∷ key ∷ [])
key_flag true (Some key) = concat (codes " k" ∷ base64_of key ∷ codes " b" ∷ [])

-- the seconds to live, or -1
abbrev pub left_flag : Option ℕ → List ℕ
left_flag None = codes " t-1"
left_flag (Some left) = concat (codes " t" ∷ decimal left ∷ [])

-- a returned flag of an item found, stored or changed; other answers have none
abbrev pub item_flag : Answer → ReturnFlag → List ℕ
item_flag (answer.MetaHit hit) return_flag.Unique = concat (codes " c" ∷ decimal hit.unique ∷ [])
item_flag (answer.MetaHit hit) return_flag.ClientFlags = concat (codes " f" ∷ decimal hit.flags ∷ [])
item_flag (answer.MetaHit hit) return_flag.Fetched = if hit.fetched then codes " h1" else codes " h0"
item_flag (answer.MetaHit hit) return_flag.LastAccess = concat (codes " l" ∷ decimal hit.idle ∷ [])
item_flag (answer.MetaHit hit) return_flag.Size = concat (codes " s" ∷ decimal (length hit.value) ∷ [])
item_flag (answer.MetaHit hit) return_flag.TimeLeft = left_flag hit.left
item_flag (answer.MetaDone done) return_flag.Unique = concat (codes " c" ∷ decimal done.unique ∷ [])
item_flag (answer.MetaDone done) return_flag.Size = concat (codes " s" ∷ decimal done.size ∷ [])
item_flag (answer.MetaDone done) return_flag.TimeLeft = left_flag done.left
item_flag answer flag = []

-- a returned flag: the key and the opaque token in every reply, and the fields of the item in the answer
abbrev pub flag_text : MetaFlags → Option (List ℕ) → Answer → ReturnFlag → List ℕ
flag_text flags key answer return_flag.Key = key_flag flags.base64 key
flag_text flags key answer return_flag.Opaque = concat (codes " O" ∷ flags.opaque ∷ [])
flag_text flags key answer flag = item_flag answer flag

-- the returned flags, in the order of the request
abbrev pub flags_text : MetaFlags → Option (List ℕ) → Answer → List ℕ
flags_text flags key answer = flat_map (flag_text flags key answer) flags.returned

-- a returned flag if nothing was stored or changed: by memcached's rules `ms` returns a unique of 0
abbrev pub failed_flag : MetaKind → Profile → (ReturnFlag → List ℕ) → ReturnFlag → List ℕ
failed_flag kind.Set profile.DropIn text return_flag.Unique = codes " c0"
failed_flag kind profile text flag = text flag

abbrev pub failed_text : MetaKind → MetaFlags → Option (List ℕ) → Answer → List ℕ
failed_text kind flags key answer =
    flat_map (failed_flag kind flags.profile (flag_text flags key answer)) flags.returned

-- the marks of a hit, behind its flags; memcached's order is reversed
abbrev pub marks_text : Profile → Marks → List ℕ
marks_text profile.DropIn marks =
    concat ((if marks.sent then codes " Z" else []) ∷ (if marks.stale then codes " X" else []) ∷
    (if marks.won then codes " W" else []) ∷ [])
marks_text profile.Own marks =
    concat ((if marks.won then codes " W" else []) ∷ (if marks.stale then codes " X" else []) ∷
    (if marks.sent then codes " Z" else []) ∷ [])

-- a reply without a value: the code, the flags, the marks
abbrev pub head_text : List ℕ → List ℕ → List ℕ → List ℕ
head_text code flags marks = concat (code ∷ flags ∷ marks ∷ codes "\r\n" ∷ [])

-- a reply with this value, whose size follows the code, or without a value
abbrev pub value_text : Bool → List ℕ → List ℕ → List ℕ → List ℕ
value_text true value flags marks =
    concat (codes "VA " ∷ decimal (length value) ∷ flags ∷ marks ∷ codes "\r\n" ∷ value ∷ codes "\r\n" ∷ [])
value_text false value flags marks = head_text (codes "HD") flags marks

-- the reply of a meta command, with its value or number if that is requested (protocol.txt, "Meta Commands");
-- an error line has no flags
abbrev pub coded_text : MetaKind → MetaFlags → Option (List ℕ) → Answer → Bool → List ℕ
coded_text kind flags key (answer.MetaHit hit) value =
    value_text value hit.value (flags_text flags key (answer.MetaHit hit)) (marks_text flags.profile hit.marks)
coded_text kind flags key (answer.MetaDone done) value =
    value_text value (decimal done.number) (flags_text flags key (answer.MetaDone done)) []
coded_text kind flags key Deleted value = head_text (codes "HD") (flags_text flags key Deleted) []
coded_text kind flags key Done value = head_text (codes "HD") (flags_text flags key Done) []
coded_text kind flags key Miss value = head_text (codes "EN") (flags_text flags key Miss) []
coded_text kind flags key NotStored value = head_text (codes "NS") (failed_text kind flags key NotStored) []
coded_text kind flags key Exists value = head_text (codes "EX") (failed_text kind flags key Exists) []
coded_text kind flags key NotFound value = head_text (codes "NF") (failed_text kind flags key NotFound) []
coded_text kind flags key answer value = answer_line answer

-- the reply of a meta command, or nothing if `q` hides it
abbrev pub meta_text : MetaKind → MetaFlags → Bool → Option (List ℕ) → Bool → Answer → List ℕ
meta_text kind flags value key lenient answer =
    if flags.quiet && is_hidden kind value answer then [] else coded_text kind flags key (told answer lenient) value

-- the text of a reply of this shape, from the answers of all parts
unfoldable pub reply_kind_text : ReplyKind → List Answer → List ℕ
reply_kind_text (reply_kind.Fixed fixed) answers = fixed_text fixed
reply_kind_text (reply_kind.Line noreply lenient) answers =
    if noreply then [] else unless_no_memory answers (of_first (λ answer. answer_line (told answer lenient)) answers)
reply_kind_text (reply_kind.Values keys with_unique) answers =
    unless_no_memory answers (values_text keys with_unique answers)
reply_kind_text (reply_kind.Stats server) answers = unless_no_memory answers (stats_text server answers)
reply_kind_text (reply_kind.Meta kind flags value key lenient) answers =
    unless_no_memory answers (of_first (meta_text kind flags value key lenient) answers)

-- the reply of this server to a command, from the answers of all its pieces
abbrev pub text_of : ServerStats → Command → List Answer → List ℕ
text_of server command answers = reply_kind_text (of_server server (reply_kind_of command)) answers
