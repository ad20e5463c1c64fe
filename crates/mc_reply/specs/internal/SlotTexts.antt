-- The texts of replies over slots, some of which may still be empty: an empty slot has no text.
use Rattle.std.specs.Prelude.{ℕ, ◌%◌, ◌^◌, Bool, true, false, List, [], ◌∷◌, ◌++◌, length, codes, decimal, Option, Some}
use Rattle.std.specs.Prelude.{None, if◌then◌else◌}
use Rattle.std.specs.List.{concat, flat_map, list_any, sum_by}
use Rattle.mc_item.specs.declared.answer.Answer.{Answer}
use Rattle.mc_item.specs.declared.answer.Answer.TheVariants.{Hit, Number}
use Rattle.mc_reply.specs.declared.pending_reply.ReplyKind.{ReplyKind}
use Rattle.mc_reply.specs.declared.pending_reply.ReplyKind.TheVariants as reply_kind
use Rattle.mc_item.specs.declared.stat.Stat.{Stat}
use Rattle.mc_item.specs.declared.stat.Stat.TheVariants as stat
use Rattle.mc_item.specs.Stat.{row_of}
use Rattle.mc_reply.specs.declared.server_stats.ServerStats.{ServerStats}
use Rattle.mc_reply.specs.Text.{command_stats, memory_line, fixed_text, answer_line, is_no_memory, item_stats}
use Rattle.mc_reply.specs.Text.{item_text, meta_text, server_text, stat_in, stat_text, told, traffic_text}

-- the fixed line of an answer; a number has none
abbrev pub fixed_line : Answer → List ℕ
fixed_line (Number number) = []
fixed_line answer = answer_line answer

-- an item that was found, without its unique
abbrev pub plain_item : List ℕ → ℕ → List ℕ → List ℕ
plain_item key flags value = item_text false key (Hit flags 0 value)

-- an item that was found, with its unique
abbrev pub unique_item : List ℕ → ℕ → ℕ → List ℕ → List ℕ
unique_item key flags unique value = item_text true key (Hit flags unique value)

-- the text of an answer that is there
abbrev pub slot_text : (Answer → List ℕ) → Option Answer → List ℕ
slot_text text None = []
slot_text text (Some answer) = text answer

-- the text of the first answer
abbrev pub first_text : (Answer → List ℕ) → List (Option Answer) → List ℕ
first_text text [] = []
first_text text (slot ∷ slots) = slot_text text slot

-- the items of these keys
abbrev pub items_text : Bool → List (List ℕ) → List (Option Answer) → List ℕ
items_text with_unique (key ∷ keys) (slot ∷ slots) =
    slot_text (item_text with_unique key) slot ++ items_text with_unique keys slots
items_text with_unique [] slots = []
items_text with_unique (key ∷ keys) [] = []

-- a number of the shard of a slot
abbrev pub slot_stat : Stat → Option Answer → ℕ
slot_stat one None = 0
slot_stat one (Some answer) = stat_in one answer

-- the line of a number of all shards together, and all such lines
abbrev pub sum_line : List (Option Answer) → Stat → List ℕ
sum_line slots one = stat_text (row_of one).0 (decimal (sum_by (slot_stat one) slots % 2 ^ 64))

unfoldable pub sums_text : List (Option Answer) → List Stat → List ℕ
sums_text slots stats = flat_map (sum_line slots) stats

-- the reply to stats
abbrev pub stats_over : ServerStats → List (Option Answer) → List ℕ
stats_over server slots =
    concat (server_text server ∷ sums_text slots command_stats
    ∷ traffic_text server (sum_by (slot_stat stat.LimitMaxbytes) slots % 2 ^ 64) (length slots)
    ∷ sums_text slots item_stats ∷ codes "END\r\n" ∷ [])

-- a slot's answer is "out of memory"
abbrev pub lacks_memory : Option Answer → Bool
lacks_memory None = false
lacks_memory (Some answer) = is_no_memory answer

abbrev pub unless_lacking : List (Option Answer) → List ℕ → List ℕ
unless_lacking slots text = if list_any lacks_memory slots then memory_line else text

-- the text of a reply of this shape, over its slots
unfoldable pub slots_text : ReplyKind → List (Option Answer) → List ℕ
slots_text (reply_kind.Fixed fixed) slots = fixed_text fixed
slots_text (reply_kind.Line noreply lenient) slots =
    if noreply then [] else unless_lacking slots (first_text (λ answer. answer_line (told answer lenient)) slots)
slots_text (reply_kind.Values keys with_unique) slots =
    unless_lacking slots (items_text with_unique keys slots ++ codes "END\r\n")
slots_text (reply_kind.Stats server) slots = unless_lacking slots (stats_over server slots)
slots_text (reply_kind.Meta kind flags value key lenient) slots =
    unless_lacking slots (first_text (meta_text kind flags value key lenient) slots)
