-- Texts written one part after another, and texts over slots that are all filled.
use Rattle.std.proofs.Common.{◌≡◌, ℕ, Bool, true, false, List, [], ◌∷◌, ◌++◌, length, map, Option, Some, refl, sym, ap}
use Rattle.std.proofs.Common.{◌∙◌, append_assoc, append-nil, arith, ◌<◌, ◌≤◌, ◌+◌, take, drop, get_or, ◌^◌}
use Rattle.std.specs.Prelude.{◌%◌, codes, decimal, ◌||◌, Result, Ok, Err, if◌then◌else◌}
use Rattle.std.specs.List.{concat, list_any, sum_by, zip, flat_map}
use Rattle.std.proofs.lemmas.List.Folds.{fold-map}
use Rattle.std.proofs.lemmas.List.{at_drop_all, at_drop_more, length-map}
use Rattle.mc_wire.specs.Sink.{BreaksOff, Sight, Writes, took}
use Rattle.mc_wire.proofs.Sinks.{breaks_first, breaks_later, writes_on}
use Rattle.mc_item.specs.declared.answer.Answer.{Answer}
use Rattle.mc_item.specs.declared.stat.Stat.{Stat}
use Rattle.mc_item.specs.declared.stat.Stat.TheVariants as stat
use Rattle.mc_reply.specs.declared.pending_reply.ReplyKind.{ReplyKind}
use Rattle.mc_reply.specs.declared.pending_reply.ReplyKind.TheVariants as reply_kind
use Rattle.mc_reply.specs.declared.server_stats.ServerStats.{ServerStats}
use Rattle.mc_reply.specs.Text.{coded_text, command_stats, connections_text, flags_text, item_stats, marks_text}
use Rattle.mc_reply.specs.Text.{process_text, release, server_text, reply_kind_text, shard_lines, stat_in, stat_text}
use Rattle.mc_reply.specs.Text.{stats_text, item_text, is_no_memory, of_first, times_text, traffic_text}
use Rattle.mc_reply.specs.Text.{unless_no_memory}
use Rattle.mc_command.specs.declared.meta.MetaFlags.{MetaFlags}
use Rattle.mc_command.specs.declared.meta.MetaKind.{MetaKind}
use Rattle.mc_item.specs.declared.answer.Answer.TheVariants as answers
use Rattle.mc_item.specs.declared.answer.Answer.TheVariants.{Hit}
use Rattle.mc_item.specs.declared.answer.MetaDone.{MetaDone}
use Rattle.mc_item.specs.declared.answer.MetaHit.{MetaHit}
use Rattle.std.proofs.lemmas.List.Sums.{sum_by_more}
use Rattle.mc_reply.specs.internal.SlotTexts.{slots_text, items_text, lacks_memory, first_text, slot_stat, slot_text}
use Rattle.mc_reply.specs.internal.SlotTexts.{stats_over, sum_line, sums_text, unless_lacking}

-- of a whole text all was taken but this rest
pub record WroteBut (whole rest : List ℕ) (old new : Sight) : Type 0 where
  pub front : List ℕ
  pub sight : new ≡ took front old
  pub parts : whole ≡ front ++ rest

-- Of a text of which some bytes and a rest were left, only the rest is left once these bytes were taken.
pub wrote_more : {whole : List ℕ} {old mid new : Sight} (bytes rest : List ℕ) → WroteBut whole (bytes ++ rest) old mid
    → new ≡ took bytes mid → WroteBut whole rest old new
wrote_more {old} bytes rest so_far more =
    record {
      front = so_far.front ++ bytes;
      sight = writes_on _ _ _ so_far.front bytes so_far.sight more;
      parts = so_far.parts ∙ sym (append_assoc so_far.front bytes rest);
    }

-- A text of which nothing is left was taken whole.
pub wrote_all : {whole : List ℕ} {old now : Sight} → WroteBut whole [] old now → now ≡ took whole old
wrote_all {old} all = all.sight ∙ ap (λ xs. took xs old) (sym (all.parts ∙ append-nil all.front))

-- Where the next part of a text breaks off, the whole of it breaks off.
pub part_breaks : {whole : List ℕ} {old mid new : Sight} (bytes rest : List ℕ) → WroteBut whole (bytes ++ rest) old mid
    → BreaksOff bytes mid new → BreaksOff whole old new
part_breaks bytes rest so_far off =
    rw so_far.parts (breaks_later _ _ _ so_far.front (bytes ++ rest) so_far.sight (breaks_first _ _ bytes rest off))

-- Ten parts are one text, however they are put together.
ten : (a b c d e f g h i : List ℕ) → concat (a ∷ b ∷ c ∷ d ∷ e ∷ f ∷ g ∷ h ∷ i ∷ h ∷ [])
    ≡ (concat (a ∷ b ∷ c ∷ d ∷ e ∷ f ∷ []) ++ (g ++ h)) ++ (i ++ h)
ten a b c d e f g h i = simp (append_assoc, append-nil)

-- The text of an item is its line, with the size of the value, and its block behind that.
pub item-line_block : (with_unique : Bool) (key : List ℕ) (flags unique size : ℕ) (value front line : List ℕ) → size
    ≡ length value
    → front ≡ concat (codes "VALUE " ∷ key ∷ codes " " ∷ decimal flags ∷ codes " " ∷ decimal size ∷ []) → line ≡ front
    ++ ((if with_unique then codes " " ++ decimal unique else []) ++ codes "\r\n")
    → item_text with_unique key (Hit flags unique value) ≡ line ++ (value ++ codes "\r\n")
item-line_block with_unique key flags unique size value front line sized begins is =
    rw (is, begins, sized) (ten (codes "VALUE ") key (codes " ") (decimal flags) (codes " ") (decimal (length value))
    (if with_unique then codes " " ++ decimal unique else []) (codes "\r\n") value)

-- A write of one text is a write of any equal text.
pub writes_same : {X E : Type 0} {text other : List ℕ} (old new : Sight) (result : Result X E) → text ≡ other
    → Writes other result old new → Writes text result old new
writes_same old new result same written = rw same written

abbrev pub filled : List Answer → List (Option Answer)
filled answers = map (λ answer. Some answer) answers

pub items-filled : (with_unique : Bool) (keys : List (List ℕ)) (answers : List Answer)
    → items_text with_unique keys (filled answers)
    ≡ flat_map (λ pair. item_text with_unique pair.0 pair.1) (zip keys answers)
items-filled with_unique [] answers = refl
items-filled with_unique (key ∷ keys) [] = refl
items-filled with_unique (key ∷ keys) (answer ∷ answers) =
    ap (λ xs. item_text with_unique key answer ++ xs) (items-filled with_unique keys answers)

pub lacks-filled : (answers : List Answer) → list_any lacks_memory (filled answers) ≡ list_any is_no_memory answers
lacks-filled [] = refl
lacks-filled (answer ∷ answers) = ap (λ rest. is_no_memory answer || rest) (lacks-filled answers)

pub first-filled : (text : Answer → List ℕ) (answers : List Answer) → first_text text (filled answers)
    ≡ of_first text answers
first-filled text [] = refl
first-filled text (answer ∷ answers) = refl

pub unless-filled : (answers : List Answer) (over text : List ℕ) → over ≡ text → unless_lacking (filled answers) over
    ≡ unless_no_memory answers text
unless-filled answers over text e = rw (lacks-filled answers, e)

sum-filled : (one : Stat) (answers : List Answer) → sum_by (slot_stat one) (filled answers)
    ≡ sum_by (stat_in one) answers
sum-filled one answers = fold-map (λ a slot. a + slot_stat one slot) (λ answer. Some answer) 0 answers

lines-filled : (answers : List Answer) (stats : List Stat) → flat_map (sum_line (filled answers)) stats
    ≡ shard_lines answers stats
lines-filled answers [] = refl
lines-filled answers (one ∷ stats) = rw (sum-filled one answers, lines-filled answers stats) refl

-- What is known of the server is four parts, one behind another.
pub server_parts : (server : ServerStats) → server_text server ≡ process_text server
    ++ (stat_text (codes "version") release ++ (times_text server ++ connections_text server))
server_parts server =
    ap (λ last. process_text server ++ (stat_text (codes "version") release ++ (times_text server ++ last)))
    (append-nil (connections_text server))

-- the reply to stats, made of the same parts
together_as : ServerStats → List ℕ → ℕ → ℕ → List ℕ → List ℕ
together_as server commands limit threads items =
    concat (server_text server ∷ commands ∷ traffic_text server limit threads ∷ items ∷ codes "END\r\n" ∷ [])

stats-filled : (server : ServerStats) (answers : List Answer) → stats_over server (filled answers)
    ≡ stats_text server answers
unfolding sums_text together_as
stats-filled server answers =
    λ i. together_as server (lines-filled answers command_stats i) (sum-filled stat.LimitMaxbytes answers i % 2 ^ 64)
    (length-map answers (λ answer. Some answer) i) (lines-filled answers item_stats i)

-- Where every slot is filled, the text over the slots is the reply that the answers give.
pub slots_text-filled : (reply_kind : ReplyKind) (answers : List Answer) → slots_text reply_kind (filled answers)
    ≡ reply_kind_text reply_kind answers
unfolding slots_text reply_kind_text
slots_text-filled (reply_kind.Fixed fixed) answers = refl
slots_text-filled (reply_kind.Line false lenient) answers = unless-filled answers _ _ (first-filled _ answers)
slots_text-filled (reply_kind.Line true lenient) answers = refl
slots_text-filled (reply_kind.Values keys with_unique) answers =
    unless-filled answers _ _ (ap (λ xs. xs ++ codes "END\r\n") (items-filled with_unique keys answers))
slots_text-filled (reply_kind.Stats server) answers = unless-filled answers _ _ (stats-filled server answers)
slots_text-filled (reply_kind.Meta kind flags value key lenient) answers =
    unless-filled answers _ _ (first-filled _ answers)

-- Without slots no item is shown, whatever the keys are.
pub items-no_slots : (with_unique : Bool) (keys : List (List ℕ)) → items_text with_unique keys [] ≡ []
items-no_slots with_unique [] = refl
items-no_slots with_unique (key ∷ keys) = refl

-- the item of the key that comes first is next
pub item_next : {whole : List ℕ} {old now : Sight} (with_unique : Bool) (keys more : List (List ℕ)) (key : List ℕ)
    (slots : List (Option Answer)) (i : ℕ) (slot : Option Answer) →
    keys ≡ key ∷ more → i < length slots → slot ≡ get_or slots i slot
    → WroteBut whole (items_text with_unique keys (drop i slots)) old now →
    WroteBut whole (slot_text (item_text with_unique key) slot ++ items_text with_unique more (drop (i + 1) slots)) old
    now
item_next with_unique keys more key slots i slot keys_are below slot_is so_far =
    let next : items_text with_unique keys (drop i slots) ≡ slot_text (item_text with_unique key) slot
    ++ items_text with_unique more (drop (i + 1) slots) =
    rw (keys_are, at_drop_more (λ xs. items_text with_unique (key ∷ more) xs) slots i slot below, ← slot_is) in
    rw next at so_far

-- the first part was written
pub wrote_first : (part : List ℕ) {whole rest : List ℕ} {old new : Sight} → whole ≡ part ++ rest → new ≡ took part old
    → WroteBut whole rest old new
wrote_first part parts first = record { front = part; sight = first; parts = parts }

-- the first part broke off
pub first_breaks : (part rest : List ℕ) {whole : List ℕ} {old new : Sight} → whole ≡ part ++ rest
    → BreaksOff part old new → BreaksOff whole old new
first_breaks part rest parts off = rw parts (breaks_first _ _ part rest off)

-- the rest is written last, whatever the result is
pub writes_rest : {X E : Type 0} {whole rest : List ℕ} {old mid : Sight} (new : Sight) (result : Result X E)
    → WroteBut whole rest old mid → Writes rest result mid new → Writes whole result old new
writes_rest {rest} new (Ok done) so_far last = rw so_far.parts (writes_on _ _ _ so_far.front rest so_far.sight last)
writes_rest {rest} new (Err fault) so_far off = rw so_far.parts (breaks_later _ _ _ so_far.front rest so_far.sight off)

-- The items and what ends them are the item of the first key, then those of the other keys, and then the end.
pub values-parts : (with_unique : Bool) (keys others : List (List ℕ)) (key : List ℕ) (slots more : List (Option Answer))
    (slot : Option Answer) (end : List ℕ) → keys ≡ key ∷ others → slots ≡ slot ∷ more →
    items_text with_unique keys slots ++ end ≡ slot_text (item_text with_unique key) slot
    ++ (items_text with_unique others more ++ end)
values-parts with_unique keys others key slots more slot end keys_are slots_are =
    rw (keys_are, slots_are) (simp append_assoc)

-- the text of one of some things is next, where their list is known by another name
pub text_next : {X : Type 0} {whole : List ℕ} {old now : Sight} (f : X → List ℕ) (xs ys : List X) (i : ℕ) (d : X) → ys
    ≡ xs → i < length ys → WroteBut whole (flat_map f (drop i xs)) old now →
    WroteBut whole (f (get_or ys i d) ++ flat_map f (drop (i + 1) xs)) old now
text_next f xs ys i d same below so_far =
    let next : flat_map f (drop i ys) ≡ f (get_or ys i d) ++ flat_map f (drop (i + 1) ys) =
    at_drop_more (λ zs. flat_map f zs) ys i d below in
    rw (ap (λ zs. flat_map f (drop i zs)) (sym same)
    ∙ (next ∙ ap (λ zs. f (get_or ys i d) ++ flat_map f (drop (i + 1) zs)) same)) at so_far

-- one slot's number more
pub sum_next : (f : Option Answer → ℕ) (slots : List (Option Answer)) (i : ℕ) (slot : Option Answer)
    (sum number next : ℕ) → i < length slots → slot ≡ get_or slots i slot →
    sum ≡ sum_by f (take i slots) % 2 ^ 64 → number ≡ f slot % 2 ^ 64 → next ≡ (sum + number) % 2 ^ 64 → next
    ≡ sum_by f (take (i + 1) slots) % 2 ^ 64
sum_next f slots i slot sum number next below here sum_is number_is next_is =
    let more : sum_by f (take (i + 1) slots) ≡ sum_by f (take i slots) + f slot = sum_by_more f slots i slot below
    ∙ ap (λ s. sum_by f (take i slots) + f s) (sym here) in
    next_is ∙ (joined (sum_by f (take i slots)) (f slot) sum number sum_is number_is ∙ ap (λ n. n % 2 ^ 64) (sym more))
  where
    joined : (a b x y : ℕ) → x ≡ a % 2 ^ 64 → y ≡ b % 2 ^ 64 → (x + y) % 2 ^ 64 ≡ (a + b) % 2 ^ 64
    joined a b x y p q = omega arith

-- all texts were written
pub text_last : {X : Type 0} {whole : List ℕ} {old now : Sight} (f : X → List ℕ) (xs ys : List X) (i : ℕ) → ys ≡ xs
    → length ys ≤ i → WroteBut whole (flat_map f (drop i xs)) old now → WroteBut whole [] old now
text_last f xs ys i same past so_far =
    rw (ap (λ zs. flat_map f (drop i zs)) (sym same) ∙ at_drop_all (λ zs. flat_map f zs) ys i past) at so_far

-- the header of a value is the first part of the text before the value
pub size-parts : (size : ℕ) (line flags : List ℕ) → line ≡ codes "VA " ++ (decimal size ++ []) → codes "VA "
    ++ (decimal size ++ flags) ≡ line ++ flags
size-parts size line flags line_is = rw (line_is, append-nil (decimal size))

-- the size and the flags precede a value
front_text : (size flags rest : List ℕ) → codes "VA " ++ (size ++ (flags ++ rest)) ≡ (codes "VA " ++ (size ++ flags))
    ++ rest
front_text size flags rest = ap (λ xs. codes "VA " ++ xs) (sym (append_assoc size flags rest))

-- a hit of `mg` with its value, whose line the marks end
pub found_text : (kind : MetaKind) (flags : MetaFlags) (key : Option (List ℕ)) (answer : Answer) (hit : MetaHit)
    (shown : Bool) (size : ℕ) (end : List ℕ) → answer ≡ answers.MetaHit hit → shown ≡ true → size ≡ length hit.value
    → end ≡ marks_text flags.profile hit.marks ++ codes "\r\n" →
    coded_text kind flags key answer shown ≡ (codes "VA " ++ (decimal size ++ flags_text flags key answer))
    ++ (end ++ (hit.value ++ codes "\r\n"))
found_text kind flags key answer hit shown size end is on same ends =
    let told = flags_text flags key (answers.MetaHit hit) in
    let marked = sym (append_assoc (marks_text flags.profile hit.marks) (codes "\r\n") (hit.value ++ codes "\r\n")) in
    rw (is, on, same, ends) (ap (λ xs. codes "VA " ++ (decimal (length hit.value) ++ (told ++ xs))) marked
    ∙ front_text (decimal (length hit.value)) told _)

-- what `ma` did, with its number
pub done_text : (kind : MetaKind) (flags : MetaFlags) (key : Option (List ℕ)) (answer : Answer) (done : MetaDone)
    (shown : Bool) (number : List ℕ) → answer ≡ answers.MetaDone done → shown ≡ true → number ≡ decimal done.number →
    coded_text kind flags key answer shown ≡ (codes "VA " ++ (decimal (length number) ++ flags_text flags key answer))
    ++ (codes "\r\n" ++ (number ++ codes "\r\n"))
done_text kind flags key answer done shown number is on same =
    rw (is, on, same) (front_text (decimal (length (decimal done.number)))
    (flags_text flags key (answers.MetaDone done)) _)
