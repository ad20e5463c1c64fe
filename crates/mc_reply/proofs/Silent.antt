-- Which replies are empty, by the shape of the reply and the kind of what was answered.
use Rattle.std.proofs.Common.{◌≡◌, ℕ, Bool, true, false, ◌&&◌, ◌↔◌, cond, List, [], ◌∷◌, ◌++◌, Option, refl}
use Rattle.std.specs.Prelude.{IsTrue, codes, decimal}
use Rattle.std.specs.List.{list_any}
use Rattle.mc_command.specs.declared.command.Command.TheVariants as command
use Rattle.mc_command.specs.declared.meta.MetaFlags.{MetaFlags}
use Rattle.mc_command.specs.declared.error.CommandError.{CommandError}
use Rattle.mc_command.specs.declared.rules.Profile.{Profile}
use Rattle.mc_command.specs.declared.rules.Profile.TheVariants.{Own, DropIn}
use Rattle.mc_command.specs.declared.error.CommandError.TheVariants as refusal
use Rattle.mc_item.specs.declared.answer.Answer.{Answer}
use Rattle.mc_item.specs.declared.answer.Answer.TheVariants.{NoMemory, Number}
use Rattle.mc_item.specs.declared.answer.Answer.TheVariants as answer
use Rattle.mc_item.specs.declared.answer.Kind.{Kind}
use Rattle.mc_item.specs.declared.answer.Kind.TheVariants.{Store, Count, Delete, Touch, Flush, ResetStats, MetaGet}
use Rattle.mc_item.specs.declared.answer.Kind.TheVariants.{MetaStore, MetaDelete, MetaCount}
use Rattle.mc_item.specs.Kind.{is_lawful}
use Rattle.mc_command.specs.declared.meta.MetaKind.{MetaKind}
use Rattle.mc_command.specs.declared.meta.MetaKind.TheVariants as kind
use Rattle.mc_reply.specs.declared.pending_reply.ReplyKind.TheVariants as reply_kind
use Rattle.mc_reply.specs.Text.{answer_line, coded_text, is_hidden, is_no_memory, memory_line, refusal_line}
use Rattle.mc_reply.specs.Text.{reply_kind_text, told, version_line}
use Rattle.mc_reply.specs.TextLaws.{is_hidden_refusal, is_silent}

-- a text with a byte behind it isn't empty
some_behind : (front back : List ℕ) (byte : ℕ) → front ++ byte ∷ back ≡ [] → ⊥
some_behind [] back byte e = cc
some_behind (x ∷ xs) back byte e = cc

-- the kinds whose reply is the line of an answer
abbrev pub is_plain : Kind → Bool
is_plain Store = true
is_plain Count = true
is_plain Delete = true
is_plain Touch = true
is_plain Flush = true
is_plain ResetStats = true
is_plain kind = false

-- Each lawful answer of such a kind has a line.
has_line : (kind : Kind) → is_plain kind ≡ true → (given : Answer) → is_lawful kind given ≡ true → answer_line given
    ≡ [] → ⊥
unfolding is_lawful
has_line kind plain (Number number) lawful e = some_behind (decimal number) (10 ∷ []) 13 e
has_line Store plain given lawful e = cc
has_line kind plain given lawful e = cc

told_as_it_is : (given : Answer) → told given false ≡ given
told_as_it_is answer.TooLarge = refl
told_as_it_is given = refl

-- A lawful answer is reported as a lawful answer.
told_lawful : (kind : Kind) (lenient : Bool) (given : Answer) → is_lawful kind given ≡ true
    → is_lawful kind (told given lenient) ≡ true
unfolding is_lawful
told_lawful Store true answer.TooLarge lawful = refl
told_lawful MetaStore true answer.TooLarge lawful = refl
told_lawful kind true answer.TooLarge lawful = cc
told_lawful kind false given lawful = rw (told_as_it_is given) lawful
told_lawful kind true given lawful = lawful

line_silent : (noreply lacks : Bool) (line : List ℕ) → (line ≡ [] → ⊥)
    → (cond noreply [] (cond lacks memory_line line) ≡ []) ↔ IsTrue noreply
line_silent true lacks line some = (λ e. refl, λ e. refl)
line_silent false true line some = (λ e. absurd cc, λ e. absurd cc)
line_silent false false line some = (λ e. absurd (some e), λ e. absurd cc)

-- The reply to a get is never empty: it is the memory line, or ends with END.
pub values_shown : (lacks : Bool) (items : List ℕ) → (cond lacks memory_line (items ++ codes "END\r\n") ≡ [])
    ↔ IsTrue false
values_shown true items = (λ e. absurd cc, λ e. absurd cc)
values_shown false items = (λ e. absurd (some_behind items (codes "ND\r\n") 69 e), λ e. absurd cc)

-- A reply whose text starts with a byte is not empty, and neither is the memory line.
pub told_shown : (lacks : Bool) (byte : ℕ) (text : List ℕ) → (cond lacks memory_line (byte ∷ text) ≡ []) ↔ IsTrue false
told_shown true byte text = (λ e. absurd cc, λ e. absurd cc)
told_shown false byte text = (λ e. absurd cc, λ e. absurd cc)

-- the kinds of the meta commands
abbrev is_meta : Kind → Bool
is_meta MetaGet = true
is_meta MetaStore = true
is_meta MetaDelete = true
is_meta MetaCount = true
is_meta kind = false

-- Each lawful answer of such a kind has a text.
has_code : (kind : Kind) → is_meta kind ≡ true
    → (name : MetaKind) (flags : MetaFlags) (key : Option (List ℕ)) (given : Answer) (value : Bool)
    → is_lawful kind given ≡ true → coded_text name flags key given value ≡ [] → ⊥
unfolding is_lawful
has_code kind meta name flags key (answer.MetaHit hit) true lawful e = cc
has_code kind meta name flags key (answer.MetaDone done) true lawful e = cc
has_code MetaGet meta name flags key given value lawful e = cc
has_code kind meta name flags key given value lawful e = cc

-- Want of memory isn't hidden.
hidden_is_told : (given : Answer) (kind : MetaKind) (value : Bool) → is_hidden kind value given ≡ true
    → is_no_memory given ≡ false
hidden_is_told NoMemory kind.Arithmetic true e = cc
hidden_is_told given kind value e = cc

hidden_silent : (quiet hidden lacks : Bool) (text : List ℕ) → (text ≡ [] → ⊥) → (hidden ≡ true → lacks ≡ false) →
    (cond lacks memory_line (cond (quiet && hidden) [] text) ≡ []) ↔ IsTrue (quiet && hidden)
hidden_silent true true true text some told = absurd (let e = told refl in cc)
hidden_silent quiet hidden true text some told = (λ e. absurd cc, λ e. absurd cc)
hidden_silent true true false text some told = (λ e. refl, λ e. refl)
hidden_silent quiet hidden false text some told = (λ e. absurd (some e), λ e. absurd cc)

-- Where the answer is lawful for a meta command, the reply is empty just where the flag q hides the answer.
pub meta_silent : (piece : Kind) → is_meta piece ≡ true
    → (kind : MetaKind) (flags : MetaFlags) (value : Bool) (key : Option (List ℕ)) (lenient : Bool) (given : Answer)
    → is_lawful piece given ≡ true →
    (reply_kind_text (reply_kind.Meta kind flags value key lenient) (given ∷ []) ≡ [])
    ↔ IsTrue (flags.quiet && is_hidden kind value given)
unfolding reply_kind_text
meta_silent piece meta kind flags value key lenient given lawful =
    hidden_silent flags.quiet (is_hidden kind value given) (list_any is_no_memory (given ∷ []))
    (coded_text kind flags key (told given lenient) value)
    (has_code piece meta kind flags key (told given lenient) value (told_lawful piece lenient given lawful)) is_told
  where
    is_told : is_hidden kind value given ≡ true → list_any is_no_memory (given ∷ []) ≡ false
    is_told e = rw (hidden_is_told given kind value e) refl

-- The line of a refusal is empty just where the refusal is a hidden one.
pub refused_shown : (refused : CommandError) → (refusal_line refused ≡ []) ↔ IsTrue (is_hidden_refusal refused)
refused_shown refusal.Unknown = (λ e. absurd cc, λ e. absurd cc)
refused_shown refusal.Hidden = (λ e. refl, λ e. refl)
refused_shown refused = (λ e. absurd cc, λ e. absurd cc)

-- The reply to version is not empty.
pub version_shown : (profile : Profile) (answers : List Answer) → (version_line profile ≡ [])
    ↔ IsTrue (is_silent (command.Version profile) answers)
version_shown Own answers = (λ e. absurd cc, λ e. absurd cc)
version_shown DropIn answers = (λ e. absurd cc, λ e. absurd cc)

-- If the first answer is lawful for a kind whose reply is a line, the reply is empty exactly if noreply is
-- set.
pub plain_silent : (piece : Kind) → is_plain piece ≡ true
    → (noreply lenient : Bool) (given : Answer) (answers : List Answer) → is_lawful piece given ≡ true →
    (reply_kind_text (reply_kind.Line noreply lenient) (given ∷ answers) ≡ []) ↔ IsTrue noreply
unfolding reply_kind_text
plain_silent piece plain noreply lenient given answers lawful =
    line_silent noreply (list_any is_no_memory (given ∷ answers)) (answer_line (told given lenient))
    (has_line piece plain (told given lenient) (told_lawful piece lenient given lawful))
