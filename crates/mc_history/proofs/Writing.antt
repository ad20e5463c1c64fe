-- What may be written to a line may be written later too.
use Rattle.std.proofs.Common.{◌≡◌, ℕ, ◌==◌, List, [], ◌++◌, length, take, drop, sym, ap, ◌∙◌, arith, append-nil}
use Rattle.std.proofs.Common.{append_assoc}
use Rattle.std.specs.List.{concat}
use Rattle.std.proofs.lemmas.List.{map-append, take-append-drop, take_all}
use Rattle.std.proofs.lemmas.List.Elements.{filter-append}
use Rattle.mc_wire.specs.Sink.{Sight, with_bytes}
use Rattle.mc_wire.proofs.Sinks.{with_bytes-append}
use Rattle.mc_sizes.specs.Sizes.{rules_of}
use Rattle.mc_sizes.specs.declared.sizes.Sizes.{Sizes}
use Rattle.mc_reader.proofs.Fronts.{begin_more}
use Rattle.mc_reply.specs.declared.pending_reply.PendingReply.{PendingReply}
use Rattle.mc_ring.specs.Reply.{Shown}
use Rattle.mc_join.specs.Replies.{replies}
use Rattle.mc_conn.specs.Due.{pending_replies_of}
use Rattle.mc_conn.specs.Flow.{commands_of}
use Rattle.mc_model.specs.Grows.{Lengthens}
use Rattle.mc_model.specs.Headline.{replies_to}
use Rattle.mc_model.specs.Log.{Entry, of_asker, replies_in, reply_to}
use Rattle.mc_model.proofs.Growing.{concat-append, replies_stay}
use Rattle.mc_transport.specs.Place.{bytes_seen}
use Rattle.mc_history.specs.declared.event.Event.{Event}
use Rattle.mc_history.specs.Worlds.{entries_of, link_in, ran_in, taken_in, world_in}
use Rattle.mc_history.specs.Lawful.{IsHistory}
use Rattle.mc_history.specs.Writes.{MayWrite}
use Rattle.mc_history.proofs.Holds.{holds}
use Rattle.mc_history.proofs.Lists.{lengthens_picked}

-- Of what was seen at the beginning, the bytes alone count.
pub by_bytes : (sizes : Sizes) (number : ℕ) (begin now : Sight) (bytes : List ℕ) (history : List Event)
    → MayWrite sizes number begin now bytes history → MayWrite sizes number (bytes_seen begin) now bytes history
by_bytes sizes number begin now bytes history may = record {
  lawful = may.lawful;
  once = may.once;
  owned = may.owned;
  read = may.read;
  written = may.written;
  read_is = may.read_is;
  written_is = may.written_is;
  taken = may.taken;
  covers = may.covers;
  may = may.may;
  recorded = may.recorded;
  rest = may.rest;
  next = may.next;
}

-- Once more bytes were read, it still may be written.
pub read_may : (sizes : Sizes) (number : ℕ) (begin now later : Sight) (got bytes : List ℕ) (history : List Event)
    → later.given ≡ with_bytes now.given got → later.taken ≡ now.taken → MayWrite sizes number begin now bytes history
    → MayWrite sizes number begin later bytes history
read_may sizes number begin now later got bytes history given taken may = record {
  lawful = may.lawful;
  once = may.once;
  owned = may.owned;
  read = may.read ++ got;
  written = may.written;
  read_is = given ∙ (ap (λ t. with_bytes t got) may.read_is ∙ with_bytes-append begin.given may.read got);
  written_is = taken ∙ may.written_is;
  taken = may.taken;
  covers = begin_more (rules_of sizes) may.read got (commands_of may.taken) may.covers;
  may = may.may;
  recorded = may.recorded;
  rest = may.rest;
  next = may.next;
}

-- the replies stay where more answers come
replies_later : (opened : List PendingReply) (some more : List Shown)
    → Lengthens (replies opened some) (replies opened (some ++ more))
replies_later opened some more =
    let old = replies opened some in
    let new = replies opened (some ++ more) in
    let n = length old in
    let same : take n new ≡ old =
    ap (λ fs. take n (replies fs (some ++ more))) (sym (append-nil opened))
    ∙ (replies_stay opened [] some more n (omega arith) ∙ take_all n old (omega arith)) in
    (drop n new, sym (take-append-drop n new) ∙ ap (λ l. l ++ drop n new) same)

-- so the replies by a history, where the connection takes no more commands
pub texts_later : (sizes : Sizes) (number : ℕ) (history later : List Event) → Lengthens history later
    → taken_in number later ≡ taken_in number history
    → Lengthens (replies_to sizes (world_in history) number (link_in number history))
    (replies_to sizes (world_in later) number (link_in number later))
texts_later sizes number history later more same =
    let ran = lengthens_picked entries_of history later more in
    let opened = pending_replies_of sizes.shards (taken_in number history) in
    let some = replies_in (of_asker number (ran_in history)) in
    let others = replies_in (of_asker number ran.0) in
    let answers : replies_in (of_asker number (ran_in later)) ≡ some ++ others =
    ap (λ es. replies_in (of_asker number es)) ran.1
    ∙ (ap replies_in (filter-append (λ (entry : Entry). entry.asker == number) (ran_in history) ran.0)
    ∙ map-append reply_to (of_asker number (ran_in history)) (of_asker number ran.0)) in
    let grown = replies_later opened some others in (
      grown.0,
      ap (λ ts. replies (pending_replies_of sizes.shards ts) (replies_in (of_asker number (ran_in later)))) same
          ∙ (ap (λ rs. replies opened rs) answers ∙ grown.1),
    )

-- What begins the bytes of texts begins those with more texts behind them.
pub begins_texts : (written bytes rest : List ℕ) (old new : List (List ℕ)) → written ++ (bytes ++ rest) ≡ concat old
    → (more : Lengthens old new) → written ++ (bytes ++ (rest ++ concat more.0)) ≡ concat new
begins_texts written bytes rest old new is more =
    ap (λ l. written ++ l) (sym (append_assoc bytes rest (concat more.0)))
    ∙ (sym (append_assoc written (bytes ++ rest) (concat more.0))
    ∙ (ap (λ l. l ++ concat more.0) is ∙ (sym (concat-append old more.0) ∙ ap (λ ts. concat ts) (sym more.1))))

-- Once more has happened, and the connection took no further command, it still may be written.
pub grown_may : (sizes : Sizes) (number : ℕ) (begin now : Sight) (bytes : List ℕ) (history later : List Event)
    → Lengthens history later → IsHistory sizes later → taken_in number later ≡ taken_in number history
    → MayWrite sizes number begin now bytes history
    → MayWrite sizes number begin now bytes later
grown_may sizes number begin now bytes history later more lawful same may =
    let kept = holds sizes later lawful in
    let texts = texts_later sizes number history later more same in
    record {
      lawful = kept.steps;
      once = kept.in_order;
      owned = kept.owned;
      read = may.read;
      written = may.written;
      read_is = may.read_is;
      written_is = may.written_is;
      taken = may.taken;
      covers = may.covers;
      may = may.may;
      recorded = same ∙ may.recorded;
      rest = may.rest ++ concat texts.0;
      next =
          begins_texts may.written bytes may.rest (replies_to sizes (world_in history) number (link_in number history))
          (replies_to sizes (world_in later) number (link_in number later)) may.next texts;
    }
