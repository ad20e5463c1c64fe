-- What may be written may be written in parts.
use Rattle.std.proofs.Common.{ℕ, List, ◌++◌, sym, ap, ◌∙◌, append_assoc}
use Rattle.mc_wire.specs.Sink.{Sight, took, with_bytes}
use Rattle.mc_wire.proofs.Sinks.{with_bytes-append}
use Rattle.mc_sizes.specs.declared.sizes.Sizes.{Sizes}
use Rattle.mc_history.specs.declared.event.Event.{Event}
use Rattle.mc_history.specs.Writes.{MayWrite}

-- A prefix of what may be written may be written.
pub front_may : (sizes : Sizes) (number : ℕ) (begin now : Sight) (bytes more : List ℕ) (history : List Event)
    → MayWrite sizes number begin now (bytes ++ more) history → MayWrite sizes number begin now bytes history
front_may sizes number begin now bytes more history may = record {
  lawful = may.lawful;
  once = may.once;
  owned = may.owned;
  read = may.read;
  written = may.written;
  read_is = may.read_is;
  written_is = may.written_is;
  taken = may.taken;
  covers = may.covers;
  may = may.may;
  recorded = may.recorded;
  rest = more ++ may.rest;
  next = ap (λ l. may.written ++ l) (sym (append_assoc bytes more may.rest)) ∙ may.next;
}

-- Once a prefix of it was written, the rest may be.
pub behind_may : (sizes : Sizes) (number : ℕ) (begin now : Sight) (bytes more : List ℕ) (history : List Event)
    → MayWrite sizes number begin now (bytes ++ more) history
    → MayWrite sizes number begin (took bytes now) more history
behind_may sizes number begin now bytes more history may = record {
  lawful = may.lawful;
  once = may.once;
  owned = may.owned;
  read = may.read;
  written = may.written ++ bytes;
  read_is = may.read_is;
  written_is = ap (λ t. with_bytes t bytes) may.written_is ∙ with_bytes-append begin.taken may.written bytes;
  taken = may.taken;
  covers = may.covers;
  may = may.may;
  recorded = may.recorded;
  rest = may.rest;
  next =
      append_assoc may.written bytes (more ++ may.rest)
      ∙ (ap (λ l. may.written ++ l) (sym (append_assoc bytes more may.rest)) ∙ may.next);
}
