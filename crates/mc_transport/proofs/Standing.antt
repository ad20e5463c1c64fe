-- What is between a line and its connection stays, step by step.
use Rattle.std.proofs.Common.{◌≡◌, ℕ, ◌≤◌, Bool, true, false, List, [], ◌∷◌, ◌++◌, length, take, Option, Some, None}
use Rattle.std.proofs.Common.{refl, sym, ap, ◌∙◌, arith, append_assoc, append-nil, length-append}
use Rattle.std.specs.List.{AllByRecursion}
use Rattle.std.proofs.lemmas.List.{take-append-le, take_all, map-append, length-map}
use Rattle.mc_wire.specs.Sink.{with_bytes}
use Rattle.mc_wire.proofs.Sinks.{with_bytes-nil}
use Rattle.mc_command.specs.declared.command.Command.{Command}
use Rattle.mc_reader.specs.Spelling.{AreCommands}
use Rattle.mc_conn.specs.History.{Taken}
use Rattle.mc_conn.specs.Flow.{commands_of}
use Rattle.mc_wire.specs.Sink.{Read, Sight, asked, with_reads}
use Rattle.mc_transport.specs.Reads.{OwesNothing}
use Rattle.mc_transport.specs.internal.Stands.{GaveAndTook}
use Rattle.mc_command.specs.declared.rules.Rules.{Rules}
use Rattle.mc_ring.proofs.Lists.{all_weaken, all_push}

pub with_reads-nil : (reads : Option (List Read)) → with_reads reads [] ≡ reads
with_reads-nil None = refl
with_reads-nil (Some reads) = ap (λ rs. Some rs) (append-nil reads)

-- The reads that are noted, and then more, and more.
pub with_reads-append : (before : Option (List Read)) (reads more : List Read)
    → with_reads (with_reads before reads) more ≡ with_reads before (reads ++ more)
with_reads-append None reads more = refl
with_reads-append (Some before) reads more = ap (λ rs. Some rs) (append_assoc before reads more)

-- nothing was read, written or taken yet
pub stands_first : (rules : Rules) (fits : Type 0) (now : Sight) → GaveAndTook rules fits now now [] [] false [] []
stands_first rules fits now = record {
  read_is = sym (with_bytes-nil now.given);
  ended_is = λ e. absurd cc;
  open_is = λ e ended. ended;
  taken_is = sym (with_bytes-nil now.taken);
  counted = omega arith;
  reads = [];
  reads_are = sym (with_reads-nil now.reads);
  owes_nothing = λ f. tt;
}

-- more commands were taken, and more texts handed out
pub all_owed_later : (rules : Rules) (begin : Sight) (commands more : List Command) (texts later : List (List ℕ))
    (reads : List Read) → length texts ≤ length commands → AllByRecursion (OwesNothing rules begin commands texts) reads
    → AllByRecursion (OwesNothing rules begin (commands ++ more) (texts ++ later)) reads
all_owed_later rules begin commands more texts later reads counted =
    all_weaken (OwesNothing rules begin commands texts) (OwesNothing rules begin (commands ++ more) (texts ++ later))
    (λ read owes.
    let within = owes.within in
    record {
      count = owes.count;
      within = omega (arith, within, length-append texts later);
      given = owes.given;
      given_is = owes.given_is;
      all_taken = rw (take-append-le owes.count commands more (omega (arith, within, counted))) owes.all_taken;
      all_written = rw (take-append-le owes.count texts later within) owes.all_written;
    }) reads

-- There are as many commands as were taken.
pub commands-length : (taken : List Taken) → length (commands_of taken) ≡ length taken
commands-length taken = length-map taken (λ (one : Taken). one.entry)

-- a command was taken
pub stands_take : (rules : Rules) (fits after : Type 0) (begin now : Sight) (unread fed : List ℕ) (ended : Bool)
    (taken : List Taken) (texts : List (List ℕ)) (one : Taken) → (after → fits) →
    GaveAndTook rules fits begin now unread fed ended taken texts
    → GaveAndTook rules after begin now unread fed ended (taken ++ one ∷ []) texts
stands_take rules fits after begin now unread fed ended taken texts one weaker stands =
    let counted = stands.counted in
    let commands = commands_of taken in
    let more : commands_of (taken ++ one ∷ []) ≡ commands ++ one.entry ∷ [] =
    map-append (λ (x : Taken). x.entry) taken (one ∷ []) in
    record {
      read_is = stands.read_is;
      ended_is = stands.ended_is;
      open_is = stands.open_is;
      taken_is = stands.taken_is;
      counted = omega (arith, counted, length-append taken (one ∷ []));
      reads = stands.reads;
      reads_are = stands.reads_are;
      owes_nothing = λ f.
          let owed = all_owed_later rules begin commands (one.entry ∷ []) texts [] stands.reads
          (omega (arith, counted, commands-length taken)) (stands.owes_nothing (weaker f)) in
          rw (more, ← append-nil texts) owed;
    }

-- neither was more taken of the line nor was it asked for more: what it gave may be read and fed now, and be its end
pub stands_over : {rules : Rules} {fits after : Type 0} {begin before now : Sight} {unread left fed more : List ℕ}
    {ended over : Bool} {taken : List Taken} {texts : List (List ℕ)} → (after → fits) →
    now.given ≡ with_bytes begin.given (more ++ left) → (over ≡ true → (now.ended ≡ true) × (left ≡ []))
    → (over ≡ false → now.ended ≡ true → begin.ended ≡ true) → now.taken ≡ before.taken → now.reads ≡ before.reads →
    GaveAndTook rules fits begin before unread fed ended taken texts
    → GaveAndTook rules after begin now left more over taken texts
stands_over weaker read_is ended_is open_is same_taken same_reads stands = record {
  read_is = read_is;
  ended_is = ended_is;
  open_is = open_is;
  taken_is = same_taken ∙ stands.taken_is;
  counted = stands.counted;
  reads = stands.reads;
  reads_are = same_reads ∙ stands.reads_are;
  owes_nothing = λ f. stands.owes_nothing (weaker f);
}

-- every command of the bytes read was taken, and its reply is written out: more is requested of the line
pub stands_asked : (rules : Rules) (fits : Type 0) (begin before : Sight) (fed : List ℕ) (ended : Bool)
    (taken : List Taken) (texts : List (List ℕ)) → AreCommands rules fed (commands_of taken)
    → (fits → length texts ≡ length taken) →
    GaveAndTook rules fits begin before [] fed ended taken texts
    → GaveAndTook rules fits begin (asked before) [] fed ended taken texts
stands_asked rules fits begin before fed ended taken texts all complete stands =
    let read : Read = record { given = before.given; taken = before.taken } in
    record {
      read_is = stands.read_is;
      ended_is = stands.ended_is;
      open_is = stands.open_is;
      taken_is = stands.taken_is;
      counted = stands.counted;
      reads = stands.reads ++ read ∷ [];
      reads_are =
          ap (λ rs. with_reads rs (read ∷ [])) stands.reads_are
          ∙ with_reads-append begin.reads stands.reads (read ∷ []);
      owes_nothing = λ f.
          let same = complete f in
          let commands : take (length texts) (commands_of taken) ≡ commands_of taken =
          take_all (length texts) (commands_of taken) (omega (arith, same, commands-length taken)) in
          all_push (OwesNothing rules begin (commands_of taken) texts) stands.reads read (stands.owes_nothing f)
          (record {
            count = length texts;
            within = omega arith;
            given = fed;
            given_is = stands.read_is ∙ ap (λ u. with_bytes begin.given u) (append-nil fed);
            all_taken = rw commands all;
            all_written = rw (take_all (length texts) texts (omega arith)) stands.taken_is;
          });
    }
