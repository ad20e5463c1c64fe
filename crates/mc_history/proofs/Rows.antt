-- A worked history: a connection is opened, takes one command, and a shard runs its piece. What it says, what may
-- follow what in it, and who may add what.
use Rattle.std.proofs.Common.{◌≡◌, ◌≢◌, ℕ, zero, suc, ◌+◌, ◌<◌, true, false, cond, inr, List, [], ◌∷◌, ◌++◌, length}
use Rattle.std.proofs.Common.{map, Some, None, refl, sym, ap, subst, ◌∙◌, arith, codes, length-append, lit<}
use Rattle.std.specs.List.{concat, slice_get}
use Rattle.std.specs.Prelude.{MatchBool}
use Rattle.std.proofs.lemmas.List.{length-map}
use Rattle.std.proofs.lemmas.Option.{same_Some}
use Rattle.mc_wire.specs.Sink.{Counted, Listed, Sight, Trace, Unlisted, gave, took as wrote}
use Rattle.mc_item.specs.declared.answer.Answer.TheVariants as answer
use Rattle.mc_item.specs.Expiry.{expiry_of}
use Rattle.mc_item.specs.Kind.{key_of, kind_of}
use Rattle.mc_command.specs.declared.command.Command.{Command}
use Rattle.mc_command.specs.declared.command.Command.TheVariants as command
use Rattle.mc_command.specs.declared.error.CommandError.TheVariants.{Memory}
use Rattle.mc_command.specs.declared.rules.Rules.{Rules}
use Rattle.mc_sizes.specs.Sizes.{rules_of}
use Rattle.mc_sizes.specs.declared.sizes.Sizes.{Sizes}
use Rattle.mc_reader.specs.Spelling.{BeginCommands, Spells, SpellsFront, is_last}
use Rattle.mc_reader.proofs.Texts.{nothing_without_end}
use Rattle.mc_reply.specs.Server.{no_server}
use Rattle.mc_reply.specs.ReplyKind.{reply_kind_of}
use Rattle.mc_reply.specs.Text.{reply_kind_text}
use Rattle.mc_split.specs.Pieces.{pieces_of}
use Rattle.mc_store.specs.State.{State, empty_state}
use Rattle.mc_store.specs.Step.{Answers, IsStep, noted_in, step_of}
use Rattle.mc_conn.specs.History.{Taken, carried_out, planned}
use Rattle.mc_conn.specs.Flow.{commands_of}
use Rattle.mc_model.specs.Events.{RunsNext}
use Rattle.mc_model.specs.Headline.{replies_to}
use Rattle.mc_model.specs.World.{new_link}
use Rattle.mc_model.proofs.Rows.{begins, entry, flush, line, one, one_each, piece}
use Rattle.mc_history.specs.declared.event.Event.{Event}
use Rattle.mc_history.specs.declared.event.Event.TheVariants.{Opened, Took, Ran}
use Rattle.mc_history.specs.declared.knowledge.Role.TheVariants.{Reader, Rest, Seat, Shard}
use Rattle.mc_history.specs.Worlds.{IsLastOn, link_in, ran_in, ran_on, seats_in, taken_in, work_on, world_in}
use Rattle.mc_history.specs.Lawful.{IsHistory, IsNextOnChannel, MayFollow}
use Rattle.mc_history.specs.Roles.{own_part}
use Rattle.mc_history.specs.Writes.{MayWrite}
use Rattle.mc_history.proofs.Holds.{holds}

-- the three events
abbrev opened : Event
opened = Opened 0

abbrev took : Event
took = Took 0 0 flush 1000 no_server false

abbrev ran : Event
ran = Ran 0 0 piece answer.Done

abbrev whole : List Event
whole = opened ∷ took ∷ ran ∷ []

-- what it says
seats_are : seats_in whole ≡ 0 ∷ []
seats_are = refl

commands_are : taken_in 0 whole ≡ one ∷ []
commands_are = refl

no_other_commands : taken_in 1 whole ≡ []
no_other_commands = refl

entries_are : ran_in whole ≡ entry ∷ []
entries_are = refl

world_is : world_in whole ≡ record { log = entry ∷ []; links = record (new_link 0) { taken = one ∷ [] } ∷ [] }
world_is = refl

-- the shard at the moment of the flush
abbrev at_flush : State
at_flush = record (empty_state 0 1 1024 0 1024) { time = 1000 }

runs : RunsNext one_each (world_in (opened ∷ took ∷ [])) 0 0 (link_in 0 (opened ∷ took ∷ [])) entry
unfolding IsStep Answers step_of pieces_of expiry_of kind_of key_of
runs = record {
  shard_is = refl;
  asker_is = refl;
  next = refl;
  before = empty_state 0 1 1024 0 1024;
  after = noted_in at_flush at_flush piece.op entry.answer;
  left = refl;
  step = (at_flush, inr refl, refl);
}

-- the piece is the next on its channel
next : IsNextOnChannel one_each (opened ∷ took ∷ []) 0 0 piece
unfolding pieces_of
next = record { seat = 0; on_seat = refl; next = refl }

none_later : (later : ℕ) → 0 < later → slice_get (seats_in (opened ∷ [])) later ≢ Some 0
none_later zero after at = absurd (omega (arith, after))
none_later (suc zero) after at = absurd (cc at)
none_later (suc (suc later)) after at = absurd (cc at)

-- It is lawful.
is_lawful : IsHistory one_each whole
is_lawful =
    let alone : IsLastOn 0 0 (opened ∷ []) =
    record { here = refl; last = λ later after at. none_later later after at } in
    (lit< tt, ((alone, λ gone. absurd (cc)), ((lit< tt, next, runs), tt)))

-- These may not happen: a connection on a seat that isn't there, a command of a connection that wasn't opened, or that
-- isn't the last on its seat, a piece that wasn't asked for, one that was run before, and one on a shard that isn't
-- there.

no_such_seat : MayFollow one_each [] (Opened 1) → ⊥
no_such_seat may = absurd (omega (arith, may))

not_opened : MayFollow one_each (opened ∷ []) (Took 0 1 flush 1000 no_server false) → ⊥
not_opened may = absurd (cc (may.0.here))

not_the_last : MayFollow one_each (opened ∷ opened ∷ []) (Took 0 0 flush 1000 no_server false) → ⊥
not_the_last may = may.0.last 1 (lit< tt) refl

not_asked_for : MayFollow one_each (opened ∷ []) ran → ⊥
not_asked_for may = absurd (cc (may.2.next))

not_twice : MayFollow one_each whole ran → ⊥
unfolding pieces_of
not_twice may = absurd (cc (may.2.next))

no_such_shard : MayFollow one_each (opened ∷ took ∷ []) (Ran 1 0 piece answer.Done) → ⊥
no_such_shard may = let there = may.0 in absurd (omega (arith, there))

-- Who may add what: a seat its connections and their commands, a shard its entries.

seat_adds : own_part (Seat 0) whole ≡ opened ∷ took ∷ []
seat_adds = refl

other_seat_adds : own_part (Seat 1) whole ≡ []
other_seat_adds = refl

shard_adds : own_part (Shard 0) whole ≡ ran ∷ []
shard_adds = refl

all_add : own_part (Rest 0 0) whole ≡ whole
all_add = refl

all_but_the_seat_add : own_part (Rest 1 0) whole ≡ ran ∷ []
all_but_the_seat_add = refl

all_but_the_shard_add : own_part (Rest 0 1) whole ≡ opened ∷ took ∷ []
all_but_the_shard_add = refl

reader_adds : own_part Reader whole ≡ []
reader_adds = refl

-- what is due on its channel, and what was run there
work_is : work_on 1 0 0 whole ≡ (0, piece) ∷ []
unfolding pieces_of
work_is = refl

ran_is : ran_on 0 0 whole ≡ entry ∷ []
ran_is = refl

-- What may be written to the connection's line once its command was read: the reply, once the shard has run its piece.

abbrev begun : Sight
begun = record { given = Listed []; ended = false; reads = None; taken = Listed []; failed = false }

abbrev has_read : Sight
has_read = gave line begun

reply_may : MayWrite one_each 0 begun has_read (codes "OK\r\n") whole
unfolding pieces_of reply_kind_of reply_kind_text kind_of
reply_may =
    let kept = holds one_each whole is_lawful in
    record {
      lawful = kept.steps;
      once = kept.in_order;
      owned = kept.owned;
      read = line;
      written = [];
      read_is = refl;
      written_is = refl;
      taken = one ∷ [];
      covers = begins;
      may = ((λ gone. absurd (cc)), tt);
      recorded = refl;
      rest = [];
      next = refl;
    }

abbrev how_long : Trace → ℕ
how_long Unlisted = 0
how_long (Counted count) = count
how_long (Listed bytes) = length bytes

-- nothing where no reply is due
none_may : (sizes : Sizes) (number : ℕ) (now : Sight) (byte : ℕ) (history : List Event)
    → replies_to sizes (world_in history) number (link_in number history) ≡ []
    → MayWrite sizes number begun now (byte ∷ []) history → ⊥
none_may sizes number now byte history none may =
    let long = ap length (may.next ∙ ap (λ texts. concat texts) none) in
    absurd (omega (arith, long, length-append may.written (byte ∷ may.rest)))

-- These may not be written: the reply before the shard has run the piece, the reply to another connection's line, and
-- one byte more than the reply; and it may not where the command wasn't read.

not_before : MayWrite one_each 0 begun has_read (79 ∷ []) (opened ∷ took ∷ []) → ⊥
unfolding pieces_of
not_before may = none_may one_each 0 has_read 79 (opened ∷ took ∷ []) refl may

not_to_another : MayWrite one_each 1 begun has_read (79 ∷ []) whole → ⊥
not_to_another may = none_may one_each 1 has_read 79 whole refl may

not_twice_written : MayWrite one_each 0 begun (wrote (codes "OK\r\n") has_read) (79 ∷ []) whole → ⊥
unfolding pieces_of reply_kind_of reply_kind_text kind_of
not_twice_written may =
    let flow : 4 ≡ length may.written = ap how_long may.written_is in
    let long : length (may.written ++ (79 ∷ may.rest)) ≡ 4 = ap length may.next in
    absurd (omega (arith, flow, long, length-append may.written (79 ∷ may.rest)))

empty_front : {X : Type 0} (xs ys : List X) → [] ≡ xs ++ ys → xs ≡ []
empty_front [] ys is = refl
empty_front (x ∷ xs) ys is = absurd (cc is)

-- no command is spelled where nothing was read
none_spelled : (rules : Rules) (read : List ℕ) (entries : List Command) → 0 < rules.line_limit → 0 ≡ length read
    → 0 < length entries → BeginCommands rules read entries → ⊥
none_spelled rules read [] limit none some begins = absurd (omega (arith, some))
none_spelled rules (byte ∷ read) (entry ∷ entries) limit none some begins = absurd (omega (arith, none))
none_spelled rules [] (entry ∷ entries) limit none some begins =
    let first = begins.1 in
    nothing_without_end rules [] tt limit 0 entry (omega arith)
    (subst (λ text. Spells rules text entry) (empty_front first.0 first.1 first.2) first.3)

not_unread : (now : Sight) → now.given ≡ begun.given → MayWrite one_each 0 begun now (79 ∷ []) whole → ⊥
not_unread now none may =
    let unread : 0 ≡ length may.read = ap how_long (sym none ∙ may.read_is) in
    let count : 1 ≡ length (map carried_out may.taken) = ap length may.recorded in
    none_spelled (rules_of one_each) may.read (commands_of may.taken) (lit< tt) unread
    (omega (arith, count, length-map may.taken carried_out, length-map may.taken (λ (one : Taken). one.entry)))
    may.covers

-- Nothing is written behind `quit`: where the history has a command after it, the bytes read don't spell it.

quit_is : (t : Taken) → planned t ≡ command.Quit → t.entry ≡ command.Quit
quit_is t is =
    elim t.given_up as (λ b. cond b (command.Refused Memory) t.entry ≡ command.Quit → t.entry ≡ command.Quit) [
      | true ↦ λ e. absurd (cc e)
      | false ↦ λ e. e
    ] is

quit_ends : (rules : Rules) (read : List ℕ) (first second : Command) (later : List Command) → first ≡ command.Quit
    → BeginCommands rules read (first ∷ second ∷ later) → ⊥
quit_ends rules read first second later quit begins =
    let spelled = begins.1 in
    let last : is_last 0 first ≡ true = ap (λ c. is_last 0 c) quit in
    let none = subst (λ b. MatchBool b ((second ∷ later ≡ []) × (spelled.1 ≡ begins.0))
    (SpellsFront rules (0 + 1) spelled.1 (second ∷ later) begins.0)) last spelled.4 in
    absurd (cc (none.0))

quit_taken : (rules : Rules) (read : List ℕ) (taken : List Taken) (first second : Taken) → first ∷ second ∷ []
    ≡ map carried_out taken → first.entry ≡ command.Quit → BeginCommands rules read (commands_of taken) → ⊥
quit_taken rules read [] first second is quit begins = absurd (cc is)
quit_taken rules read (t ∷ []) first second is quit begins = absurd (cc is)
quit_taken rules read (t ∷ u ∷ taken) first second is quit begins =
    let same : first ≡ carried_out t = same_Some first (carried_out t) (ap (λ l. slice_get l 0) is) in
    quit_ends rules read t.entry u.entry (commands_of taken) (quit_is t (sym (ap (λ (o : Taken). o.entry) same) ∙ quit))
    begins

not_behind_quit : (now : Sight) (bytes : List ℕ)
    → MayWrite one_each 0 begun now bytes (opened ∷ Took 0 0 command.Quit 1000 no_server false ∷ took ∷ []) → ⊥
not_behind_quit now bytes may =
    quit_taken (rules_of one_each) may.read may.taken (record one { entry = command.Quit }) one may.recorded refl
    may.covers
