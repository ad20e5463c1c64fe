-- What contracts see of a token's steps.
use Rattle.std.proofs.Common.{◌≡◌, ℕ, ◌<◌, Bool, true, cond, List, [], ◌∷◌, ◌++◌, length, map, Some, refl, sym, ap}
use Rattle.std.proofs.Common.{subst, ◌∙◌, arith, append-nil, length-append, eq-eqb}
use Rattle.std.specs.List.{AllByRecursion, slice_get}
use Rattle.std.proofs.lemmas.List.Concat.{flat_map-append}
use Rattle.std.proofs.lemmas.List.Elements.{filter-append}
use Rattle.std.proofs.lemmas.Option.{slice_get_within}
use Rattle.atomic_table.specs.Seated.{TableId}
use Rattle.mc_command.specs.declared.command.Command.{Command}
use Rattle.mc_sizes.specs.declared.sizes.Sizes.{Sizes}
use Rattle.mc_ring.proofs.Lists.{get_last}
use Rattle.mc_item.specs.declared.answer.Answer.{Answer}
use Rattle.mc_reply.specs.declared.server_stats.ServerStats.{ServerStats}
use Rattle.mc_split.specs.declared.plan.Piece.{Piece}
use Rattle.mc_conn.specs.History.{Taken}
use Rattle.mc_conn.proofs.Gets.{get_front}
use Rattle.mc_model.specs.Grows.{Lengthens}
use Rattle.mc_model.specs.Log.{on_shard}
use Rattle.mc_model.proofs.Growing.{further}
use Rattle.mc_history.specs.declared.event.Event.{Event}
use Rattle.mc_history.specs.declared.event.Event.TheVariants.{Opened, Ran, Took}
use Rattle.mc_history.specs.declared.knowledge.Knowledge.{Knowledge}
use Rattle.mc_history.specs.declared.knowledge.Role.{Role}
use Rattle.mc_history.specs.declared.knowledge.Role.TheVariants.{Seat, Shard}
use Rattle.mc_history.specs.Worlds.{IsLastOn, entries_of, ran_in, seats_in, seats_of, taken_in, taken_of, took}
use Rattle.mc_history.specs.Lawful.{IsHistory}
use Rattle.mc_history.specs.Roles.{is_own, own_part, seat_of}
use Rattle.mc_history.specs.Rule.{Extends}
use Rattle.mc_history.specs.Tokens.{Acting, Adds, Sees, TakesAll}
use Rattle.mc_history.proofs.Lists.{filter_all, lengthens_picked, picked_push}
use Rattle.mc_history.proofs.Roles.{own_yes}
use Rattle.mc_history.proofs.Worlds.{shard_part}
use Rattle.mc_history.proofs.Follows.{follow_front}
use Rattle.mc_history.proofs.Placed.{taken_is, unopened_took}

-- an actor that knows this, of the history in this table
abbrev acting : TableId → Knowledge → Acting
acting table v = record { name = record { table = table; sizes = v.sizes }; role = v.role; events = v.seen }

-- of events of its own a token's part has all
pub own_all : (role : Role) (before events : List Event) → AllByRecursion (λ event. is_own role event ≡ true) events
    → own_part role (before ++ events) ≡ own_part role before ++ events
own_all role before events own =
    filter-append (is_own role) before events
    ∙ ap (λ l. own_part role before ++ l) (filter_all (is_own role) events own)

-- Where a step extends what an actor knows by an event of its own, the event is added.
pub added : (event : Event) (table table' : TableId) (v w : Knowledge) → is_own v.role event ≡ true
    → Extends (event ∷ []) v w → table' ≡ table → Adds event (acting table v) (acting table' w)
added event table table' v w own step same =
    let is = step.new in
    record {
      name = ap (λ u. (acting table' u).name) is ∙ ap (λ t. (acting t v).name) same;
      role = ap (λ u. u.role) is;
      before = step.before;
      more = step.more;
      events = ap (λ u. u.seen) is;
      own =
          ap (λ u. own_part u.role u.seen) is
          ∙ (own_yes v.role step.before event own ∙ ap (λ part. part ++ event ∷ []) step.own);
    }

-- So are commands.
pub all_taken : (k : ℕ) (taken : List Taken) (table table' : TableId) (v w : Knowledge)
    → AllByRecursion (λ event. is_own v.role event ≡ true) (map (took (seat_of v.role) k) taken)
    → Extends (map (took (seat_of v.role) k) taken) v w → table' ≡ table
    → TakesAll k taken (acting table v) (acting table' w)
all_taken k taken table table' v w own step same =
    let is = step.new in
    let events = map (took (seat_of v.role) k) taken in
    record {
      name = ap (λ u. (acting table' u).name) is ∙ ap (λ t. (acting t v).name) same;
      role = ap (λ u. u.role) is;
      before = step.before;
      more = step.more;
      events = ap (λ u. u.seen) is;
      own =
          ap (λ u. own_part u.role u.seen) is
          ∙ (own_all v.role step.before events own ∙ ap (λ part. part ++ events) step.own);
    }

-- the part of a role that is known
pub part_of : (role : Role) (a : Acting) → a.role ≡ role → own_part a.role a.events ≡ own_part role a.events
part_of role a is = ap (λ r. own_part r a.events) is

-- An actor that adds an event has this one more in its part.
pub part_added : (role : Role) (event : Event) (old new : Acting) → old.role ≡ role → Adds event old new
    → own_part role new.events ≡ own_part role old.events ++ event ∷ []
part_added role event old new is adds =
    sym (part_of role new (adds.role ∙ is)) ∙ (adds.own ∙ ap (λ part. part ++ event ∷ []) (part_of role old is))

-- An actor that hears of others has the same part.
pub part_heard : (role : Role) (heard : List Event) (old new : Acting) → old.role ≡ role → Sees heard old new
    → own_part role new.events ≡ own_part role old.events
part_heard role heard old new is sees = sym (part_of role new (sees.role ∙ is)) ∙ (sees.own ∙ part_of role old is)

-- What begins a lawful history is lawful.
pub lawful_before : (sizes : Sizes) (seen history : List Event) → Lengthens seen history → IsHistory sizes history
    → IsHistory sizes seen
lawful_before sizes seen history more lawful =
    follow_front sizes [] seen more.0 (subst (λ h. IsHistory sizes h) more.1 lawful)

-- A connection's seat stays what it is.
pub seat_later : (k c : ℕ) (seen history : List Event) → Lengthens seen history → slice_get (seats_in seen) k ≡ Some c
    → slice_get (seats_in history) k ≡ Some c
seat_later k c seen history more on =
    let longer = lengthens_picked seats_of seen history more in
    ap (λ ss. slice_get ss k) longer.1 ∙ get_front (seats_in seen) longer.0 k c on

-- The command that a seat adds is the next that its connection took.
pub added_command : (sizes : Sizes) (c k : ℕ) (command : Command) (moment : ℕ) (server : ServerStats) (given_up : Bool)
    (old new : Acting) → IsHistory sizes new.events → slice_get (seats_in old.events) k ≡ Some c → old.role ≡ Seat c
    → Adds (Took c k command moment server given_up) old new → taken_in k new.events ≡ taken_in k old.events
    ++ record { entry = command; moment = moment; server = server; given_up = given_up } ∷ []
added_command sizes c k command moment server given_up old new lawful on is adds =
    let event = Took c k command moment server given_up in
    let one : Taken = record { entry = command; moment = moment; server = server; given_up = given_up } in
    let mine : taken_of k event ≡ one ∷ [] = ap (λ b. cond b (one ∷ []) []) (eq-eqb k k refl) in
    let more : Lengthens old.events new.events =
    further old.events adds.before new.events adds.more (event ∷ [], adds.events) in
    sym (taken_is sizes c k new.events lawful (seat_later k c old.events new.events more on))
    ∙ (ap (taken_in k) (part_added (Seat c) event old new is adds)
    ∙ (picked_push (taken_of k) (own_part (Seat c) old.events) event
    ∙ (ap (λ ts. taken_in k (own_part (Seat c) old.events) ++ ts) mine
    ∙ ap (λ ts. ts ++ one ∷ [])
    (taken_is sizes c k old.events (lawful_before sizes old.events new.events more lawful) on))))

-- what a connection took of commands that it takes
pub took_all : (c k : ℕ) (taken : List Taken) → taken_in k (map (took c k) taken) ≡ taken
took_all c k [] = refl
took_all c k (one ∷ taken) =
    ap (λ b. cond b (one ∷ []) [] ++ taken_in k (map (took c k) taken)) (eq-eqb k k refl)
    ∙ ap (λ ts. one ∷ ts) (took_all c k taken)

-- The commands that a seat adds together are the next that its connection took.
pub added_commands : (sizes : Sizes) (c k : ℕ) (taken : List Taken) (old new : Acting) → IsHistory sizes new.events
    → slice_get (seats_in old.events) k ≡ Some c → old.role ≡ Seat c → TakesAll k taken old new → taken_in k new.events
    ≡ taken_in k old.events ++ taken
added_commands sizes c k taken old new lawful on is takes =
    let events = map (took (seat_of old.role) k) taken in
    let more : Lengthens old.events new.events =
    further old.events takes.before new.events takes.more (events, takes.events) in
    let part : own_part (Seat c) new.events ≡ own_part (Seat c) old.events ++ map (took c k) taken =
    sym (part_of (Seat c) new (takes.role ∙ is))
    ∙ (takes.own ∙ (ap (λ l. l ++ events) (part_of (Seat c) old is)
    ∙ ap (λ r. own_part (Seat c) old.events ++ map (took (seat_of r) k) taken) is)) in
    sym (taken_is sizes c k new.events lawful (seat_later k c old.events new.events more on)) ∙ (ap (taken_in k) part
    ∙ (flat_map-append (taken_of k) (own_part (Seat c) old.events) (map (took c k) taken)
    ∙ (ap (λ ts. taken_in k (own_part (Seat c) old.events) ++ ts) (took_all c k taken)
    ∙ ap (λ ts. ts ++ taken)
    (taken_is sizes c k old.events (lawful_before sizes old.events new.events more lawful) on))))

-- The connection that a seat opens is the last there, and has taken nothing.
pub added_opening : (sizes : Sizes) (c : ℕ) (old new : Acting) → IsHistory sizes new.events
    → (adds : Adds (Opened c) old new) → IsLastOn c (length (seats_in adds.before)) new.events
    × (taken_in (length (seats_in adds.before)) new.events ≡ [])
added_opening sizes c old new lawful adds =
    let before = adds.before in
    let k = length (seats_in before) in
    let event = Opened c in
    let seats : seats_in new.events ≡ seats_in before ++ c ∷ [] = ap seats_in adds.events
    ∙ picked_push seats_of before event in
    let first = lawful_before sizes before new.events (event ∷ [], adds.events) lawful in (
      record {
        here = ap (λ ss. slice_get ss k) seats ∙ get_last (seats_in before) c;
        last = λ later after at.
            let within : later < length (seats_in before ++ c ∷ []) =
            slice_get_within (seats_in before ++ c ∷ []) later c (sym (ap (λ ss. slice_get ss later) seats) ∙ at) in
            let long = length-append (seats_in before) (c ∷ []) in
            absurd (omega (arith, within, long, after));
      },
      ap (taken_in k) adds.events
          ∙ (picked_push (taken_of k) before event
          ∙ (append-nil (taken_in k before) ∙ unopened_took sizes before first k (omega arith))),
    )

-- The entry that a shard adds is the next that it ran.
pub added_entry : (s asker : ℕ) (piece : Piece) (answer : Answer) (old new : Acting) → old.role ≡ Shard s
    → Adds (Ran s asker piece answer) old new
    → on_shard s (ran_in new.events) ≡ on_shard s (ran_in old.events)
    ++ record { shard = s; asker = asker; piece = piece; answer = answer } ∷ []
added_entry s asker piece answer old new is adds =
    let event = Ran s asker piece answer in
    sym (shard_part s new.events) ∙ (ap ran_in (part_added (Shard s) event old new is adds)
    ∙ (picked_push entries_of (own_part (Shard s) old.events) event
    ∙ ap (λ es. es ++ entries_of event) (shard_part s old.events)))

-- A seat that hears of others: its connection has taken what it had.
pub heard_commands : (sizes : Sizes) (c k : ℕ) (heard : List Event) (old new : Acting) → IsHistory sizes new.events
    → slice_get (seats_in old.events) k ≡ Some c → old.role ≡ Seat c → Sees heard old new → taken_in k new.events
    ≡ taken_in k old.events
heard_commands sizes c k heard old new lawful on is sees =
    sym (taken_is sizes c k new.events lawful (seat_later k c old.events new.events sees.more on))
    ∙ (ap (taken_in k) (part_heard (Seat c) heard old new is sees)
    ∙ taken_is sizes c k old.events (lawful_before sizes old.events new.events sees.more lawful) on)

-- A shard that hears of others has run what it had.
pub heard_entries : (s : ℕ) (heard : List Event) (old new : Acting) → old.role ≡ Shard s → Sees heard old new
    → on_shard s (ran_in new.events) ≡ on_shard s (ran_in old.events)
heard_entries s heard old new is sees =
    sym (shard_part s new.events) ∙ (ap ran_in (part_heard (Shard s) heard old new is sees) ∙ shard_part s old.events)
