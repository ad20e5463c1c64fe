-- What the shards ran for a slot, split at the boundaries of its connections.
use Rattle.std.proofs.Common.{◌≡◌, ℕ, zero, suc, ◌<◌, ◌==◌, List, [], ◌∷◌, ◌++◌, length, map, take, drop}
use Rattle.std.proofs.Common.{refl, sym, ap, subst, ◌∙◌, arith, append_assoc, append-nil, length-append}
use Rattle.std.specs.List.{AllByRecursion, flat_map}
use Rattle.std.proofs.lemmas.List.{length-map, map-append, take_all, take-append-drop}
use Rattle.mc_sizes.specs.Sizes.{rules_of}
use Rattle.mc_sizes.specs.declared.sizes.Sizes.{Sizes}
use Rattle.mc_ring.specs.declared.request.Request.TheVariants as request
use Rattle.mc_ring.specs.Channel.{Near}
use Rattle.mc_ring.specs.Ends.{AreSameEnds, Ends, received_on, sent_on}
use Rattle.mc_ring.specs.EndsLaws.{same_ends-refl, same_ends-trans}
use Rattle.mc_ring.specs.Reply.{Shown}
use Rattle.mc_split.specs.declared.plan.Piece.{Piece}
use Rattle.mc_conn.specs.History.{AnsweredCommand, IsAnswered, Taken, entries_of, taken_of, text_done}
use Rattle.mc_conn.specs.Due as due
use Rattle.mc_conn.specs.Due.{Ran, history_of, ran_on}
use Rattle.mc_conn.specs.Fits.{KeysFit, Serves, Tells, reply_of}
use Rattle.mc_conn.specs.Flow.{Flow, all_texts, commands_of}
use Rattle.mc_conn.proofs.Telling.{ran_on-same, tells}
use Rattle.mc_model.specs.Log.{Entry, of_asker, on_shard, pieces_in, replies_in}
use Rattle.mc_history.specs.declared.event.Event.{Event}
use Rattle.mc_history.specs.declared.knowledge.Role.TheVariants.{Seat}
use Rattle.mc_history.specs.Lawful.{IsHistory}
use Rattle.mc_history.specs.Roles.{seat_of}
use Rattle.mc_history.specs.Worlds.{work_on}
use Rattle.mc_record.specs.Closing.{IsWholeIn}
use Rattle.mc_poll.specs.Zips.{Zips}
use Rattle.mc_transport.specs.LineServed.{Exchanges}
use Rattle.mc_transport.specs.Reads.{ReadsOwingNothing}
use Rattle.mc_transport.specs.Story.{Story}
use Rattle.mc_transport.specs.Explains.{LineFlow, log_of}
use Rattle.mc_serve.proofs.Line.{asked_by, entry_for, filter_keeps, map_on_shard, ran_shards, same_asker, shard_of}
use Rattle.mc_serve.proofs.Ran.{AreRun, channel_run}
use Rattle.mc_serve.proofs.Served.{all_come, entries_same, moments_of}
use Rattle.mc_serve.proofs.Zipped.{empty_when}
use Rattle.mc_serve.specs.Recorded.{IsClerkOf}
use Rattle.mc_serve.specs.Seats.{SeatAt, SeatServes, ServesSourceLine, ServesLines}
use Rattle.mc_serve.specs.Served.{ExplainsHistory, ExplainsSeat, log_by}
use Rattle.mc_command.specs.declared.rules.Rules.{Rules}
use Rattle.mc_ring.proofs.Lists.{all_take}
use Rattle.mc_model.proofs.Alone.{ran_of, pieces_of_ran, replies_of_ran}

-- The facts about a connection that was served, from what it took.
pub record Core (may_answer : ℕ → Type 0) (line : LineFlow) (before after : Ends Near) (flow : Flow)
    (received : ℕ → List Shown) : Type 0 where
  pub exchanges : Exchanges before after flow received
  pub serves : Serves flow.shards flow.taken flow.accepted received
  pub story : Story flow.rules line.begin line.now line.broke flow.taken (all_texts flow)
  pub moments : AllByRecursion (λ (one : Taken). may_answer one.moment) flow.taken
  pub counted : line.commands ≡ length flow.taken
  pub fits : KeysFit flow.shards flow.taken received
  pub reads : ReadsOwingNothing flow.rules line.begin line.now (commands_of flow.taken) (all_texts flow)
  pub complete : length (all_texts flow) ≡ length flow.taken

core_of : (shards : ℕ) (rules : Rules) (may_answer : ℕ → Type 0) (line : LineFlow) (before after : Ends Near)
    → (serves : ServesSourceLine shards rules may_answer line before after)
    → Core may_answer line before after serves.served.flow serves.served.received
core_of shards rules may_answer line before after serves =
    let served = serves.served in
    record {
      exchanges = served.exchanges;
      serves = served.serves;
      story = served.story;
      moments = served.moments;
      counted = served.counted;
      fits = serves.fits;
      reads = served.reads serves.fits;
      complete = served.complete serves.fits;
    }

-- what a connection took, under these sizes
abbrev pub sized : ℕ → Rules → Flow → Flow
sized shards rules flow = record flow { shards = shards; rules = rules }

same_sized : (shards : ℕ) (rules : Rules) (flow : Flow) → flow.shards ≡ shards → flow.rules ≡ rules → flow
    ≡ sized shards rules flow
same_sized shards rules flow shards_is rules_are = λ i. record flow { shards = shards_is i; rules = rules_are i }

-- A connection that was served under these sizes has the pieces and replies that were due.
pub record Served (shards : ℕ) (rules : Rules) (may_answer : ℕ → Type 0) (line : LineFlow) (before after : Ends Near) :
    Type 0 where
  pub flow : Flow
  pub received : ℕ → List Shown
  pub core : Core may_answer line before after (sized shards rules flow) received

served_of : (shards : ℕ) (rules : Rules) (may_answer : ℕ → Type 0) (line : LineFlow) (before after : Ends Near)
    → ServesSourceLine shards rules may_answer line before after → Served shards rules may_answer line before after
served_of shards rules may_answer line before after serves =
    let flow = serves.served.flow in
    let received = serves.served.received in
    let P : Flow → Type 0 = λ t. Core may_answer line before after t received in
    record {
      flow = flow;
      received = received;
      core =
          subst P (same_sized shards rules flow serves.served.shards_is serves.served.rules_are)
          (core_of shards rules may_answer line before after serves);
    }

module _ (shards : ℕ) (rules : Rules) (may_answer : ℕ → Type 0) where
  abbrev pub Chain : List LineFlow → Ends Near → Ends Near → Type 0
  Chain [] before after = after ≡ before
  Chain (line ∷ lines) before after =
      (mid : Ends Near) × Served shards rules may_answer line before mid × Chain lines mid after

  pub chain_of : (lines : List LineFlow) (before after : Ends Near)
      → ServesLines shards rules may_answer lines before after → Chain lines before after
  chain_of [] before after are = are
  chain_of (line ∷ lines) before after are =
      (are.0, served_of shards rules may_answer line before are.0 are.1, chain_of lines are.0 after are.2)

  -- the pieces that were due at a shard for all connections, and the replies that came from it
  abbrev pub all_due : (lines : List LineFlow) (before after : Ends Near) → Chain lines before after → ℕ → List Piece
  all_due [] before after chain shard = []
  all_due (line ∷ lines) before after chain shard =
      due.due shards shard chain.1.flow.taken ++ all_due lines chain.0 after chain.2 shard

  abbrev pub all_got : (lines : List LineFlow) (before after : Ends Near) → Chain lines before after → ℕ → List Shown
  all_got [] before after chain shard = []
  all_got (line ∷ lines) before after chain shard = chain.1.received shard ++ all_got lines chain.0 after chain.2 shard

  pub chain_same : (lines : List LineFlow) (before after : Ends Near) → Chain lines before after
      → AreSameEnds before after
  chain_same [] before after chain = let P : Ends Near → Type 0 =
      λ ends. AreSameEnds before ends in subst P (sym chain) (same_ends-refl before)
  chain_same (line ∷ lines) before after chain =
      same_ends-trans before chain.0 after chain.1.core.exchanges.same (chain_same lines chain.0 after chain.2)

  pub chain_sent : (lines : List LineFlow) (before after : Ends Near) → (chain : Chain lines before after) → (shard : ℕ)
      → shard < shards → sent_on after shard ≡ sent_on before shard
      ++ map request.Piece (all_due lines before after chain shard)
  chain_sent [] before after chain shard below =
      ap (λ ends. sent_on ends shard) chain ∙ sym (append-nil (sent_on before shard))
  chain_sent (line ∷ lines) before after chain shard below =
      let this = due.due shards shard chain.1.flow.taken in
      let others = all_due lines chain.0 after chain.2 shard in
      chain_sent lines chain.0 after chain.2 shard below
      ∙ (ap (λ ps. ps ++ map request.Piece others) (chain.1.core.exchanges.sent shard below)
      ∙ (append_assoc (sent_on before shard) (map request.Piece this) (map request.Piece others)
      ∙ ap (λ ps. sent_on before shard ++ ps) (sym (map-append request.Piece this others))))

  pub chain_came : (lines : List LineFlow) (before after : Ends Near) → (chain : Chain lines before after) → (shard : ℕ)
      → shard < shards → received_on after shard ≡ received_on before shard ++ all_got lines before after chain shard
  chain_came [] before after chain shard below =
      ap (λ ends. received_on ends shard) chain ∙ sym (append-nil (received_on before shard))
  chain_came (line ∷ lines) before after chain shard below =
      let others = all_got lines chain.0 after chain.2 shard in
      chain_came lines chain.0 after chain.2 shard below
      ∙ (ap (λ rs. rs ++ others) (chain.1.core.exchanges.came shard below)
      ∙ append_assoc (received_on before shard) (chain.1.received shard) others)

  pub chain_many : (lines : List LineFlow) (before after : Ends Near) → (chain : Chain lines before after) → (shard : ℕ)
      → length (all_got lines before after chain shard) ≡ length (all_due lines before after chain shard)
  chain_many [] before after chain shard = refl
  chain_many (line ∷ lines) before after chain shard =
      let one = chain.1.core.exchanges.answered shard in
      let rest = chain_many lines chain.0 after chain.2 shard in
      let got = length-append (chain.1.received shard) (all_got lines chain.0 after chain.2 shard) in
      let asked = length-append (due.due shards shard chain.1.flow.taken) (all_due lines chain.0 after chain.2 shard) in
      omega (arith, one, rest, got, asked)

-- Pieces that were asked first, and whose replies came first, were run first.
record IsCut (xs ys : List Piece) (gs hs : List Shown) (log : List Entry) : Type 0 where
  first : AreRun xs gs (take (length xs) log)
  rest : AreRun ys hs (drop (length xs) log)

cut : (xs ys : List Piece) (gs hs : List Shown) (log : List Entry) → length gs ≡ length xs
    → AreRun (xs ++ ys) (gs ++ hs) log → IsCut xs ys gs hs log
cut [] ys [] hs log many run = record { first = record { pieces = refl; replies = refl }; rest = run }
cut [] ys (g ∷ gs) hs log many run = absurd (omega (arith, many))
cut (x ∷ xs) ys [] hs log many run = absurd (omega (arith, many))
cut (x ∷ xs) ys (g ∷ gs) hs [] many run = let bad = run.pieces in absurd (cc)
cut (x ∷ xs) ys (g ∷ gs) hs (e ∷ log) many run =
    let pieces = run.pieces in
    let replies = run.replies in
    let head : x ≡ e.piece = cc in
    let tail : xs ++ ys ≡ pieces_in log = cc in
    let reply : g ≡ reply_of (ran_of e) = cc in
    let others : gs ++ hs ≡ replies_in log = cc in
    let less = cut xs ys gs hs log (omega (arith, many)) (record { pieces = tail; replies = others }) in
    record {
      first = record {
        pieces = ap (λ p. p ∷ xs) head ∙ ap (λ ps. e.piece ∷ ps) less.first.pieces;
        replies = ap (λ r. r ∷ gs) reply ∙ ap (λ rs. reply_of (ran_of e) ∷ rs) less.first.replies;
      };
      rest = less.rest;
    }

all_drop : {X : Type 0} (P : X → Type 0) (n : ℕ) (xs : List X) → AllByRecursion P xs → AllByRecursion P (drop n xs)
all_drop P zero xs all = all
all_drop P (suc n) [] all = tt
all_drop P (suc n) (x ∷ xs) all = all_drop P n xs all.1

-- If nothing was asked, nothing was run.
none_run : (log : List Entry) → [] ≡ pieces_in log → log ≡ []
none_run [] none = refl
none_run (e ∷ log) none = absurd (cc)

-- All of these entries were run by this shard for this slot.
abbrev pub IsMine : ℕ → ℕ → Entry → Type 0
IsMine shard seat entry = (entry.shard ≡ shard) × (entry.asker ≡ seat)

all_shard : (shard seat : ℕ) (log : List Entry) → AllByRecursion (IsMine shard seat) log
    → AllByRecursion (λ entry. entry.shard ≡ shard) log
all_shard shard seat [] all = tt
all_shard shard seat (e ∷ log) all = (all.0.0, all_shard shard seat log all.1)

all_asker : (shard seat : ℕ) (log : List Entry) → AllByRecursion (IsMine shard seat) log
    → AllByRecursion (λ entry. entry.asker ≡ seat) log
all_asker shard seat [] all = tt
all_asker shard seat (e ∷ log) all = (all.0.1, all_asker shard seat log all.1)

all_mine : (shard seat : ℕ) (log : List Entry) → AllByRecursion (λ entry. entry.shard ≡ shard) log
    → AllByRecursion (λ entry. entry.asker ≡ seat) log → AllByRecursion (IsMine shard seat) log
all_mine shard seat [] shards askers = tt
all_mine shard seat (e ∷ log) shards askers = ((shards.0, askers.0), all_mine shard seat log shards.1 askers.1)

-- What a shard ran for a connection is what the connection's commands need there.
run_flow : (shards shard seat : ℕ) (taken : List Taken) (got : List Shown) (mine : List Entry)
    (history : List AnsweredCommand) → AreRun (due.due shards shard taken) got mine
    → AllByRecursion (IsMine shard seat) mine
    → due.on_shard shard (due.log_of shards history) ≡ ran_on shard (due.due shards shard taken) got → mine
    ≡ on_shard shard (log_of shards seat history)
run_flow shards shard seat taken got mine history run owned flow =
    let these : ran_on shard (due.due shards shard taken) got ≡ map ran_of mine =
    ap (λ ps. ran_on shard ps got) (run.pieces ∙ sym (pieces_of_ran mine))
    ∙ (ap (λ rs. ran_on shard (map (λ (ran : Ran). ran.piece) (map ran_of mine)) rs)
    (run.replies ∙ sym (replies_of_ran mine))
    ∙ ran_on-same shard (map ran_of mine) (ran_shards shard mine (all_shard shard seat mine owned))) in
    sym (map_on_shard shard seat (due.log_of shards history)
    ∙ (ap (λ rs. map (entry_for seat) rs) (flow ∙ these) ∙ same_asker seat mine (all_asker shard seat mine owned)))

-- One connection of the slot is explained by what each shard ran for it.
record LineRan (sizes : Sizes) (may_answer : ℕ → Type 0) (line : LineFlow) (seat : ℕ) (mine : ℕ → List Entry) : Type 0
  where
    history : List AnsweredCommand
    explains : ExplainsHistory sizes may_answer line history
    ran : (shard : ℕ) → shard < sizes.shards → mine shard ≡ on_shard shard (log_of sizes.shards seat history)

line_ran : (sizes : Sizes) (may_answer : ℕ → Type 0) (line : LineFlow) (before after : Ends Near) (seat : ℕ)
    (mine : ℕ → List Entry)
    → (at : Served sizes.shards (rules_of sizes) may_answer line before after)
    → ((shard : ℕ) → shard < sizes.shards
    → AreRun (due.due sizes.shards shard at.flow.taken) (at.received shard) (mine shard))
    → ((shard : ℕ) → shard < sizes.shards → AllByRecursion (IsMine shard seat) (mine shard))
    → LineRan sizes may_answer line seat mine
line_ran sizes may_answer line before after seat mine at runs owned =
    let flow = sized sizes.shards (rules_of sizes) at.flow in
    let received = at.received in
    let core = at.core in
    let count = length flow.taken in
    let t : Tells sizes.shards flow.taken flow.accepted received count =
    tells sizes.shards count flow.taken flow.accepted received (omega arith) core.story.may (core.serves.fits core.fits)
    (all_come sizes.shards flow.taken received core.exchanges.answered) in
    let whole : take count flow.taken ≡ flow.taken = take_all count flow.taken (omega arith) in
    let complete = core.complete in
    let all : take count (all_texts flow) ≡ all_texts flow =
    take_all count (all_texts flow) (omega (arith, complete)) in
    let history_at : List Taken → List AnsweredCommand = λ ts. history_of sizes.shards flow.accepted ts in
    let history = history_at flow.taken in
    let same : map taken_of history ≡ flow.taken =
    (let P : List Taken → Type 0 = λ ts. map taken_of (history_at ts) ≡ ts in subst P whole t.same) in
    let texts : all_texts flow ≡ map text_done history = sym all
    ∙ (t.texts ∙ ap (λ ts. map text_done (history_at ts)) whole) in
    let S : List Taken → List (List ℕ) → Type 0 =
    λ taken texts. Story (rules_of sizes) line.begin line.now line.broke taken texts in
    let R : List _ → List (List ℕ) → Type 0 =
    λ commands texts. ReadsOwingNothing (rules_of sizes) line.begin line.now commands texts in
    let commands_are : commands_of flow.taken ≡ entries_of history = ap commands_of (sym same) ∙ entries_same history in
    let M : List Taken → Type 0 = λ ts. AllByRecursion (λ (one : Taken). may_answer one.moment) ts in
    let long = ap length same in
    let counted = core.counted in
    record {
      history = history;
      explains = record {
        story =
            subst (λ texts. S (map taken_of history) texts) texts
            (subst (λ taken. S taken (all_texts flow)) (sym same) core.story);
        reads =
            subst (λ texts. R (entries_of history) texts) texts
            (subst (λ commands. R commands (all_texts flow)) commands_are core.reads);
        answered =
            (let P : List Taken → Type 0 = λ ts. AllByRecursion (IsAnswered sizes.shards) (history_at ts) in
            subst P whole t.answered);
        moments = moments_of may_answer history (subst M (sym same) core.moments);
        counted = omega (arith, counted, long, length-map history taken_of);
      };
      ran = λ s below.
          let P : List Taken → Type 0 = λ ts. due.on_shard s (due.log_of sizes.shards (history_at ts))
          ≡ ran_on s (due.due sizes.shards s ts) (received s) in
          run_flow sizes.shards s seat flow.taken (received s) (mine s) history (runs s below) (owned s below)
          (subst P whole (t.ran s));
    }

-- All connections of the slot are explained by what each shard ran for the slot.
record SeatRan (sizes : Sizes) (may_answer : ℕ → Type 0) (lines : List LineFlow) (seat : ℕ) (mine : ℕ → List Entry) :
    Type 0 where
  histories : List (List AnsweredCommand)
  each : Zips (ExplainsHistory sizes may_answer) lines histories
  ran : (shard : ℕ) → shard < sizes.shards → mine shard
      ≡ flat_map (λ history. on_shard shard (log_of sizes.shards seat history)) histories

seat_ran : (sizes : Sizes) (may_answer : ℕ → Type 0) (seat : ℕ)
    → (lines : List LineFlow) (before after : Ends Near) (mine : ℕ → List Entry)
    → (chain : Chain sizes.shards (rules_of sizes) may_answer lines before after)
    → ((shard : ℕ) → shard < sizes.shards
    → AreRun (all_due sizes.shards (rules_of sizes) may_answer lines before after chain shard)
    (all_got sizes.shards (rules_of sizes) may_answer lines before after chain shard) (mine shard))
    → ((shard : ℕ) → shard < sizes.shards → AllByRecursion (IsMine shard seat) (mine shard))
    → SeatRan sizes may_answer lines seat mine
seat_ran sizes may_answer seat [] before after mine chain runs owned =
    record { histories = []; each = tt; ran = λ s below. none_run (mine s) (runs s below).pieces }
seat_ran sizes may_answer seat (line ∷ lines) before after mine chain runs owned =
    let many : ℕ → ℕ = λ s. length (due.due sizes.shards s chain.1.flow.taken) in
    let first : ℕ → List Entry = λ s. take (many s) (mine s) in
    let others : ℕ → List Entry = λ s. drop (many s) (mine s) in
    let cuts = λ (s : ℕ) (below : s < sizes.shards).
    cut (due.due sizes.shards s chain.1.flow.taken)
    (all_due sizes.shards (rules_of sizes) may_answer lines chain.0 after chain.2 s) (chain.1.received s)
    (all_got sizes.shards (rules_of sizes) may_answer lines chain.0 after chain.2 s) (mine s)
    (chain.1.core.exchanges.answered s) (runs s below) in
    let one = line_ran sizes may_answer line before chain.0 seat first chain.1 (λ s below. (cuts s below).first)
    (λ s below. all_take (IsMine s seat) (many s) (mine s) (owned s below)) in
    let rest = seat_ran sizes may_answer seat lines chain.0 after others chain.2 (λ s below. (cuts s below).rest)
    (λ s below. all_drop (IsMine s seat) (many s) (mine s) (owned s below)) in
    record {
      histories = one.history ∷ rest.histories;
      each = (one.explains, rest.each);
      ran = λ s below.
          sym (take-append-drop (many s) (mine s))
          ∙ (ap (λ es. es ++ others s) (one.ran s below)
          ∙ ap (λ es. on_shard s (log_of sizes.shards seat one.history) ++ es) (rest.ran s below));
    }

-- A slot before its first connection: its clerk is that of its ends, and has recorded nothing.
pub record IsNewSeat (sizes : Sizes) (was : SeatAt) : Type 0 where
  pub clerk : IsClerkOf sizes was.ends was.clerk
  pub none : was.clerk.events ≡ []

seat_width : (sizes : Sizes) (was : SeatAt) → IsNewSeat sizes was → length was.ends.channels ≡ sizes.shards
seat_width sizes was new = sym (new.clerk.routes.shards 0) ∙ ap (λ (s : Sizes). s.shards) new.clerk.sizes_are

-- On its ends nothing was sent or received.
none_sent : (sizes : Sizes) (was : SeatAt) (shard : ℕ) → IsNewSeat sizes was → shard < sizes.shards
    → sent_on was.ends shard ≡ []
none_sent sizes was shard new below =
    let width = seat_width sizes was new in
    sym (new.clerk.past.work_is shard (omega (arith, below, width)))
    ∙ ap (λ (events : List Event). map request.Piece (map (λ (one : ℕ × Piece). one.1)
    (work_on was.clerk.name.sizes.shards (seat_of was.clerk.role) shard events))) new.none

none_received : (sizes : Sizes) (was : SeatAt) (shard : ℕ) → IsNewSeat sizes was → shard < sizes.shards
    → received_on was.ends shard ≡ []
none_received sizes was shard new below =
    let width = seat_width sizes was new in
    empty_when (received_on was.ends shard)
    (new.clerk.past.settled shard (omega (arith, below, width)) ∙ ap length (none_sent sizes was shard new below))

-- A history with all that the slot's clerk recorded explains the connections of the slot.
pub explains_seat : (sizes : Sizes) (seat : ℕ) (may_answer : ℕ → Type 0) (was at_end : SeatAt) (events : List Event)
    → (serves : SeatServes sizes.shards (rules_of sizes) may_answer was at_end) → IsNewSeat sizes was
    → at_end.clerk.name.sizes ≡ sizes → at_end.clerk.role ≡ Seat seat → IsHistory sizes events
    → IsWholeIn events at_end.clerk → ExplainsSeat sizes may_answer (log_by events) seat serves.lines
explains_seat sizes seat may_answer was at_end events serves new sizes_are role lawful whole =
    let shards = sizes.shards in
    let rules = rules_of sizes in
    let chain = chain_of shards rules may_answer serves.lines was.ends serves.served serves.lines_are in
    let same = chain_same shards rules may_answer serves.lines was.ends serves.served chain in
    let asked : ℕ → List Piece = all_due shards rules may_answer serves.lines was.ends serves.served chain in
    let got : ℕ → List Shown = all_got shards rules may_answer serves.lines was.ends serves.served chain in
    let log = log_by events in
    let mine : ℕ → List Entry = λ s. of_asker seat (on_shard s log) in
    let runs = λ (s : ℕ) (below : s < shards).
    (let there : s < length serves.served.channels =
    (let count = same.count in let width = seat_width sizes was new in omega (arith, below, count, width)) in
    let sent : sent_on serves.served s ≡ map request.Piece (asked s) =
    chain_sent shards rules may_answer serves.lines was.ends serves.served chain s below
    ∙ ap (λ ps. ps ++ map request.Piece (asked s)) (none_sent sizes was s new below) in
    let came : received_on serves.served s ≡ got s =
    chain_came shards rules may_answer serves.lines was.ends serves.served chain s below
    ∙ ap (λ rs. rs ++ got s) (none_received sizes was s new below) in
    let run : AreRun (asked s) (got s) (mine s) =
    channel_run sizes seat at_end.clerk events sizes_are role lawful whole serves.served s (asked s) (got s) there
    serves.recorded sent came in
    run) in
    let owned = λ (s : ℕ) (below : s < shards).
    all_mine s seat (mine s)
    (filter_keeps (λ entry. entry.shard ≡ s) (λ entry. entry.asker == seat) (on_shard s log) (shard_of s log))
    (asked_by seat (on_shard s log)) in
    let ran = seat_ran sizes may_answer seat serves.lines was.ends serves.served mine chain runs owned in
    record { histories = ran.histories; each = ran.each; ran = ran.ran }
