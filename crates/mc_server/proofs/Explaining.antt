-- The log of a line's shards explains it.
use Rattle.std.proofs.Common.{◌≡◌, ℕ, ◌+◌, ◌<◌, Bool, List, [], ◌∷◌, ◌++◌, length, map, take, drop, refl, sym, ap, ◌∙◌}
use Rattle.std.proofs.Common.{inl, inr, arith}
use Rattle.std.specs.List.{AllByRecursion, concat}
use Rattle.std.proofs.lemmas.Bool.Decides.{eqb_tells}
use Rattle.std.proofs.lemmas.List.{length-map, take-append-drop, take_all}
use Rattle.std.proofs.lemmas.Simd.{map-map}
use Rattle.mc_wire.specs.Sink.{Sight}
use Rattle.mc_sizes.specs.Sizes.{rules_of}
use Rattle.mc_sizes.specs.declared.sizes.Sizes.{Sizes}
use Rattle.mc_split.specs.declared.plan.Piece.{Piece}
use Rattle.mc_reply.specs.declared.ticket.Ticket.{Ticket}
use Rattle.mc_split.specs.Pieces.{ShardOp, pieces_of}
use Rattle.mc_split.specs.Plan.{parts_from}
use Rattle.mc_split.proofs.Shards.{pieces_within}
use Rattle.mc_store.specs.declared.shard.Shard.{Shard}
use Rattle.mc_conn.specs.declared.conn.Conn.{Conn}
use Rattle.mc_conn.specs.Conn.{IsConn}
use Rattle.mc_conn.specs.Due.{Ran, due, history_of, channel, pieces_at, pieces_from, ran_on, ticket_at}
use Rattle.mc_conn.specs.Due as due
use Rattle.mc_conn.specs.Fits.{HasCome, KeysFit, Tells, counts}
use Rattle.mc_conn.specs.History.{AnsweredCommand, IsAnswered, Taken, entries_of, planned, taken_of, text_done}
use Rattle.mc_conn.specs.History.{texts_of}
use Rattle.mc_conn.specs.Flow.{Flow, all_pieces, all_texts, commands_of}
use Rattle.mc_conn.proofs.Counting.{count_from_come}
use Rattle.mc_conn.proofs.Places.{channel-append}
use Rattle.mc_conn.proofs.Serving.{keys_came}
use Rattle.mc_conn.proofs.Staying.{is_sound}
use Rattle.mc_conn.proofs.Telling.{ran_on-same, tells}
use Rattle.mc_model.specs.Sized.{empty_shard}
use Rattle.mc_model.specs.Log.{Entry, on_shard, pieces_in, reply_to}
use Rattle.mc_model.specs.Alone.{empty_shards}
use Rattle.mc_model.proofs.Lists.{all_unmap}
use Rattle.mc_model.proofs.Alone.{Continues, all_mine, alone_goes, on_its_shard, pieces_of_ran, ran_of, replies_of_ran}
use Rattle.mc_model.proofs.Alone.{run_of}
use Rattle.mc_transport.specs.Story.{Story}
use Rattle.mc_transport.specs.internal.Steps.{IsServed}
use Rattle.mc_transport.specs.Explains.{IsExplained, entry_of}
use Rattle.mc_server.specs.internal.Answering.{ShardsAnswered, piece_in}
use Rattle.mc_server.specs.internal.Recording.{replies_on}
use Rattle.mc_server.proofs.Answering.{channel_ran}
use Rattle.mc_server.proofs.Backing.{lawful}
use Rattle.mc_ring.proofs.Lists.{all_append}

-- all pieces that are due were run
pub record RanAll (sizes : Sizes) (flow : Flow) (shards : List Shard) (log : List Entry) : Type 0 where
  pub answers : ShardsAnswered sizes flow shards log
  pub all : flow.out ≡ length (all_pieces flow)

-- what a shard ran is what was due there
pub ran_due : (sizes : Sizes) (flow : Flow) (shards : List Shard) (log : List Entry) (s : ℕ)
    → RanAll sizes flow shards log → pieces_in (on_shard s log) ≡ due flow.shards s flow.taken
ran_due sizes flow shards log s ran =
    let all = ran.all in
    sym (channel_ran s log) ∙
    (ap (channel s) ran.answers.ran ∙ ap (channel s) (take_all flow.out (all_pieces flow) (omega (arith, all))))

-- replies came for all commands taken
pub all_come : (sizes : Sizes) (flow : Flow) (shards : List Shard) (log : List Entry) → RanAll sizes flow shards log
    → HasCome flow.shards flow.taken (counts (replies_on log)) (length flow.taken)
all_come sizes flow shards log ran s =
    let es = on_shard s log in
    let is = ap length (ran_due sizes flow shards log s ran) in
    let whole = ap (λ ts. length (due flow.shards s ts)) (take_all (length flow.taken) flow.taken (omega arith)) in
    omega (arith, is, whole, length-map es (λ (entry : Entry). entry.piece), length-map es reply_to)

-- every command taken has its reply
pub all_complete : (sizes : Sizes) (flow : Flow) (shards : List Shard) (log : List Entry) (conn : Conn)
    → IsConn conn flow → RanAll sizes flow shards log → length (all_texts flow) ≡ length flow.taken
all_complete sizes flow shards log conn is ran =
    let complete = (is_sound conn flow is).complete in
    let most = count_from_come flow.shards (length flow.taken) flow.taken flow.accepted (replies_on log) (omega arith)
    ran.answers.fits (all_come sizes flow shards log ran) in
    omega (arith, complete, most)

-- The history whose answers are those accepted has all commands taken.
pub record TellsAll (sizes : Sizes) (flow : Flow) (log : List Entry) (history : List AnsweredCommand) : Type 0 where
  pub same : map taken_of history ≡ flow.taken
  pub texts : all_texts flow ≡ map text_done history
  pub bytes : concat (all_texts flow) ≡ texts_of history
  pub answered : AllByRecursion (IsAnswered flow.shards) history
  pub ran : (s : ℕ) → due.on_shard s (due.log_of flow.shards history)
      ≡ ran_on s (due flow.shards s flow.taken) (replies_on log s)

tells_all : (sizes : Sizes) (flow : Flow) (shards : List Shard) (log : List Entry) (conn : Conn) → IsConn conn flow
    → RanAll sizes flow shards log
    → TellsAll sizes flow log (history_of flow.shards flow.accepted (take (length flow.taken) flow.taken))
tells_all sizes flow shards log conn is ran =
    let count = length flow.taken in
    let t : Tells flow.shards flow.taken flow.accepted (replies_on log) count =
    tells flow.shards count flow.taken flow.accepted (replies_on log) (omega arith) (is_sound conn flow is).may
    ran.answers.fits (all_come sizes flow shards log ran) in
    let whole : take count flow.taken ≡ flow.taken = take_all count flow.taken (omega arith) in
    let complete = all_complete sizes flow shards log conn is ran in
    let texts : take count (all_texts flow) ≡ all_texts flow =
    take_all count (all_texts flow) (omega (arith, complete)) in
    record {
      same = t.same ∙ whole;
      texts = sym texts ∙ t.texts;
      bytes = ap concat (sym texts) ∙ t.bytes;
      answered = t.answered;
      ran = λ s. t.ran s ∙ ap (λ ts. ran_on s (due flow.shards s ts) (replies_on log s)) whole;
    }

-- what the history logs on a shard is what the shard ran
on_shard_is : (sizes : Sizes) (flow : Flow) (shards : List Shard) (log : List Entry) (history : List AnsweredCommand)
    → RanAll sizes flow shards log → TellsAll sizes flow log history → (s : ℕ)
    → due.on_shard s (due.log_of flow.shards history) ≡ map ran_of (on_shard s log)
on_shard_is sizes flow shards log history ran t s =
    let es = on_shard s log in
    t.ran s ∙ rw (← ran_due sizes flow shards log s ran, ← pieces_of_ran es, ← replies_of_ran es)
    (ran_on-same s (map ran_of es) (on_its_shard s log))

-- the keys of the replies are those of what was due
pub keys_fit : (sizes : Sizes) (flow : Flow) (shards : List Shard) (log : List Entry)
    → ShardsAnswered sizes flow shards log → KeysFit flow.shards flow.taken (replies_on log)
keys_fit sizes flow shards log answers = keys_came flow.shards flow.taken (replies_on log) (λ s.
    let es = on_shard s log in
    let front = take flow.out (all_pieces flow) in
    let back = drop flow.out (all_pieces flow) in
    let ran : channel s front ≡ map (λ (r : Ran). r.piece) (map ran_of es) = ap (channel s) (sym answers.ran)
    ∙ (channel_ran s log ∙ sym (pieces_of_ran es)) in
    record {
      ran = map ran_of es;
      rest = channel s back;
      asked =
          ap (channel s) (sym (take-append-drop flow.out (all_pieces flow)))
          ∙ (channel-append s front back ∙ ap (λ ps. ps ++ channel s back) ran);
      replies_are = sym (replies_of_ran es);
    })

-- entries of one line, on a shard
entries_of_ran : (log : List Entry) → AllByRecursion (λ (entry : Entry). entry.asker ≡ 0) log
    → map (entry_of 0) (map ran_of log) ≡ log
entries_of_ran [] mine = refl
entries_of_ran (entry ∷ log) mine =
    λ i. record { shard = entry.shard; asker = sym mine.0 i; piece = entry.piece; answer = entry.answer } ∷
    entries_of_ran log mine.1 i

shard_of_entries : (s : ℕ) (ran : List Ran) → on_shard s (map (entry_of 0) ran) ≡ map (entry_of 0) (due.on_shard s ran)
shard_of_entries s [] = refl
shard_of_entries s (one ∷ ran) = elim (eqb_tells one.shard s) [
  | inl here ↦ rw here.0 (ap (λ es. entry_of 0 one ∷ es) (shard_of_entries s ran))
  | inr there ↦ rw there.0 (shard_of_entries s ran)
]

-- The entries of a line are its own on each shard too.
pub mine_on : (s : ℕ) (log : List Entry) → AllByRecursion (λ (entry : Entry). entry.asker ≡ 0) log
    → AllByRecursion (λ (entry : Entry). entry.asker ≡ 0) (on_shard s log)
mine_on s [] mine = tt
mine_on s (entry ∷ log) mine = elim (eqb_tells entry.shard s) [
  | inl here ↦ rw here.0 (mine.0, mine_on s log mine.1)
  | inr there ↦ rw there.0 (mine_on s log mine.1)
]

-- each entry is on an existing shard, for the only line
owned : (shards : ℕ) (log : List Entry) → AllByRecursion (λ (piece : ℕ × Piece). piece.0 < shards) (map piece_in log)
    → AllByRecursion (λ (entry : Entry). entry.asker ≡ 0) log
    → AllByRecursion (λ (entry : Entry). (entry.shard < shards) × (entry.asker < 1)) log
owned shards [] there mine = tt
owned shards (entry ∷ log) there mine = let asker =
    mine.0 in ((there.0, omega (arith, asker)), owned shards log there.1 mine.1)

parts_there : (shards part : ℕ) (ticket : Ticket) (moment : ℕ) (asked : List ShardOp)
    → AllByRecursion (λ (one : ShardOp). one.shard < shards) asked
    → AllByRecursion (λ (piece : ℕ × Piece). piece.0 < shards) (parts_from part ticket moment asked)
parts_there shards part ticket moment [] all = tt
parts_there shards part ticket moment (one ∷ asked) all =
    (all.0, parts_there shards (part + 1) ticket moment asked all.1)

pieces_there : (shards number : ℕ) (taken : List Taken) → 0 < shards
    → AllByRecursion (λ (piece : ℕ × Piece). piece.0 < shards) (pieces_from shards number taken)
pieces_there shards number [] some = tt
pieces_there shards number (one ∷ taken) some =
    all_append (λ (piece : ℕ × Piece). piece.0 < shards) (pieces_at shards number one)
    (pieces_from shards (number + 1) taken)
    (parts_there shards 0 (ticket_at number) one.moment (pieces_of shards (planned one))
    (pieces_within shards some (planned one)))
    (pieces_there shards (number + 1) taken some)

-- One log explains the line, from its connection's lists and what its shards ran.
pub explains : (sizes : Sizes) (may_answer : ℕ → Type 0) (begin now : Sight) (flow : Flow) (broke : Bool) (commands : ℕ)
    (conn last : Conn) (shards : List Shard) (log : List Entry) → IsConn conn flow → RanAll sizes flow shards log →
    AllByRecursion (λ (one : Taken). may_answer one.moment) flow.taken → commands ≡ length flow.taken
    → IsServed (replies_on log) begin now flow broke last →
    IsExplained sizes may_answer (record { begin = begin; now = now; commands = commands; broke = broke })
explains sizes may_answer begin now flow broke commands conn last shards log is ran moments counted served =
    let answers = ran.answers in
    let history = history_of flow.shards flow.accepted (take (length flow.taken) flow.taken) in
    let t = tells_all sizes flow shards log conn is ran in
    let long = ap length t.same in
    let commands_are : commands_of flow.taken ≡ entries_of history = ap commands_of (sym t.same)
    ∙ map-map (λ (one : Taken). one.entry) taken_of history in
    let story : Story (rules_of sizes) begin now broke (map taken_of history) (map text_done history) =
    rw (← answers.rules_are, t.same, ← t.texts) served.story in
    let answered : AllByRecursion (IsAnswered sizes.shards) history = rw (← answers.same) t.answered in
    let logged : (s : ℕ) → due.on_shard s (due.log_of sizes.shards history) ≡ map ran_of (on_shard s log) =
    λ s. rw (← answers.same) (on_shard_is sizes flow shards log history ran t s) in
    let mine : (s : ℕ) → AllByRecursion (λ (entry : Entry). entry.asker ≡ 0) (on_shard s log) =
    λ s. mine_on s log answers.mine in
    let law = lawful sizes shards log answers.count answers.backs in
    let all = ran.all in
    let whole : take flow.out (all_pieces flow) ≡ all_pieces flow =
    take_all flow.out (all_pieces flow) (omega (arith, all)) in
    let there : AllByRecursion (λ (piece : ℕ × Piece). piece.0 < sizes.shards) (map piece_in log) =
    rw (answers.ran, whole, ← answers.same) (pieces_there flow.shards 0 flow.taken (rw answers.same answers.some)) in
    let goes : Continues sizes.shards (empty_shards sizes) (due.log_of sizes.shards history) = λ s below.
    let run = law s below in
    (run.0, rw (logged s) (run_of (empty_shard sizes s) (on_shard s log) run.0 run.1)) in
    record {
      log = log;
      log_is = record { lawful = law; owned = owned sizes.shards log there answers.mine };
      explained = record {
        history = history;
        story = story;
        reads =
            rw (← answers.rules_are, ← commands_are, ← t.texts) (served.reads (keys_fit sizes flow shards log answers));
        answered = answered;
        moments = all_unmap (λ (one : Taken). may_answer one.moment) taken_of history (rw t.same moments);
        counted = omega (arith, counted, long, length-map history taken_of);
        ran = λ s below.
            all_mine 0 (on_shard s log) (mine s)
            ∙ (sym (entries_of_ran (on_shard s log) (mine s))
            ∙ (ap (map (entry_of 0)) (sym (logged s)) ∙ sym (shard_of_entries s (due.log_of sizes.shards history))));
      };
      alone_is = λ unbroken had.
          let written : story.written ≡ concat (map text_done history) = rw unbroken at story.writes in
          written ∙ (ap concat (sym t.texts)
          ∙ (t.bytes ∙ alone_goes sizes.shards 0 (empty_shards sizes) history answers.some had answered goes));
    }
