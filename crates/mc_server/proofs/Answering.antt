-- The pieces that are due are run one after another, and each answer is expected.
use Rattle.std.proofs.Common.{◌≡◌, ℕ, ◌+◌, ◌-◌, ◌<◌, inl, inr, true, List, ◌∷◌, [], ◌++◌, ◌==◌, length, map, take, set}
use Rattle.std.proofs.Common.{Some, refl, sym, ap, subst, ◌∙◌, arith, length-drop}
use Rattle.std.specs.List.{slice_get}
use Rattle.std.proofs.lemmas.Bool.{cases_Bool, cases_lt}
use Rattle.std.proofs.lemmas.List.{length-map, length-set, map-append}
use Rattle.std.proofs.lemmas.Option.{slice_get_within}
use Rattle.mc_wire.specs.Sink.{Sight}
use Rattle.mc_sizes.specs.declared.sizes.Sizes.{Sizes}
use Rattle.mc_item.specs.declared.answer.Answer.{Answer}
use Rattle.mc_item.specs.declared.answer.Kind.{Kind}
use Rattle.mc_item.specs.Kind.{kind_of}
use Rattle.mc_ring.specs.Reply.{Shown}
use Rattle.mc_split.specs.declared.plan.Piece.{Piece}
use Rattle.mc_store.specs.declared.shard.Shard.{Shard}
use Rattle.mc_store.specs.Shard.{Steps}
use Rattle.mc_conn.specs.declared.conn.Conn.{Conn}
use Rattle.mc_conn.specs.Conn.{IsConn}
use Rattle.mc_conn.specs.internal.Inside.{put_first}
use Rattle.mc_conn.specs.Due.{due, channel}
use Rattle.mc_join.specs.Expects.{Expects}
use Rattle.mc_conn.specs.Fits.{ReceivesFromShard}
use Rattle.mc_conn.specs.Flow.{Flow, all_pending_replies, all_pieces}
use Rattle.mc_conn.proofs.Counting.{due_beyond}
use Rattle.mc_conn.proofs.Fitting.{next_expected, next_fits}
use Rattle.mc_conn.proofs.Places.{channel_there}
use Rattle.mc_conn.proofs.Staying.{is_sound, keeps_accept}
use Rattle.mc_model.specs.Log.{Entry, on_shard, pieces_in, replies_in, reply_to}
use Rattle.mc_model.proofs.Lists.{take_next}
use Rattle.mc_model.proofs.Logs.{on_shard-no, on_shard-yes}
use Rattle.mc_server.specs.internal.Answering.{ShardsAnswered, AnswersMore, RecordsMore, piece_in}
use Rattle.mc_server.specs.internal.Recording.{CanNoteRun, IsWhole, entry_for, replies_on}
use Rattle.mc_server.proofs.Backing.{Backs-push}
use Rattle.mc_history.specs.Tokens.{Acting}
use Rattle.mc_transport.specs.Place.{Place}
use Rattle.mc_transport.proofs.Along.{keeps_trans}
use Rattle.mc_ring.proofs.Lists.{all_push}

-- the reply to an entry, as it is made
pub reply_is : (place : ℕ) (piece : Piece) (answer : Answer) (kind : Kind) (reply : Shown) → reply
    ≡ record { ticket = piece.ticket; part = piece.part; kind = kind; answer = answer } → kind ≡ kind_of piece.op
    → reply ≡ reply_to (entry_for place piece answer)
reply_is place piece answer kind reply made same =
    made ∙ ap (λ (k : Kind). record { ticket = piece.ticket; part = piece.part; kind = k; answer = answer }) same

-- the pieces that a shard ran are those of its channel
pub channel_ran : (s : ℕ) (log : List Entry) → channel s (map piece_in log) ≡ pieces_in (on_shard s log)
channel_ran s [] = refl
channel_ran s (entry ∷ log) = elim (cases_Bool (entry.shard == s)) [
  | inl here ↦ rw here (ap (λ ps. entry.piece ∷ ps) (channel_ran s log))
  | inr there ↦ rw there (channel_ran s log)
]

-- the next piece that is out is the next one that is due at its shard
next_due : (sizes : Sizes) (flow : Flow) (shards : List Shard) (log : List Entry) (place : ℕ) (piece : Piece)
    → ShardsAnswered sizes flow shards log → slice_get (all_pieces flow) flow.out ≡ Some (place, piece)
    → slice_get (due flow.shards place flow.taken) (length (replies_on log place)) ≡ Some piece
next_due sizes flow shards log place piece answers next =
    let es = on_shard place log in
    let ran : channel place (take flow.out (all_pieces flow)) ≡ pieces_in es = ap (channel place) (sym answers.ran)
    ∙ channel_ran place log in
    let same : length (replies_on log place) ≡ length (channel place (take flow.out (all_pieces flow))) =
    omega (arith, ap length ran, length-map es (λ (entry : Entry). entry.piece), length-map es reply_to) in
    rw same (channel_there place (all_pieces flow) flow.out piece next)

-- a shard gave one reply more
receives_entry : (log : List Entry) (entry : Entry)
    → ReceivesFromShard (replies_on log) entry.shard (reply_to entry) (replies_on (log ++ entry ∷ []))
receives_entry log entry = record {
  here =
      ap replies_in (on_shard-yes entry.shard log entry refl)
      ∙ map-append reply_to (on_shard entry.shard log) (entry ∷ []);
  others = λ k other. ap replies_in (on_shard-no k log entry (λ e. other (sym e)));
}

-- the next piece was run, and its answer accepted
answers_next : (sizes : Sizes) (flow : Flow) (shards : List Shard) (log : List Entry) (place : ℕ) (piece : Piece)
    (answer : Answer) (was shard : Shard) → ShardsAnswered sizes flow shards log → slice_get (all_pieces flow) flow.out
    ≡ Some (place, piece) →
    slice_get shards place ≡ Some was → Steps was piece.op piece.moment answer shard →
    ShardsAnswered sizes (record flow
    { out = flow.out + 1; lent = true; accepted = flow.accepted ++ reply_to (entry_for place piece answer) ∷ [] }) (set
    shards place shard) (log ++ entry_for place piece answer ∷ [])
answers_next sizes flow shards log place piece answer was shard answers next got steps =
    let entry = entry_for place piece answer in
    record {
      some = answers.some;
      same = answers.same;
      rules_are = answers.rules_are;
      count = length-set shards place shard ∙ answers.count;
      backs = Backs-push sizes shards log was shard entry got answers.backs steps;
      mine = all_push (λ (e : Entry). e.asker ≡ 0) log entry answers.mine refl;
      ran =
          map-append piece_in log (entry ∷ [])
          ∙ (ap (λ ps. ps ++ (place, piece) ∷ []) answers.ran
          ∙ sym (take_next flow.out (all_pieces flow) (place, piece) next));
      fits =
          next_fits flow.shards place flow.taken flow.accepted (replies_on log) (replies_on (log ++ entry ∷ [])) piece
          (reply_to entry) answers.fits
          (next_due sizes flow shards log place piece answers next) (record { ticket = refl; part = refl; kind = refl })
          (receives_entry log entry);
    }

-- before any of them is run
pub more_none : (sizes : Sizes) (flow : Flow) (conn : Conn) (shards : List Shard) (log : List Entry) → IsConn conn flow
    → ShardsAnswered sizes flow shards log → AnswersMore sizes flow conn shards
more_none sizes flow conn shards log is answers = record {
  out = flow.out;
  lent = flow.lent;
  accepted = flow.accepted;
  log = log;
  conn_is = is;
  answers = answers;
  handed = record { within = (is_sound conn flow is).handed; same = refl };
}

-- what is known once these pieces are answered
abbrev pub flow_more : {sizes : Sizes} {conn : Conn} {shards : List Shard} (flow : Flow)
    → AnswersMore sizes flow conn shards → Flow
flow_more flow more = record flow { out = more.out; lent = more.lent; accepted = more.accepted }

-- and once the next one is out
abbrev pub flow_next : {sizes : Sizes} {conn : Conn} {shards : List Shard} (flow : Flow)
    → AnswersMore sizes flow conn shards → Flow
flow_next flow more = record flow { out = more.out + 1; lent = true; accepted = more.accepted }

-- what is known once the next piece is out
pub record IsNext (sizes : Sizes) (flow : Flow) (conn : Conn) (shards : List Shard) (place : ℕ) (piece : Piece)
    (sent : Conn) : Type 0 where
  pub more : AnswersMore sizes flow conn shards
  pub here : slice_get (all_pieces flow) more.out ≡ Some (place, piece)
  pub sent_is : IsConn sent (flow_next flow more)

-- by the contract of the call that took it out
abbrev pub is_next : (sizes : Sizes) (flow : Flow) (conn sent : Conn) (shards : List Shard) (place : ℕ) (piece : Piece)
    → AnswersMore sizes flow conn shards →
    ((now : Flow) → IsConn conn now → (slice_get (all_pieces now) now.out ≡ Some (place, piece))
    × IsConn sent (record now { out = now.out + 1; lent = true })) → IsNext sizes flow conn shards place piece sent
is_next sizes flow conn sent shards place piece more gives =
    let next = gives (flow_more flow more) more.conn_is in
    record { more = more; here = next.0; sent_is = next.1 }

-- its shard exists
pub place_there : (sizes : Sizes) (flow : Flow) (conn sent : Conn) (shards : List Shard) (place : ℕ) (piece : Piece)
    → IsNext sizes flow conn shards place piece sent → place < length shards
place_there sizes flow conn sent shards place piece next =
    let answers = next.more.answers in
    let some = answers.some in
    let same = answers.same in
    let count = answers.count in
    elim (cases_lt place flow.shards) [
      | inl below ↦ omega (arith, below, same, count)
      | inr beyond ↦
          let found = next_due sizes (flow_more flow next.more) shards next.more.log place piece answers next.here in
          let nothing = rw (due_beyond flow.shards place flow.taken (omega (arith, some, same)) beyond) at found in
          absurd (cc)
    ]

-- the next piece was run and its answer accepted, by the contracts of the calls
pub more_step : (sizes : Sizes) (flow : Flow) (conn sent new : Conn) (shards : List Shard) (place : ℕ) (piece : Piece)
    (answer : Answer) (was shard : Shard) (reply : Shown) → (next : IsNext sizes flow conn shards place piece sent)
    → slice_get shards place ≡ Some was → Steps was piece.op piece.moment answer shard → reply
    ≡ reply_to (entry_for place piece answer) →
    (IsConn sent (flow_next flow next.more) → Expects (all_pending_replies flow) next.more.accepted reply
    × IsConn new (record (flow_next flow next.more) { accepted = next.more.accepted ++ reply ∷ [] })) →
    AnswersMore sizes flow new (set shards place shard)
more_step sizes flow conn sent new shards place piece answer was shard reply next got steps same accepts =
    let more = next.more in
    let entry = entry_for place piece answer in
    let out : Flow = flow_next flow more in
    let later : Flow = record out { accepted = more.accepted ++ reply_to entry ∷ [] } in
    let P : Shown → Type 0 = λ r. Expects (all_pending_replies out) out.accepted r
    × IsConn new (record out { accepted = out.accepted ++ r ∷ [] }) in
    let accepted = subst P same (accepts next.sent_is) in
    record {
      out = more.out + 1;
      lent = true;
      accepted = more.accepted ++ reply_to entry ∷ [];
      log = more.log ++ entry ∷ [];
      conn_is = accepted.1;
      answers =
          answers_next sizes (flow_more flow more) shards more.log place piece answer was shard more.answers next.here
          got steps;
      handed =
          keeps_trans flow out later refl (record { within = more.handed.within; same = more.handed.same })
          (keeps_accept sent out (reply_to entry) next.sent_is accepted.0);
    }

-- the answer is expected, so it is not returned
pub never_strange : (sizes : Sizes) (flow : Flow) (conn sent : Conn) (shards : List Shard) (place : ℕ) (piece : Piece)
    (answer : Answer) (reply : Shown) → (next : IsNext sizes flow conn shards place piece sent) → reply
    ≡ reply_to (entry_for place piece answer) →
    (IsConn sent (flow_next flow next.more) → Expects (all_pending_replies flow) next.more.accepted reply → ⊥) → ⊥
never_strange sizes flow conn sent shards place piece answer reply next same refuses =
    let more = next.more in
    let expects = next_expected flow.shards place flow.taken more.accepted (replies_on more.log) piece
    (reply_to (entry_for place piece answer)) more.answers.fits
    (next_due sizes (flow_more flow more) shards more.log place piece more.answers next.here)
    (record { ticket = refl; part = refl; kind = refl }) in
    let P : Shown → Type 0 = λ r. Expects (all_pending_replies flow) more.accepted r in
    refuses next.sent_is (subst P (sym same) expects)

-- how many pieces are not out
abbrev pub unsent_count : Conn → ℕ
unsent_count conn = length (put_first conn.put_back conn.dispatcher.unsent.items)

unsent_is : (conn : Conn) (flow : Flow) → IsConn conn flow → unsent_count conn ≡ length (all_pieces flow) - flow.out
unfolding IsConn
unsent_is conn flow is = ap length is.unsent ∙ length-drop flow.out (all_pieces flow)

-- one piece less is left
pub one_less : (sizes : Sizes) (flow : Flow) (conn sent new : Conn) (shards : List Shard) (place : ℕ) (piece : Piece)
    (accepted : List Shown) → (next : IsNext sizes flow conn shards place piece sent)
    → IsConn new (record (flow_next flow next.more) { accepted = accepted }) → unsent_count new < unsent_count conn
one_less sizes flow conn sent new shards place piece accepted next now =
    let before : unsent_count conn ≡ length (all_pieces flow) - next.more.out =
    unsent_is conn (flow_more flow next.more) next.more.conn_is in
    let after : unsent_count new ≡ length (all_pieces flow) - (next.more.out + 1) =
    unsent_is new (record (flow_next flow next.more) { accepted = accepted }) now in
    let below = slice_get_within (all_pieces flow) next.more.out (place, piece) next.here in
    omega (arith, before, after, below)

-- before any of them is run, with all that was taken recorded
pub records_none : (sizes : Sizes) (place : Place) (begin : Sight) (flow : Flow) (conn : Conn) (shards : List Shard)
    (log : List Entry) (clerk : Acting) (recorders : List Acting) → IsConn conn flow
    → ShardsAnswered sizes flow shards log → IsWhole sizes place begin flow.taken log clerk recorders
    → RecordsMore sizes place begin flow conn shards clerk recorders
unfolding more_none
records_none sizes place begin flow conn shards log clerk recorders is answers whole =
    record { more = more_none sizes flow conn shards log is answers; recorded = whole }

-- what the call that took the next piece out says
abbrev pub Gives : Conn → Conn → ℕ → Piece → Type 0
Gives conn sent one piece =
    (now : Flow) → IsConn conn now → (slice_get (all_pieces now) now.out ≡ Some (one, piece))
    × IsConn sent (record now { out = now.out + 1; lent = true })

-- The reply shows the entry that it answers.
pub entry_is : (one : ℕ) (piece sent : Piece) (answer : Answer) (reply : Shown) → sent ≡ piece → reply
    ≡ reply_to (entry_for one piece answer) → entry_for one sent reply.answer ≡ entry_for one piece answer
entry_is one piece sent answer reply same is =
    ap (λ p. entry_for one p reply.answer) same ∙ ap (λ (r : Shown). entry_for one piece r.answer) is

-- the next piece was run and recorded, and its answer accepted
pub records_step : (sizes : Sizes) (place : Place) (begin : Sight) (flow : Flow) (conn sent new : Conn)
    (shards : List Shard) (one : ℕ) (piece : Piece) (answer : Answer) (was shard : Shard) (reply : Shown)
    (clerk clerk' : Acting) (recorders recorders' : List Acting) (entry : Entry)
    → (records : RecordsMore sizes place begin flow conn shards clerk recorders)
    → Gives conn sent one piece → slice_get shards one ≡ Some was
    → Steps was piece.op piece.moment answer shard → reply ≡ reply_to (entry_for one piece answer) →
    (IsConn sent (flow_next flow records.more) → Expects (all_pending_replies flow) records.more.accepted reply
    × IsConn new (record (flow_next flow records.more) { accepted = records.more.accepted ++ reply ∷ [] })) →
    entry ≡ entry_for one piece answer
    → IsWhole sizes place begin flow.taken (records.more.log ++ entry ∷ []) clerk' recorders'
    → RecordsMore sizes place begin flow new (set shards one shard) clerk' recorders'
unfolding more_step
records_step sizes place begin flow conn sent new shards one piece answer was shard reply clerk clerk' recorders
    recorders' entry records gives got steps is accepts entry_is whole =
    let next = is_next sizes flow conn sent shards one piece records.more gives in
    record {
      more = more_step sizes flow conn sent new shards one piece answer was shard reply next got steps is accepts;
      recorded =
          subst (λ (e : Entry). IsWhole sizes place begin flow.taken (records.more.log ++ e ∷ []) clerk' recorders')
          entry_is whole;
    }

-- what is known before the next piece is recorded
pub can_note : (sizes : Sizes) (place : Place) (begin : Sight) (flow : Flow) (conn sent : Conn) (shards : List Shard)
    (one : ℕ) (piece : Piece) (answer : Answer) (was shard : Shard) (clerk : Acting) (recorders : List Acting)
    → (records : RecordsMore sizes place begin flow conn shards clerk recorders) → Gives conn sent one piece
    → slice_get shards one ≡ Some was → Steps was piece.op piece.moment answer shard
    → (piece' : Piece) (answer' : Answer) → entry_for one piece' answer' ≡ entry_for one piece answer
    → CanNoteRun clerk recorders one piece' answer'
can_note sizes place begin flow conn sent shards one piece answer was shard clerk recorders records gives got steps
    piece' answer' same =
    let more = records.more in
    let answers = more.answers in
    let next = is_next sizes flow conn sent shards one piece more gives in
    let below = place_there sizes flow conn sent shards one piece next in
    let count = answers.count in
    let due_is = next_due sizes (flow_more flow more) shards more.log one piece answers next.here in
    let state = answers.backs one was got in
    let after = steps state.0 state.2 in
    subst (λ (e : Entry). CanNoteRun clerk recorders one e.piece e.answer) (sym same) (record {
      sizes = sizes;
      place = place;
      begin = begin;
      taken = flow.taken;
      log = more.log;
      recorded = records.recorded;
      mine = answers.mine;
      there = omega (arith, below, count);
      next =
          ap (λ n. slice_get (due n one flow.taken) (length (on_shard one more.log))) (sym answers.same)
          ∙ (ap (λ n. slice_get (due flow.shards one flow.taken) n)
          (sym (length-map (on_shard one more.log) reply_to)) ∙ due_is);
      runs = record { before = state.0; after = after.0; ran = state.1; step = after.1 };
    })
