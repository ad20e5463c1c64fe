-- A line that is served without threads, turn by turn.
use Rattle.std.proofs.Common.{◌≡◌, ℕ, ◌<◌, ◌≤◌, Bool, List, [], ◌++◌, length, refl, sym, subst, ◌∙◌, arith}
use Rattle.mc_wire.specs.Sink.{Sight}
use Rattle.mc_sizes.specs.Sizes.{rules_of}
use Rattle.mc_sizes.specs.declared.sizes.Sizes.{Sizes}
use Rattle.mc_store.specs.declared.shard.Shard.{Shard}
use Rattle.mc_conn.specs.declared.conn.Conn.{Conn}
use Rattle.mc_conn.specs.Fits.{Fits}
use Rattle.mc_conn.specs.History.{Taken}
use Rattle.mc_conn.specs.Flow.{Flow, all_pieces, new_flow}
use Rattle.mc_conn.proofs.Fitting.{fits_none, fits_take}
use Rattle.mc_conn.proofs.Staying.{is_sound}
use Rattle.mc_model.specs.Log.{Entry}
use Rattle.mc_transport.specs.declared.buffered_conn.BufferedConn.{BufferedConn}
use Rattle.mc_transport.specs.declared.buffered_conn.LineStep.{LineStep}
use Rattle.mc_transport.specs.Explains.{IsExplained}
use Rattle.mc_transport.specs.BufferedConn.{GoOnSays, HasStopped, IsNew, ServesOn, ServiceSays, TakesFor, WasServed}
use Rattle.mc_transport.specs.BufferedConn.{flow_on}
use Rattle.mc_transport.proofs.More.{out_more, with_more}
use Rattle.mc_transport.proofs.Serving.{serving_first, stops_carried}
use Rattle.mc_transport.specs.Place.{Place}
use Rattle.mc_history.specs.Tokens.{Acting}
use Rattle.mc_server.specs.declared.line_history.LineHistory.{LineHistory}
use Rattle.mc_server.specs.internal.Answering.{ShardsAnswered, AnswersAll, Backs}
use Rattle.mc_server.specs.internal.Recording.{IsHistoryOf, IsWhole, replies_on}
use Rattle.mc_server.specs.internal.Turns.{Turns}
use Rattle.mc_server.proofs.Answering.{flow_more}
use Rattle.mc_server.proofs.Explaining.{RanAll, all_complete, explains, keys_fit}
use Rattle.mc_server.proofs.Recording.{history_more, history_placed}

-- commands were taken: the answers so far stay in their places
answers_on : (sizes : Sizes) (flow : Flow) (shards : List Shard) (log : List Entry) (fed : List ℕ) (ended : Bool)
    (handed : ℕ) (more : List Taken) → flow.out ≤ length (all_pieces flow) → ShardsAnswered sizes flow shards log
    → ShardsAnswered sizes (flow_on flow fed ended handed (flow.taken ++ more)) shards log
answers_on sizes flow shards log fed ended handed more within answers = record {
  some = answers.some;
  same = answers.same;
  rules_are = answers.rules_are;
  count = answers.count;
  backs = answers.backs;
  mine = answers.mine;
  ran = answers.ran ∙ out_more flow more within;
  fits =
      with_more (λ taken. Fits flow.shards taken flow.accepted (replies_on log))
      (λ taken one. fits_take flow.shards taken one flow.accepted (replies_on log)) flow.taken more answers.fits;
}

-- bytes were fed, replies handed out and commands taken
turns_on : (sizes : Sizes) (may_answer : ℕ → Type 0) (place : Place) (begin now : Sight) (flow : Flow)
    (buffered_conn : BufferedConn) (shards : List Shard) (log : List Entry) (clerk : Acting) (recorders : List Acting)
    → flow.out ≤ length (all_pieces flow) → ShardsAnswered sizes flow shards log
    → IsHistoryOf sizes place begin flow.taken log clerk recorders
    → ServesOn (replies_on log) may_answer begin now flow buffered_conn
    → Turns sizes may_answer place begin now buffered_conn shards clerk recorders
turns_on sizes may_answer place begin now flow buffered_conn shards log clerk recorders within answers recorded on =
    let P : List Taken → Type 0 =
    λ taken. ShardsAnswered sizes (flow_on flow on.fed on.ended on.handed taken) shards log in
    let R : List Taken → Type 0 = λ taken. IsHistoryOf sizes place begin taken log clerk recorders in
    record {
      flow = flow_on flow on.fed on.ended on.handed on.taken;
      log = log;
      answers =
          subst P (sym on.taken_is) (answers_on sizes flow shards log on.fed on.ended on.handed on.more within answers);
      recorded =
          subst R (sym on.taken_is)
          (history_more sizes place begin flow.taken on.more log clerk recorders recorded);
      stopped = on.stopped;
    }

-- Nothing has happened yet, except that the connection was opened and commands were taken.
pub turns_first : (sizes : Sizes) (may_answer : ℕ → Type 0) (place : Place) (line : Sight) (window : ℕ)
    (buffered_conn after : BufferedConn) (shards : List Shard) (clerk : Acting) (recorders : List Acting)
    → 0 < sizes.shards → length shards ≡ sizes.shards → Backs sizes shards []
    → IsHistoryOf sizes place line [] [] clerk recorders → IsNew sizes.shards (rules_of sizes) window buffered_conn
    → TakesFor may_answer buffered_conn after → Turns sizes may_answer place line line after shards clerk recorders
turns_first sizes may_answer place line window buffered_conn after shards clerk recorders some count backs recorded new
    takes =
    let flow : Flow = new_flow sizes.shards (rules_of sizes) window in
    turns_on sizes may_answer place line line flow after shards [] clerk recorders (omega arith)
    (record {
      some = some;
      same = refl;
      rules_are = refl;
      count = count;
      backs = backs;
      mine = tt;
      ran = refl;
      fits = fits_none sizes.shards;
    })
    recorded
    (takes (replies_on []) line line flow
    (serving_first may_answer line sizes.shards (rules_of sizes) window buffered_conn new)).on

-- all commands taken were answered, and what was run is recorded
pub record Answered (sizes : Sizes) (may_answer : ℕ → Type 0) (place : Place) (begin now : Sight)
    (buffered_conn : BufferedConn) (shards : List Shard) (clerk : Acting) (recorders : List Acting) : Type 0 where
  pub flow : Flow
  pub log : List Entry
  pub stopped : HasStopped (replies_on log) may_answer begin now flow buffered_conn
  pub ran : RanAll sizes flow shards log
  pub recorded : IsWhole sizes place begin flow.taken log clerk recorders

-- Once the shards answer all that is due, every command taken is answered.
pub answers_stop : (sizes : Sizes) (may_answer : ℕ → Type 0) (place : Place) (begin now : Sight)
    (buffered_conn : BufferedConn) (conn : Conn) (shards after : List Shard) (history history' : LineHistory)
    (clerk : Acting) (recorders : List Acting) → AnswersAll buffered_conn.conn shards history conn after history'
    → (turns : Turns sizes may_answer place begin now buffered_conn shards clerk recorders)
    → IsWhole sizes place begin turns.flow.taken turns.log history.clerk history.recorders.items
    → Answered sizes may_answer place begin now (record buffered_conn { conn = conn }) after history'.clerk
    history'.recorders.items
answers_stop sizes may_answer place begin now buffered_conn conn shards after history history' clerk recorders answers
    turns whole =
    let flow = turns.flow in
    let rest = answers sizes place begin flow turns.log turns.stopped.serves.conn_is turns.answers whole in
    let more = rest.0.more in
    let fits = keys_fit sizes flow shards turns.log turns.answers in
    record {
      flow = flow_more flow more;
      log = more.log;
      stopped =
          stops_carried (replies_on turns.log) (replies_on more.log) may_answer begin now flow buffered_conn conn
          more.out more.lent more.accepted (λ _. fits) more.conn_is more.handed turns.stopped;
      ran = record { answers = more.answers; all = rest.1 };
      recorded = rest.0.recorded;
    }

-- What the next step says of a turn whose commands were all answered.
pub turn_said : (sizes : Sizes) (may_answer : ℕ → Type 0) (place : Place) (begin before now : Sight)
    (buffered_conn new : BufferedConn) (shards : List Shard) (clerk : Acting) (recorders : List Acting)
    (did : LineStep)
    → (answered : Answered sizes may_answer place begin before buffered_conn shards clerk recorders)
    → GoOnSays did may_answer buffered_conn before new now
    → ServiceSays did (replies_on answered.log) may_answer begin now answered.flow new
turn_said sizes may_answer place begin before now buffered_conn new shards clerk recorders did answered says =
    says (replies_on answered.log) begin answered.flow answered.stopped
    (λ _. all_complete sizes answered.flow shards answered.log buffered_conn.conn answered.stopped.serves.conn_is
    answered.ran)

-- The line is still served, in its place.
pub turns_go : (sizes : Sizes) (may_answer : ℕ → Type 0) (place place' : Place) (begin before now : Sight)
    (buffered_conn new : BufferedConn) (shards : List Shard) (clerk clerk' : Acting) (recorders : List Acting)
    → (answered : Answered sizes may_answer place begin before buffered_conn shards clerk recorders)
    → place' ≡ place → clerk' ≡ clerk
    → ServesOn (replies_on answered.log) may_answer begin now answered.flow new
    → Turns sizes may_answer place' begin now new shards clerk' recorders
turns_go sizes may_answer place place' begin before now buffered_conn new shards clerk clerk' recorders answered same
    idle on =
    let flow = answered.flow in
    let placed = history_placed sizes place place' begin flow.taken answered.log clerk recorders same
    answered.recorded.is in
    turns_on sizes may_answer place' begin now flow new shards answered.log clerk' recorders
    (is_sound buffered_conn.conn flow answered.stopped.serves.conn_is).out answered.ran.answers
    (subst (λ (k : Acting). IsHistoryOf sizes place' begin flow.taken answered.log k recorders) (sym idle) placed) on

-- The line was served.
pub turn_ends : (sizes : Sizes) (may_answer : ℕ → Type 0) (place : Place) (begin before now : Sight)
    (buffered_conn last : BufferedConn) (shards : List Shard) (clerk : Acting) (recorders : List Acting)
    (commands : ℕ) (broke : Bool)
    → (answered : Answered sizes may_answer place begin before buffered_conn shards clerk recorders)
    → WasServed (replies_on answered.log) begin now answered.flow broke commands last →
    IsExplained sizes may_answer (record { begin = begin; now = now; commands = commands; broke = broke })
turn_ends sizes may_answer place begin before now buffered_conn last shards clerk recorders commands broke answered
    was =
    explains sizes may_answer begin now answered.flow broke commands buffered_conn.conn last.conn shards answered.log
    answered.stopped.serves.conn_is answered.ran answered.stopped.serves.moments was.counted was.served
