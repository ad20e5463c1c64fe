-- What the history of one line says, step by step.
use Rattle.std.proofs.Common.{◌≡◌, ℕ, ◌<◌, inl, inr, List, [], ◌∷◌, ◌++◌, length, map, set, Some, refl, sym, ap, subst}
use Rattle.std.proofs.Common.{◌∙◌, append-nil, length-append, arith}
use Rattle.std.specs.List.{AllByRecursion, slice_get}
use Rattle.std.proofs.lemmas.Bool.Decides.{eqb_tells}
use Rattle.std.proofs.lemmas.List.{length-map, length-set, map-append}
use Rattle.std.proofs.lemmas.Option.{same_Some}
use Rattle.mc_wire.specs.Sink.{Sight}
use Rattle.mc_sizes.specs.declared.sizes.Sizes.{Sizes}
use Rattle.mc_item.specs.declared.answer.Answer.{Answer}
use Rattle.mc_split.specs.declared.plan.Piece.{Piece}
use Rattle.mc_ring.proofs.Lists.{all_push, get_last}
use Rattle.mc_ring.specs.declared.request.Request.TheVariants as request
use Rattle.mc_ring.specs.Reply.{Shown}
use Rattle.mc_ring.specs.Route.{Route}
use Rattle.mc_conn.specs.declared.conn.Conn.{Conn}
use Rattle.mc_conn.specs.Conn.{IsConn, taken_by}
use Rattle.mc_conn.specs.Due.{due}
use Rattle.mc_conn.specs.History.{MayBeTaken, Taken, carried_out}
use Rattle.mc_conn.specs.Flow.{Flow}
use Rattle.mc_conn.proofs.Logged.{due_carried, log_is, may_carried}
use Rattle.mc_model.specs.Grows.{Lengthens}
use Rattle.mc_model.specs.Log.{Entry, of_asker, on_shard, pieces_in, replies_in, reply_to}
use Rattle.mc_model.specs.Sized.{empty_shard}
use Rattle.mc_model.proofs.Alone.{all_mine}
use Rattle.mc_model.proofs.Growing.{further}
use Rattle.mc_model.proofs.Lists.{set_cases}
use Rattle.mc_model.proofs.Logs.{on_shard-no, on_shard-yes}
use Rattle.mc_transport.specs.Clerk.{AddsWork}
use Rattle.mc_transport.specs.Place.{Place}
use Rattle.mc_worker.specs.Scribe.{Runs}
use Rattle.mc_history.specs.declared.knowledge.Role.TheVariants.{Seat as of_seat}
use Rattle.mc_history.specs.Tokens.{Acting}
use Rattle.mc_record.specs.Clerk.{HasOpened, answers_at, place_of, taken_now, work_at}
use Rattle.mc_record.specs.Opening.{IsOpening}
use Rattle.mc_record.specs.Recorder.{log_in, shard_of}
use Rattle.mc_server.specs.internal.Recording.{CanNoteRun, IsFresh, IsHistoryOf, IsRecorderOf, IsWhole, entry_for}
use Rattle.mc_server.specs.internal.Recording.{replies_on, route_from, route_to}
use Rattle.mc_server.proofs.Explaining.{mine_on}

-- The one clerk is that of the first slot.
pub one_clerk : (recorders clerks rest : List Acting) (witness clerk : Acting)
    → IsOpening witness.name.sizes recorders clerks witness → witness.name.sizes.seats ≡ 1
    → clerks ≡ rest ++ clerk ∷ [] → clerk ≡ record { name = witness.name; role = of_seat 0; events = [] }
one_clerk recorders clerks rest witness clerk opening one is =
    let last : slice_get clerks (length rest) ≡ Some clerk = ap (λ cs. slice_get cs (length rest)) is
    ∙ get_last rest clerk in
    let counted = opening.clerks_are.counted in
    let first : length rest ≡ 0 = omega (arith, ap length is, length-append rest (clerk ∷ []), counted, one) in
    opening.clerks_are.each (length rest) clerk last
    ∙ ap (λ n. record { name = witness.name; role = of_seat n; events = [] }) first

-- Nothing has happened in the history that was opened for one slot.
pub fresh_opened : (recorders clerks rest : List Acting) (witness clerk : Acting)
    → IsOpening witness.name.sizes recorders clerks witness → witness.name.sizes.seats ≡ 1
    → clerks ≡ rest ++ clerk ∷ [] → IsFresh witness.name.sizes clerk recorders
fresh_opened recorders clerks rest witness clerk opening one is = record {
  name = witness.name;
  sizes_are = refl;
  clerk_is = one_clerk recorders clerks rest witness clerk opening one is;
  recorders_are = opening.recorders_are;
}

-- The clerk has opened the line's connection in a history in which nothing has happened.
pub history_begins : (sizes : Sizes) (place : Place) (begin : Sight) (clerk clerk' : Acting) (recorders : List Acting)
    → IsFresh sizes clerk recorders → HasOpened clerk' → place ≡ place_of clerk' begin → taken_now clerk' ≡ []
    → ((shard : ℕ) → work_at clerk' shard ≡ work_at clerk shard) → route_to clerk' ≡ route_to clerk
    → IsHistoryOf sizes place begin [] [] clerk' recorders
history_begins sizes place begin clerk clerk' recorders fresh opened placed none works route = record {
  opened = opened;
  sizes_are =
      ap (λ (r : ℕ → Route). (r 0).name.sizes) route
      ∙ (ap (λ (a : Acting). a.name.sizes) fresh.clerk_is ∙ fresh.sizes_are);
  placed = placed;
  begins = ([], sym (ap (λ ts. ts ++ []) none));
  work_is = λ shard.
      works shard ∙ (ap (λ (a : Acting). work_at a shard) fresh.clerk_is
      ∙ ap (due sizes.shards shard) (sym none));
  came = λ shard. (answers_at clerk' shard, refl);
  count = fresh.recorders_are.counted;
  each = λ shard recorder here.
      let is = fresh.recorders_are.each shard recorder here in
      record {
        route =
            ap route_from is
            ∙ (ap (λ (a : Acting). route_to a shard) (sym fresh.clerk_is)
            ∙ ap (λ (r : ℕ → Route). r shard) (sym route));
        ran = ap log_in is;
      };
}

-- What a clerk with the same channels says of the recorders is the same.
recorders_same : (clerk clerk' : Acting) (recorders : List Acting) (log : List Entry) → route_to clerk'
    ≡ route_to clerk
    → ((shard : ℕ) (recorder : Acting) → slice_get recorders shard ≡ Some recorder
    → IsRecorderOf clerk shard log recorder)
    → (shard : ℕ) (recorder : Acting) → slice_get recorders shard ≡ Some recorder
    → IsRecorderOf clerk' shard log recorder
recorders_same clerk clerk' recorders log route each shard recorder here =
    let was = each shard recorder here in
    record { route = was.route ∙ ap (λ (r : ℕ → Route). r shard) (sym route); ran = was.ran }

-- the sizes of the server, by a clerk with the same channels
sizes_same : (sizes : Sizes) (clerk clerk' : Acting) → route_to clerk' ≡ route_to clerk → clerk.name.sizes ≡ sizes
    → clerk'.name.sizes ≡ sizes
sizes_same sizes clerk clerk' route are = ap (λ (r : ℕ → Route). (r 0).name.sizes) route ∙ are

-- Of what the connection took the clerk has recorded the first.
pub taken_begin : (sizes : Sizes) (place : Place) (begin : Sight) (flow : Flow) (log : List Entry) (clerk : Acting)
    (recorders : List Acting) (conn : Conn) → IsConn conn flow
    → IsHistoryOf sizes place begin flow.taken log clerk recorders → Lengthens (taken_now clerk) (taken_by conn)
taken_begin sizes place begin flow log clerk recorders conn is was =
    subst (λ l. Lengthens (taken_now clerk) l) (sym (log_is conn flow is)) was.begins

-- Each of these commands may be taken.
pub taken_may : (flow : Flow) (conn : Conn) → IsConn conn flow → AllByRecursion MayBeTaken (taken_by conn)
taken_may flow conn is = subst (AllByRecursion MayBeTaken) (sym (log_is conn flow is)) (may_carried flow.taken)

-- The clerk has recorded all that the connection took.
pub history_noted : (sizes : Sizes) (place : Place) (begin : Sight) (flow : Flow) (log : List Entry)
    (clerk clerk' : Acting) (recorders : List Acting) (conn : Conn) → IsConn conn flow
    → IsHistoryOf sizes place begin flow.taken log clerk recorders → HasOpened clerk' → taken_now clerk'
    ≡ taken_by conn
    → ((shard : ℕ) → AddsWork clerk.name.sizes.shards shard (taken_now clerk) (taken_now clerk') (work_at clerk shard)
    (work_at clerk' shard)) → ((shard : ℕ) → Lengthens (answers_at clerk shard) (answers_at clerk' shard))
    → route_to clerk' ≡ route_to clerk → place_of clerk' ≡ place_of clerk
    → IsWhole sizes place begin flow.taken log clerk' recorders
history_noted sizes place begin flow log clerk clerk' recorders conn conn_is was opened takes adds grows route same =
    let all : taken_now clerk' ≡ map carried_out flow.taken = takes ∙ log_is conn flow conn_is in
    record {
      is = record {
        opened = opened;
        sizes_are = sizes_same sizes clerk clerk' route was.sizes_are;
        placed = was.placed ∙ ap (λ (p : Sight → Place). p begin) (sym same);
        begins = ([], sym all ∙ sym (append-nil (taken_now clerk')));
        work_is = λ shard.
            let add = subst (λ (s : Sizes). AddsWork s.shards shard (taken_now clerk) (taken_now clerk')
            (work_at clerk shard) (work_at clerk' shard)) was.sizes_are (adds shard) in
            add.work_is ∙ (ap (λ ps. ps ++ add.added) (was.work_is shard) ∙ sym add.due_is);
        came = λ shard.
            further (replies_on log shard) (answers_at clerk shard) (answers_at clerk' shard) (was.came shard)
            (grows shard);
        count = was.count;
        each = recorders_same clerk clerk' recorders log route was.each;
      };
      all = all;
    }

-- More commands were taken, which aren't recorded yet.
pub history_more : (sizes : Sizes) (place : Place) (begin : Sight) (taken more : List Taken) (log : List Entry)
    (clerk : Acting) (recorders : List Acting) → IsHistoryOf sizes place begin taken log clerk recorders
    → IsHistoryOf sizes place begin (taken ++ more) log clerk recorders
history_more sizes place begin taken more log clerk recorders was = record {
  opened = was.opened;
  sizes_are = was.sizes_are;
  placed = was.placed;
  begins =
      further (taken_now clerk) (map carried_out taken) (map carried_out (taken ++ more)) was.begins
      (map carried_out more, map-append carried_out taken more);
  work_is = was.work_is;
  came = was.came;
  count = was.count;
  each = was.each;
}

-- The line is in its place still.
pub history_placed : (sizes : Sizes) (place place' : Place) (begin : Sight) (taken : List Taken) (log : List Entry)
    (clerk : Acting) (recorders : List Acting) → place' ≡ place
    → IsHistoryOf sizes place begin taken log clerk recorders
    → IsHistoryOf sizes place' begin taken log clerk recorders
history_placed sizes place place' begin taken log clerk recorders same was =
    subst (λ p. IsHistoryOf sizes p begin taken log clerk recorders) (sym same) was

-- what a recorder has of the slot is all that it has
all_of_slot : (shard : ℕ) (log : List Entry) → AllByRecursion (λ (entry : Entry). entry.asker ≡ 0) log
    → of_asker 0 (on_shard shard log) ≡ on_shard shard log
all_of_slot shard log mine = all_mine 0 (on_shard shard log) (mine_on shard log mine)

-- The piece that was run is due in the next place of its channel.
pub run_due : (clerk : Acting) (recorders : List Acting) (shard : ℕ) (piece : Piece) (answer : Answer)
    (recorder : Acting) → CanNoteRun clerk recorders shard piece answer
    → slice_get recorders shard ≡ Some recorder
    → slice_get (work_at clerk shard) (length (map request.Piece (pieces_in (of_asker 0 (log_in recorder)))))
    ≡ Some piece
run_due clerk recorders shard piece answer recorder can here =
    let own = can.recorded.is.each shard recorder here in
    let log = on_shard shard can.log in
    let works : work_at clerk shard ≡ due can.sizes.shards shard can.taken = can.recorded.is.work_is shard
    ∙ (ap (due can.sizes.shards shard) can.recorded.all ∙ due_carried can.sizes.shards shard can.taken) in
    let slot : of_asker 0 (log_in recorder) ≡ log = ap (of_asker 0) own.ran ∙ all_of_slot shard can.log can.mine in
    let count : length (map request.Piece (pieces_in (of_asker 0 (log_in recorder)))) ≡ length log =
    length-map (pieces_in (of_asker 0 (log_in recorder))) request.Piece
    ∙ (length-map (of_asker 0 (log_in recorder)) (λ (entry : Entry). entry.piece) ∙ ap length slot) in
    ap (λ ps. slice_get ps (length (map request.Piece (pieces_in (of_asker 0 (log_in recorder)))))) works
    ∙ (ap (λ n. slice_get (due can.sizes.shards shard can.taken) n) count ∙ can.next)

-- The answer is the protocol's after all that the recorder has.
pub run_steps : (clerk : Acting) (recorders : List Acting) (shard : ℕ) (piece : Piece) (answer : Answer)
    (recorder : Acting) → CanNoteRun clerk recorders shard piece answer
    → slice_get recorders shard ≡ Some recorder
    → Runs (empty_shard recorder.name.sizes (shard_of recorder.role)) (log_in recorder) piece answer
run_steps clerk recorders shard piece answer recorder can here =
    let own = can.recorded.is.each shard recorder here in
    let sizes : recorder.name.sizes ≡ can.sizes = ap (λ (r : Route). r.name.sizes) own.route
    ∙ can.recorded.is.sizes_are in
    let number : shard_of recorder.role ≡ shard = ap (λ (r : Route). r.shard) own.route in
    let log = on_shard shard can.log in
    subst (λ (es : List Entry). Runs (empty_shard recorder.name.sizes (shard_of recorder.role)) es piece answer)
    (sym own.ran)
    (subst (λ (n : ℕ). Runs (empty_shard recorder.name.sizes n) log piece answer) (sym number)
    (subst (λ (s : Sizes). Runs (empty_shard s shard) log piece answer) (sym sizes) can.runs))

-- The reply to a piece that was run and recorded is the next one of its shard.
pub reply_next : (shard : ℕ) (log old run : List Entry) (entry : Entry) (reply : Shown)
    → AllByRecursion (λ (e : Entry). e.asker ≡ 0) log → entry.asker ≡ 0 → old ≡ on_shard shard log → run ≡ old
    ++ entry ∷ [] → reply ≡ reply_to entry
    → slice_get (replies_in (of_asker 0 run)) (length (replies_on log shard)) ≡ Some reply
reply_next shard log old run entry reply mine own was more same =
    let is : run ≡ on_shard shard log ++ entry ∷ [] = more ∙ ap (λ es. es ++ entry ∷ []) was in
    let front = on_shard shard log in
    let all : of_asker 0 run ≡ front ++ entry ∷ [] = ap (of_asker 0) is
    ∙ all_mine 0 (front ++ entry ∷ []) (all_push (λ (e : Entry). e.asker ≡ 0) front entry (mine_on shard log mine) own)
    in
    ap (λ es. slice_get (replies_in es) (length (replies_in front))) all
    ∙ (ap (λ rs. slice_get rs (length (replies_in front))) (map-append reply_to front (entry ∷ []))
    ∙ (get_last (replies_in front) (reply_to entry) ∙ ap (λ (r : Shown). Some r) (sym same)))

-- what is behind the first of a list, where it is known
behind_first : {X : Type 0} (xs more ys : List X) (y : X) → ys ≡ xs ++ more → slice_get ys (length xs) ≡ Some y
    → Lengthens (xs ++ y ∷ []) ys
behind_first [] [] ys y is here = absurd (cc (sym (ap (λ l. slice_get l 0) is) ∙ here))
behind_first [] (z ∷ more) ys y is here =
    (more, is ∙ ap (λ w. w ∷ more) (same_Some z y (sym (ap (λ l. slice_get l 0) is) ∙ here)))
behind_first (x ∷ xs) more ys y is here =
    let rest = behind_first xs more (xs ++ more) y refl
    (sym (ap (λ l. slice_get l (length (x ∷ xs))) is) ∙ here) in (rest.0, is ∙ ap (λ l. x ∷ l) rest.1)

-- The recorder of the piece's shard is there.
pub recorder_there : (clerk : Acting) (recorders : List Acting) (shard : ℕ) (piece : Piece) (answer : Answer)
    → CanNoteRun clerk recorders shard piece answer → shard < length recorders
recorder_there clerk recorders shard piece answer can =
    let there = can.there in
    let count = can.recorded.is.count in
    omega (arith, there, count)

-- the entry that the recorder has more, by the number of its shard
pub entry_logged : (recorder recorder' : Acting) (shard : ℕ) (piece : Piece) (answer : Answer)
    → shard_of recorder.role ≡ shard → log_in recorder' ≡ log_in recorder
    ++ entry_for (shard_of recorder.role) piece answer ∷ []
    → log_in recorder' ≡ log_in recorder ++ entry_for shard piece answer ∷ []
entry_logged recorder recorder' shard piece answer number more =
    more ∙ ap (λ s. log_in recorder ++ entry_for s piece answer ∷ []) number

-- What the clerk knows of a shard's replies has one more that it has heard.
came_more : (shard one : ℕ) (log : List Entry) (entry : Entry) (answers answers' : ℕ → List Shown) → entry.shard ≡ one
    → ((s : ℕ) → Lengthens (answers s) (answers' s)) → slice_get (answers' one) (length (replies_on log one))
    ≡ Some (reply_to entry) → ((s : ℕ) → Lengthens (replies_on log s) (answers s))
    → Lengthens (replies_on (log ++ entry ∷ []) shard) (answers' shard)
came_more shard one log entry answers answers' on grows heard came = elim (eqb_tells shard one) [
  | inl here ↦
      let own : replies_on (log ++ entry ∷ []) one ≡ replies_on log one ++ reply_to entry ∷ [] =
      ap replies_in (on_shard-yes one log entry on) ∙ map-append reply_to (on_shard one log) (entry ∷ []) in
      let far = further (replies_on log one) (answers one) (answers' one) (came one) (grows one) in
      subst (λ s. Lengthens (replies_on (log ++ entry ∷ []) s) (answers' s)) (sym here.1)
      (subst (λ l. Lengthens l (answers' one)) (sym own)
      (behind_first (replies_on log one) far.0 (answers' one) (reply_to entry) far.1 heard))
  | inr there ↦
      let none : replies_on (log ++ entry ∷ []) shard ≡ replies_on log shard =
      ap replies_in (on_shard-no shard log entry (λ e. there.1 (sym e ∙ on))) in
      subst (λ l. Lengthens l (answers' shard)) (sym none)
      (further (replies_on log shard) (answers shard) (answers' shard) (came shard) (grows shard))
]

-- Of the recorders one has the entry more.
each_more : (clerk : Acting) (recorders : List Acting) (one : ℕ) (log : List Entry) (entry : Entry)
    (old new : Acting) → entry.shard ≡ one → slice_get recorders one ≡ Some old → route_from new ≡ route_from old
    → log_in new ≡ log_in old ++ entry ∷ []
    → ((shard : ℕ) (recorder : Acting) → slice_get recorders shard ≡ Some recorder
    → IsRecorderOf clerk shard log recorder)
    → (shard : ℕ) (recorder : Acting) → slice_get (set recorders one new) shard ≡ Some recorder
    → IsRecorderOf clerk shard (log ++ entry ∷ []) recorder
each_more clerk recorders one log entry old new on was route more each shard recorder here =
    elim (set_cases recorders one new shard recorder here) [
      | inl this ↦
          let own = each one old was in
          subst (λ s. IsRecorderOf clerk s (log ++ entry ∷ []) recorder) (sym this.0)
          (subst (λ r. IsRecorderOf clerk one (log ++ entry ∷ []) r) (sym this.1)
          (record {
            route = route ∙ own.route;
            ran = more ∙ (ap (λ es. es ++ entry ∷ []) own.ran ∙ sym (on_shard-yes one log entry on));
          }))
      | inr other ↦
          let own = each shard recorder other.1 in
          record { route = own.route; ran = own.ran ∙ sym (on_shard-no shard log entry (λ e. other.0 (sym e ∙ on))) }
    ]

-- A piece was run and recorded, and the clerk has heard the reply.
pub history_ran : (sizes : Sizes) (place : Place) (begin : Sight) (taken : List Taken) (log : List Entry)
    (clerk clerk' : Acting) (recorders : List Acting) (one : ℕ) (entry : Entry) (old new : Acting) → entry.shard ≡ one
    → slice_get recorders one ≡ Some old → route_from new ≡ route_from old → log_in new ≡ log_in old ++ entry ∷ []
    → HasOpened clerk' → taken_now clerk' ≡ taken_now clerk
    → ((shard : ℕ) → work_at clerk' shard ≡ work_at clerk shard)
    → ((shard : ℕ) → Lengthens (answers_at clerk shard) (answers_at clerk' shard))
    → slice_get (answers_at clerk' one) (length (replies_on log one)) ≡ Some (reply_to entry)
    → route_to clerk' ≡ route_to clerk → place_of clerk' ≡ place_of clerk
    → IsWhole sizes place begin taken log clerk recorders
    → IsWhole sizes place begin taken (log ++ entry ∷ []) clerk' (set recorders one new)
history_ran sizes place begin taken log clerk clerk' recorders one entry old new on here route more opened takes works
    grows heard routes same whole =
    let was = whole.is in
    record {
      is = record {
        opened = opened;
        sizes_are = sizes_same sizes clerk clerk' routes was.sizes_are;
        placed = was.placed ∙ ap (λ (p : Sight → Place). p begin) (sym same);
        begins = subst (λ ts. Lengthens ts (map carried_out taken)) (sym takes) was.begins;
        work_is = λ shard. works shard ∙ (was.work_is shard ∙ ap (due sizes.shards shard) (sym takes));
        came = λ shard.
            came_more shard one log entry (answers_at clerk) (answers_at clerk') on grows heard was.came;
        count = length-set recorders one new ∙ was.count;
        each =
            recorders_same clerk clerk' (set recorders one new) (log ++ entry ∷ []) routes
            (each_more clerk recorders one log entry old new on here route more was.each);
      };
      all = takes ∙ whole.all;
    }
