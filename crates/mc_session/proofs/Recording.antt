-- What a clerk has recorded of a line stays so, step by step.
use Rattle.std.proofs.Common.{◌≡◌, ℕ, ◌<◌, Bool, List, [], ◌∷◌, ◌++◌, length, map, Some, refl, sym, ap, subst, ◌∙◌}
use Rattle.std.proofs.Common.{arith, length-append}
use Rattle.std.specs.List.{slice_get}
use Rattle.std.proofs.lemmas.List.{length-map}
use Rattle.std.proofs.lemmas.Option.{same_Some, slice_get_within}
use Rattle.mc_ring.proofs.Lists.{get_below, get_map}
use Rattle.mc_ring.specs.declared.request.Request.TheVariants as request
use Rattle.mc_ring.specs.declared.token.Token.{Ghosts as TokenGhosts}
use Rattle.mc_ring.specs.Ends.{AreSameEnds, Ends, list_at, received_on, sent_on}
use Rattle.mc_ring.specs.Channel.{Channel, Near}
use Rattle.mc_ring.specs.Reply.{Shown}
use Rattle.mc_ring.specs.Route.{Route}
use Rattle.mc_split.specs.declared.plan.Piece.{Piece}
use Rattle.mc_join.specs.Expects.{Expects}
use Rattle.mc_conn.specs.declared.conn.Conn.{Conn}
use Rattle.mc_conn.specs.Conn.{IsConn, taken_by}
use Rattle.mc_conn.specs.Due.{due}
use Rattle.mc_conn.specs.Fits.{IsReplyTo, ReceivesFromShard}
use Rattle.mc_conn.specs.History.{Taken, carried_out}
use Rattle.mc_conn.specs.Flow.{Flow, all_pending_replies}
use Rattle.mc_conn.proofs.Logged.{due_carried, log_is}
use Rattle.mc_model.specs.Grows.{Lengthens}
use Rattle.mc_model.proofs.Growing.{further}
use Rattle.mc_transport.specs.Clerk.{AddsWork, IsDueAt, IsKept}
use Rattle.mc_transport.specs.declared.clerk.Clerk.{Ghosts}
use Rattle.mc_transport.specs.BufferedConn.{flow_on}
use Rattle.mc_transport.proofs.Clerking.{answered_next, kept_begins, kept_heard, kept_recorded, kept_taken, sends_next}
use Rattle.mc_transport.proofs.More.{with_more}
use Rattle.mc_session.specs.Records.{RecordsAll, RecordsLine, RecordsPast}
use Rattle.mc_session.specs.Routes.{AreOnRoutes}
use Rattle.mc_session.specs.internal.Carrying.{Carries, MayCarry, carried, sent_to}
use Rattle.mc_session.proofs.Carrying.{Hears, Leaves, shard_there, some_shards}

-- Ends that stay the same keep their routes.
pub routes_still : (route route' : ℕ → Route) (ends ends' : Ends Near) → route' ≡ route → AreSameEnds ends ends'
    → AreOnRoutes route ends → AreOnRoutes route' ends'
routes_still route route' ends ends' is same are = rw is (record {
  each = λ shard end here.
      let channel : Near → Channel = λ e. e.past.channel in
      let below = slice_get_within ends'.channels shard end here in
      let count = same.count in
      let was = get_below ends.channels shard (omega (arith, below, count)) in
      let now : slice_get (map channel ends.channels) shard ≡ Some (channel end) =
      ap (λ ls. slice_get ls shard) (sym same.channels) ∙ get_map channel ends'.channels shard end here in
      let is : channel was.0 ≡ channel end =
      same_Some (channel was.0) (channel end) (sym (get_map channel ends.channels shard was.0 was.1) ∙ now) in
      ap (λ l. l.route) (sym is) ∙ are.each shard was.0 was.1;
  shards = λ shard. are.shards shard ∙ sym same.count;
})

-- what passed on a channel, where there is one
pub on_channel : {B : Type 0} (read : Near → List B) (channels : List Near) (shard : ℕ) (end : Near)
    → slice_get channels shard ≡ Some end → list_at read channels shard ≡ read end
on_channel read channels shard end here = rw here refl

-- The record is of a connection by its commands and the replies accepted alone.
kept_same : (work work' : ℕ → List Piece) (taken taken' : List Taken) (answers answers' : ℕ → List Shown)
    (before : Ends Near) (flow : Flow) (received : ℕ → List Shown) (out : ℕ) (lent : Bool) → taken' ≡ taken → work'
    ≡ work → answers' ≡ answers
    → IsKept work taken answers before flow received
    → IsKept work' taken' answers' before (carried flow out lent flow.accepted) received
kept_same work work' taken taken' answers answers' before flow received out lent takens works answerss kept =
    rw (takens, works, answerss) (record {
      begins = kept.begins;
      settled = kept.settled;
      work_is = kept.work_is;
      came = kept.came;
      keys = kept.keys;
      fits = kept.fits;
    })

kept_on : (work : ℕ → List Piece) (taken : List Taken) (answers : ℕ → List Shown) (before : Ends Near) (flow : Flow)
    (received : ℕ → List Shown) (fed : List ℕ) (ended : Bool) (handed : ℕ)
    → IsKept work taken answers before flow received
    → IsKept work taken answers before (flow_on flow fed ended handed flow.taken) received
kept_on work taken answers before flow received fed ended handed kept = record {
  begins = kept.begins;
  settled = kept.settled;
  work_is = kept.work_is;
  came = kept.came;
  keys = kept.keys;
  fits = kept.fits;
}

-- More was taken, which isn't recorded yet.
kept_more : (work : ℕ → List Piece) (taken : List Taken) (answers : ℕ → List Shown) (before : Ends Near) (flow : Flow)
    (received : ℕ → List Shown) (fed : List ℕ) (ended : Bool) (handed : ℕ) (more : List Taken)
    → IsKept work taken answers before flow received
    → IsKept work taken answers before (flow_on flow fed ended handed (flow.taken ++ more)) received
kept_more work taken answers before flow received fed ended handed more kept =
    with_more (λ all. IsKept work taken answers before (flow_on flow fed ended handed all) received)
    (λ all one. kept_taken work taken answers before (flow_on flow fed ended handed all) received one) flow.taken more
    (kept_on work taken answers before flow received fed ended handed kept)

module _ {T C : Type 0} (g : Ghosts C T) where
  -- Bytes were fed, replies handed out and commands taken: the record is of the line still.
  pub line_more : (clerk : C) (before : Ends Near) (flow : Flow) (received : ℕ → List Shown) (fed : List ℕ)
      (ended : Bool) (handed : ℕ) (more : List Taken) → RecordsLine g clerk before flow received
      → RecordsLine g clerk before (flow_on flow fed ended handed (flow.taken ++ more)) received
  line_more clerk before flow received fed ended handed more was keeps =
      let has = was keeps in (
        has.0,
        kept_more (g.work clerk) (g.taken clerk) (g.answers clerk) before flow received fed ended handed more
            has.1,
      )

  -- What is recorded is so still, whatever has left, where the clerk has recorded nothing.
  pub stays_recorded : (clerk clerk' : C) → (g.opened clerk → g.opened clerk') → g.taken clerk' ≡ g.taken clerk
      → g.work clerk' ≡ g.work clerk → g.answers clerk' ≡ g.answers clerk
      → (before : Ends Near) (flow : Flow) (received : ℕ → List Shown) (out : ℕ) (lent : Bool)
      → RecordsAll g clerk before flow received
      → RecordsAll g clerk' before (carried flow out lent flow.accepted) received
  stays_recorded clerk clerk' opened takens works answerss before flow received out lent was keeps =
      let has = was keeps in (
        (
          opened has.0.0,
          kept_same (g.work clerk) (g.work clerk') (g.taken clerk) (g.taken clerk') (g.answers clerk)
              (g.answers clerk') before flow received out lent takens works answerss has.0.1,
        ),
        takens ∙ has.1,
      )

  -- what is recorded where nothing has happened to the clerk
  pub still_recorded : (clerk : C) (before : Ends Near) (flow : Flow) (received : ℕ → List Shown) (out : ℕ)
      (lent : Bool) → RecordsAll g clerk before flow received
      → RecordsAll g clerk before (carried flow out lent flow.accepted) received
  still_recorded clerk = stays_recorded clerk clerk (λ opened. opened) refl refl refl

  -- The next piece that leaves is due in the next place of its channel.
  pub sends_due : (clerk : C) (ends : Ends Near) (ways : List ℕ) (conn mid : Conn) (shard : ℕ) (piece : Piece)
      → MayCarry (RecordsAll g clerk) ends ways conn → Leaves conn shard piece mid → (end : Near)
      → slice_get ends.channels shard ≡ Some end → g.keeps
      → IsDueAt (g.work clerk shard) (length end.past.sent) (request.Piece piece)
  sends_due clerk ends ways conn mid shard piece may leaves end here keeps =
      let flow = may.flow in
      let left = leaves flow may.conn_is in
      let below = shard_there flow shard piece (some_shards conn flow may.conn_is) left.0 in
      let has = may.as_recorded keeps in
      sends_next (g.work clerk) (g.taken clerk) (g.answers clerk) may.before flow may.received has.0.1 has.1 shard piece
      end.past.sent below left.0
      (sym (on_channel (λ (e : Near). e.past.sent) ends.channels shard end here) ∙ may.carries.sent shard below)

  -- All that the connection took is recorded.
  pub records_all : (clerk clerk' : C) (conn : Conn) (before ends : Ends Near) (flow : Flow) (received : ℕ → List Shown)
      → IsConn conn flow → flow.shards ≡ length ends.channels → (g.keeps → AreOnRoutes (g.route clerk) ends)
      → (g.keeps → g.opened clerk') → (g.keeps → g.taken clerk' ≡ taken_by conn)
      → (g.keeps → (shard : ℕ)
      → AddsWork (g.route clerk shard).name.sizes.shards shard (g.taken clerk) (g.taken clerk') (g.work clerk shard)
      (g.work clerk' shard)) → ((shard : ℕ) → Lengthens (g.answers clerk shard) (g.answers clerk' shard))
      → RecordsLine g clerk before flow received → RecordsAll g clerk' before flow received
  records_all clerk clerk' conn before ends flow received is width routes opened takes adds grows was keeps =
      let has = was keeps in
      let all : g.taken clerk' ≡ map carried_out flow.taken = takes keeps ∙ log_is conn flow is in (
        (
          opened keeps,
          kept_recorded (g.work clerk) (g.work clerk') (g.taken clerk) (g.taken clerk') (g.answers clerk)
              (g.answers clerk') before flow received has.1 all
              (λ shard. subst (λ n. AddsWork n shard (g.taken clerk) (g.taken clerk') (g.work clerk shard)
              (g.work clerk' shard)) ((routes keeps).shards shard ∙ sym width) (adds keeps shard)) grows,
        ),
        all,
      )

  -- What the clerk has recorded begins what the connection took.
  pub records_begin : (clerk : C) (conn : Conn) (ends : Ends Near) (ways : List ℕ)
      → MayCarry (RecordsLine g clerk) ends ways conn → g.keeps → Lengthens (g.taken clerk) (taken_by conn)
  records_begin clerk conn ends ways may keeps =
      subst (λ l. Lengthens (g.taken clerk) l) (sym (log_is conn may.flow may.conn_is)) (may.as_recorded keeps).1.begins

  -- Nothing was taken of the line that begins.
  pub line_begins : (clerk clerk' : C) (ends : Ends Near) (flow : Flow) → flow.taken ≡ [] → flow.accepted ≡ []
      → flow.shards ≡ length ends.channels → (g.keeps → g.opened clerk') → (g.keeps → g.taken clerk' ≡ [])
      → ((shard : ℕ) → g.work clerk' shard ≡ g.work clerk shard)
      → ((shard : ℕ) → Lengthens (g.answers clerk shard) (g.answers clerk' shard)) → RecordsPast g clerk ends
      → RecordsLine g clerk' ends flow (λ shard. [])
  line_begins clerk clerk' ends flow none nothing width opened takes works grows past keeps =
      let was = past keeps in (
        opened keeps,
        kept_begins (g.work clerk') (g.taken clerk') (g.answers clerk') ends flow none nothing (takes keeps)
            (λ s below. was.settled s (omega (arith, below, width)))
            (λ s below. ap (map request.Piece) (works s) ∙ was.work_is s (omega (arith, below, width)))
            (λ s below. further (received_on ends s) (g.answers clerk s) (g.answers clerk' s)
            (was.came s (omega (arith, below, width))) (grows s)),
      )

  -- A clerk with the same work and the same answers keeps its record of what has passed.
  pub past_kept : (clerk clerk' : C) (ends : Ends Near) → g.work clerk' ≡ g.work clerk → g.answers clerk'
      ≡ g.answers clerk → RecordsPast g clerk ends → RecordsPast g clerk' ends
  past_kept clerk clerk' ends works answers past keeps = rw (works, answers) (past keeps)

  -- Where all that is due was sent and answered, the record is of what has passed.
  pub line_ends : (clerk : C) (before ends : Ends Near) (ways : List ℕ) (flow : Flow) (received : ℕ → List Shown)
      → Carries before ends ways flow received → ((shard : ℕ) → sent_to flow shard ≡ due flow.shards shard flow.taken)
      → ((shard : ℕ) → length (received shard) ≡ length (due flow.shards shard flow.taken))
      → RecordsAll g clerk before flow received → RecordsPast g clerk ends
  line_ends clerk before ends ways flow received carries sent answered was keeps =
      let has = was keeps in
      let kept = has.0.1 in
      let width = carries.width in
      let dues : (s : ℕ) → due flow.shards s (g.taken clerk) ≡ due flow.shards s flow.taken =
      λ s. ap (due flow.shards s) has.1 ∙ due_carried flow.shards s flow.taken in
      let passed : (s : ℕ) → s < flow.shards → sent_on ends s ≡ sent_on before s
      ++ map request.Piece (due flow.shards s flow.taken) =
      λ s within. carries.sent s within ∙ ap (λ ps. sent_on before s ++ map request.Piece ps) (sent s) in
      record {
        settled = λ s below.
            let within : s < flow.shards = omega (arith, below, width) in
            let settled = kept.settled s within in
            let many = answered s in
            let out = ap length (passed s within)
            ∙ length-append (sent_on before s) (map request.Piece (due flow.shards s flow.taken)) in
            let pieces = length-map (due flow.shards s flow.taken) request.Piece in
            let came = ap length (carries.came s within) ∙ length-append (received_on before s) (received s) in
            omega (arith, settled, many, out, pieces, came);
        work_is = λ s below.
            let within : s < flow.shards = omega (arith, below, width) in
            kept.work_is s within ∙ (ap (λ ps. sent_on before s ++ map request.Piece ps) (dues s)
            ∙ sym (passed s within));
        came = λ s below.
            let within : s < flow.shards = omega (arith, below, width) in
            subst (λ l. Lengthens l (g.answers clerk s)) (sym (carries.came s within)) (kept.came s within);
      }

  -- What hearing a reply from a shard says of the record, where this many have come from it.
  pub record HearsReply (clerk clerk' : C) (shard : ℕ) (came : List Shown) (reply : Shown) : Type 0 where
    pub answer : slice_get (g.answers clerk' shard) (length came) ≡ Some reply
    pub fits : (piece : Piece) → slice_get (g.work clerk shard) (length came) ≡ Some piece → IsReplyTo piece reply
    pub grows : (s : ℕ) → Lengthens (g.answers clerk s) (g.answers clerk' s)
    pub opened : g.opened clerk → g.opened clerk'
    pub takes : g.opened clerk → g.taken clerk' ≡ g.taken clerk
    pub works : (s : ℕ) → g.work clerk' s ≡ g.work clerk s

  -- Where a reply's token allows it on its channel, hearing it says that.
  pub heard_so : (t : TokenGhosts T) (clerk clerk' : C) (token : T) (ends : Ends Near) (shard : ℕ) (end : Near)
      (reply : Shown) → slice_get ends.channels shard ≡ Some end → AreOnRoutes (g.route clerk) ends
      → t.may_give end.past.channel.route end.past.received reply token
      → ((before : List Shown) → t.may_give (g.route clerk shard) before reply token
      → slice_get (g.answers clerk' shard) (length before) ≡ Some reply)
      → ((before : List Shown) (piece : Piece) → t.may_give (g.route clerk shard) before reply token
      → slice_get (g.work clerk shard) (length before) ≡ Some piece → IsReplyTo piece reply) → ((s : ℕ)
      → Lengthens (g.answers clerk s) (g.answers clerk' s)) → (g.opened clerk → g.opened clerk')
      → (g.opened clerk → g.taken clerk' ≡ g.taken clerk) → ((s : ℕ) → g.work clerk' s ≡ g.work clerk s)
      → HearsReply clerk clerk' shard (received_on ends shard) reply
  heard_so t clerk clerk' token ends shard end reply here routes may answer fits grows opened takes works =
      let came = on_channel (λ (e : Near). e.past.received) ends.channels shard end here in
      let allowed : t.may_give (g.route clerk shard) (received_on ends shard) reply token =
      subst (λ r. t.may_give r (received_on ends shard) reply token) (routes.each shard end here)
      (subst (λ l. t.may_give end.past.channel.route l reply token) (sym came) may) in
      record {
        answer = answer (received_on ends shard) allowed;
        fits = λ piece there. fits (received_on ends shard) piece allowed there;
        grows = grows;
        opened = opened;
        takes = takes;
        works = works;
      }

  heard : (clerk clerk' : C) (before ends : Ends Near) (flow : Flow) (received later : ℕ → List Shown) (shard : ℕ)
      (reply : Shown) → (g.keeps → HearsReply clerk clerk' shard (received_on ends shard) reply)
      → RecordsAll g clerk before flow received → shard < flow.shards
      → received_on ends shard ≡ received_on before shard ++ received shard
      → length (received shard) < length (due flow.shards shard flow.taken)
      → ReceivesFromShard received shard reply later → g.keeps
      → Expects (all_pending_replies flow) flow.accepted reply
      × ((g.opened clerk' × IsKept (g.work clerk') (g.taken clerk') (g.answers clerk') before
      (record flow { accepted = flow.accepted ++ reply ∷ [] }) later) × (g.taken clerk' ≡ map carried_out flow.taken))
  heard clerk clerk' before ends flow received later shard reply hears was below came owed receives keeps =
      let has = was keeps in
      let said = hears keeps in
      let dues : due flow.shards shard (g.taken clerk) ≡ due flow.shards shard flow.taken =
      ap (due flow.shards shard) has.1 ∙ due_carried flow.shards shard flow.taken in
      let many = ap length dues in
      let next = answered_next (g.work clerk) (g.taken clerk) (g.answers clerk) before flow received has.0.1 shard
      (received_on ends shard) below (omega (arith, owed, many)) came in
      let more =
      kept_heard (g.work clerk) (g.work clerk') (g.taken clerk) (g.answers clerk) (g.answers clerk') before flow
      received later has.0.1 shard (received_on ends shard) reply below next came (said.fits next.piece next.work_is)
      said.works said.grows said.answer receives in
      let takes = said.takes has.0.0 in (
        more.0,
        (
          (
            said.opened has.0.0,
            subst
                (λ l. IsKept (g.work clerk') l (g.answers clerk') before
                (record flow { accepted = flow.accepted ++ reply ∷ [] }) later) (sym takes) more.1,
          ),
          takes ∙ has.1,
        ),
      )

  -- A reply that was heard is expected, and once it is accepted the record is of that.
  pub hears_one : (clerk clerk' : C) (ends : Ends Near) (shard : ℕ) (reply : Shown)
      → (g.keeps → HearsReply clerk clerk' shard (received_on ends shard) reply)
      → Hears (RecordsAll g clerk) (RecordsAll g clerk') ends shard reply
  hears_one clerk clerk' ends shard reply hears = record {
    accepted =
        λ before flow received later was below came owed receives keeps.
        (heard clerk clerk' before ends flow received later shard reply hears was below came owed receives keeps).1;
    unexpected_reply =
        λ before flow received later was below came owed receives unexpected keeps. absurd
        (unexpected (heard clerk clerk' before ends flow received later shard reply hears was below came owed receives
        keeps).0);
  }
