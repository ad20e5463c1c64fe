-- A line that is served over channels, turn by turn.
use Rattle.std.proofs.Common.{◌≡◌, ℕ, ◌≤◌, ◌==◌, ◌&&◌, inl, inr, Bool, true, false, List, [], ◌∷◌, ◌++◌, length, map}
use Rattle.std.proofs.Common.{refl, sym, ap, subst, ◌∙◌, arith, append-nil, append_assoc}
use Rattle.std.specs.List.{concat, list_all}
use Rattle.std.proofs.lemmas.Bool.{cases_lt, eqb-true}
use Rattle.std.proofs.lemmas.List.{take_all}
use Rattle.mc_wire.specs.Sink.{Sight}
use Rattle.mc_ring.specs.declared.request.Request.TheVariants as request
use Rattle.mc_ring.specs.Reply.{Shown}
use Rattle.mc_ring.specs.Channel.{Near}
use Rattle.mc_ring.specs.Ends.{Ends, received_on, sent_on}
use Rattle.mc_ring.specs.EndsLaws.{same_ends-refl}
use Rattle.mc_conn.specs.declared.conn.Conn.{Conn}
use Rattle.mc_conn.specs.Conn.{IsConn}
use Rattle.mc_conn.specs.Due.{due, channel}
use Rattle.mc_conn.specs.Fits.{KeysFit, Serves}
use Rattle.mc_conn.specs.History.{Taken}
use Rattle.mc_conn.specs.Flow.{IsAllTaken, IsAtRest, Flow, all_pieces, all_texts, new_flow, waiting_text}
use Rattle.mc_conn.proofs.Counting.{count_from_come, due_beyond}
use Rattle.mc_conn.proofs.Serving.{serves_none, serves_take}
use Rattle.mc_conn.proofs.Staying.{is_sound}
use Rattle.mc_transport.specs.declared.clerk.Clerk.{Ghosts}
use Rattle.mc_transport.specs.declared.warrant.Warrant.{Ghosts as Warrants}
use Rattle.mc_transport.specs.declared.buffered_conn.BufferedConn.{BufferedConn}
use Rattle.mc_transport.specs.declared.buffered_conn.LineStep.{LineStep}
use Rattle.mc_transport.specs.declared.buffered_conn.LineStep.TheVariants as stepped
use Rattle.mc_transport.specs.LineServed.{LineServed}
use Rattle.mc_transport.specs.BufferedConn.{IsNew, ServesOn, ServiceSays, TakesFor, WasServed, flow_on}
use Rattle.mc_transport.specs.Clerk.{IsOwed}
use Rattle.mc_transport.specs.Later.{text_in}
use Rattle.mc_transport.specs.Place.{Place}
use Rattle.mc_transport.specs.internal.Stands.{IsComplete, handed_texts}
use Rattle.mc_transport.proofs.More.{out_more, with_more}
use Rattle.mc_transport.proofs.Serving.{handed_and_waiting, serving_first, stops_carried}
use Rattle.mc_session.specs.declared.shard_link.ShardLink.{ShardLink}
use Rattle.mc_session.specs.Records.{IsLineOf, RecordsAll, RecordsAllOf, RecordsLineOf, RecordsPastOf}
use Rattle.mc_session.specs.Service.{IsServedBy, LineSays}
use Rattle.mc_session.specs.Serving.{IsIdle}
use Rattle.mc_session.specs.internal.Carrying.{AllOutWhere, CanCarry, CanRecord, Carries, ShardLinkGoesOn}
use Rattle.mc_session.specs.internal.Carrying.{KeepsReceived, carried, sent_to}
use Rattle.mc_session.proofs.Carrying.{some_shards}
use Rattle.mc_session.proofs.Credit.{credit_by_counts}
use Rattle.mc_session.proofs.Recording.{line_ends, line_more}
use Rattle.mc_command.specs.declared.rules.Rules.{Rules}
use Rattle.mc_ring.proofs.Lists.{all_at, get_below}

-- all counts are 0
pub all_zero : (counts : List ℕ) → list_all (λ count. count == 0) counts ≡ true → IsIdle counts
all_zero [] e = tt
all_zero (count ∷ counts) e =
    elim (count == 0) as (λ b. (count == 0) ≡ b → (b && list_all (λ count. count == 0) counts) ≡ true → (count ≡ 0)
    × IsIdle counts) [
      | true ↦ λ is rest. (eqb-true count 0 is, all_zero counts rest)
      | false ↦ λ is rest. absurd (cc)
    ] refl e

-- before anything was carried
carries_first : (ends : Ends Near) (ways : List ℕ) (rules : Rules) (window : ℕ) → length ways ≡ length ends.channels
    → IsIdle ways → Carries ends ends ways (new_flow (length ends.channels) rules window) (λ s. [])
carries_first ends ways rules window each idle = record {
  width = refl;
  each = each;
  same = same_ends-refl ends;
  sent = λ s below. sym (append-nil (sent_on ends s));
  came = λ s below. sym (append-nil (received_on ends s));
  awaited = λ s count here. let none : count ≡ 0 =
      all_at (λ (c : ℕ). c ≡ 0) ways s count idle here in omega (arith, none);
  serves = serves_none (length ends.channels);
}

-- where the keys of more replies fit, those of the first do
keys_kept : (shards : ℕ) (taken : List Taken) (received later : ℕ → List Shown) → KeepsReceived received later
    → KeysFit shards taken later → KeysFit shards taken received
keys_kept shards taken received later kept keys s i p reply asked came = keys s i p reply asked (kept s i reply came)

-- commands were taken: what was carried is the same
carries_on : (before ends : Ends Near) (ways : List ℕ) (flow : Flow) (received : ℕ → List Shown) (fed : List ℕ)
    (ended : Bool) (handed : ℕ) (more : List Taken) → flow.out ≤ length (all_pieces flow)
    → Carries before ends ways flow received
    → Carries before ends ways (flow_on flow fed ended handed (flow.taken ++ more)) received
carries_on before ends ways flow received fed ended handed more within carries =
    let out = out_more flow more within in
    record {
      width = carries.width;
      each = carries.each;
      same = carries.same;
      sent = λ s below. carries.sent s below ∙ ap (λ ps. sent_on before s ++ map request.Piece (channel s ps)) out;
      came = carries.came;
      awaited = λ s count here. carries.awaited s count here ∙ ap (λ ps. length (channel s ps)) out;
      serves =
          with_more (λ taken. Serves flow.shards taken flow.accepted received)
          (λ taken one. serves_take flow.shards taken one flow.accepted received) flow.taken more carries.serves;
    }

-- where all pieces have left, those sent to a shard are all that is due there
sent_all : (flow : Flow) (shard : ℕ) → flow.out ≡ length (all_pieces flow) → sent_to flow shard
    ≡ due flow.shards shard flow.taken
sent_all flow shard all = ap (channel shard) (take_all flow.out (all_pieces flow) (omega (arith, all)))

-- as many replies were received as pieces were due
received_all : (before ends : Ends Near) (ways : List ℕ) (flow : Flow) (received : ℕ → List Shown) (conn : Conn)
    → IsConn conn flow → Carries before ends ways flow received → flow.out ≡ length (all_pieces flow) → IsIdle ways
    → (shard : ℕ) → length (received shard) ≡ length (due flow.shards shard flow.taken)
received_all before ends ways flow received conn is carries all idle shard = elim (cases_lt shard flow.shards) [
  | inl below ↦
      let each = carries.each in
      let count = get_below ways shard (omega (arith, each, below)) in
      let none : count.0 ≡ 0 = all_at (λ (c : ℕ). c ≡ 0) ways shard count.0 idle count.1 in
      let some = carries.awaited shard count.0 count.1 in
      let whole = ap length (sent_all flow shard all) in
      omega (arith, none, some, whole)
  | inr beyond ↦
      let none = ap length (due_beyond flow.shards shard flow.taken (some_shards conn flow is) beyond) in
      let within = carries.serves.within shard in
      omega (arith, none, within)
]

-- so where their keys fit, every command has its reply
complete_all : (flow : Flow) (received : ℕ → List Shown) (conn : Conn) → IsConn conn flow
    → Serves flow.shards flow.taken flow.accepted received
    → ((shard : ℕ) → length (received shard) ≡ length (due flow.shards shard flow.taken))
    → KeysFit flow.shards flow.taken received → length (all_texts flow) ≡ length flow.taken
complete_all flow received conn is serves many keys =
    let whole = take_all (length flow.taken) flow.taken (omega arith) in
    let come = count_from_come flow.shards (length flow.taken) flow.taken flow.accepted received (omega arith)
    (serves.fits keys) (λ s.
    let long = many s in
    let due_is = ap (λ ts. length (due flow.shards s ts)) whole in
    omega (arith, long, due_is)) in
    let most = (is_sound conn flow is).complete in
    omega (arith, come, most)

-- nothing is under way once all pieces have left, and every command has its reply
at_rest : (flow : Flow) (broke : Bool) (handed : ℕ) → flow.out ≡ length (all_pieces flow)
    → (broke ≡ false → IsAllTaken flow × (handed ≡ length (all_texts flow))) → length (all_texts flow)
    ≡ length flow.taken → IsAtRest (record flow { broken = broke; handed = handed })
at_rest flow true handed sent rest whole = record { sent = sent; done = whole }
at_rest flow false handed sent rest whole = record { sent = sent; done = ((rest refl).0, (rest refl).1 ∙ whole) }

-- channels that are the same carry the same
same_carries : (before ends ends' : Ends Near) (ways ways' : List ℕ) (flow : Flow) (received : ℕ → List Shown) → ends'
    ≡ ends → ways' ≡ ways → Carries before ends ways flow received → Carries before ends' ways' flow received
same_carries before ends ends' ways ways' flow received same counts carries = rw (same, counts) carries

-- what waits and what is handed out next are all that is left
owed_next : (written waits out next all : List ℕ) → written ++ waits ≡ out → out ++ next ≡ all
    → written ++ ((waits ++ next) ++ []) ≡ all
owed_next written waits out next all in_order then_all =
    ap (λ l. written ++ l) (append-nil (waits ++ next))
    ∙ (sym (append_assoc written waits next) ∙ (ap (λ l. l ++ next) in_order ∙ then_all))

module _ {T C : Type 0} {w : Warrants T} {g : Ghosts C T} where
  -- bytes were fed, replies handed out and commands taken: what was carried is the same, and the line is served on over
  -- the channels
  serves_on : (shards : ℕ) (rules : Rules) (may_answer : ℕ → Type 0) (begin now : Sight) (before : Ends Near)
      (shard_link : ShardLink T C w g) (flow : Flow) (received : ℕ → List Shown) (buffered_conn : BufferedConn)
      → flow.shards ≡ shards → flow.rules ≡ rules → flow.out ≤ length (all_pieces flow) →
      Carries before shard_link.ends shard_link.under_way.items flow received
      → RecordsLineOf shard_link before flow received → ServesOn received may_answer begin now flow buffered_conn
      → IsServedBy shards rules may_answer begin now before shard_link buffered_conn
  serves_on shards rules may_answer begin now before shard_link flow received buffered_conn shards_is rules_are within
      carries has on =
      let R : List Taken → Type 0 =
      λ taken. RecordsLineOf shard_link before (flow_on flow on.fed on.ended on.handed taken) received in
      let P : List Taken → Type 0 =
      λ taken. Carries before shard_link.ends shard_link.under_way.items (flow_on flow on.fed on.ended on.handed taken)
      received in
      record {
        flow = flow_on flow on.fed on.ended on.handed on.taken;
        received = received;
        shards_is = shards_is;
        rules_are = rules_are;
        carries =
            subst P (sym on.taken_is)
            (carries_on before shard_link.ends shard_link.under_way.items flow received on.fed on.ended on.handed
            on.more within carries);
        stopped = on.stopped;
        credit =
            credit_by_counts shard_link.places before shard_link.ends shard_link.under_way.items flow received
            shard_link.in_credit carries;
        recorded =
            subst R (sym on.taken_is)
            (line_more g shard_link.clerk before flow received on.fed on.ended on.handed on.more has);
      }

  -- what the clerk says where it has opened the line's connection
  abbrev pub BeginsLine : ShardLink T C w g → ShardLink T C w g → Type 0
  BeginsLine shard_link shard_link' =
      (before : Ends Near) (flow : Flow) → flow.taken ≡ [] → flow.accepted ≡ [] → flow.shards ≡ length before.channels
      → RecordsPastOf shard_link before → RecordsLineOf shard_link' before flow (λ shard. [])

  -- What is new, at channels where nothing is under way, serves a line that begins, once its connection was opened and
  -- commands of it were taken.
  pub serves_first : (may_answer : ℕ → Type 0) (line : Sight) (rules : Rules) (window : ℕ)
      (was mid shard_link : ShardLink T C w g) (buffered_conn after : BufferedConn) → mid ≡ was → shard_link.ends
      ≡ mid.ends → shard_link.under_way ≡ mid.under_way → BeginsLine mid shard_link → RecordsPastOf was was.ends
      → IsIdle was.under_way.items → IsNew (length was.ends.channels) rules window buffered_conn
      → TakesFor may_answer buffered_conn after
      → IsServedBy (length was.ends.channels) rules may_answer line line was.ends shard_link after
  serves_first may_answer line rules window was mid shard_link buffered_conn after same ends ways begins past idle new
      takes =
      let shards = length was.ends.channels in
      let flow : Flow = new_flow shards rules window in
      let begun : BeginsLine was shard_link = subst (λ (k : ShardLink T C w g). BeginsLine k shard_link) same begins in
      let same_ends : shard_link.ends ≡ was.ends = ends ∙ ap (λ (k : ShardLink T C w g). k.ends) same in
      let same_ways : shard_link.under_way.items ≡ was.under_way.items = ap (λ counts. counts.items) ways
      ∙ ap (λ (k : ShardLink T C w g). k.under_way.items) same in
      serves_on shards rules may_answer line line was.ends shard_link flow (λ s. []) after refl refl (omega arith)
      (same_carries was.ends was.ends shard_link.ends was.under_way.items shard_link.under_way.items flow (λ s. [])
      same_ends same_ways (carries_first was.ends was.under_way.items rules window was.each_shard idle)) (begun was.ends
      flow refl refl refl past)
      (takes (λ s. []) line line flow (serving_first may_answer line shards rules window buffered_conn new)).on

  -- The line is served, and all that its connection took is recorded.
  pub record IsRecordedBy (shards : ℕ) (rules : Rules) (may_answer : ℕ → Type 0) (begin now : Sight)
      (before : Ends Near) (shard_link : ShardLink T C w g) (buffered_conn : BufferedConn) : Type 0 where
    pub serves : IsServedBy shards rules may_answer begin now before shard_link buffered_conn
    pub recorded : RecordsAllOf shard_link before serves.flow serves.received

  recorded_line : (shard_link : ShardLink T C w g) (before : Ends Near) (flow : Flow) (received : ℕ → List Shown)
      → RecordsAllOf shard_link before flow received → RecordsLineOf shard_link before flow received
  recorded_line shard_link before flow received all keeps = (all keeps).0

  -- what the clerk says where it has recorded what the connection took
  abbrev pub RecordsMore : ShardLink T C w g → ShardLink T C w g → Conn → Type 0
  RecordsMore shard_link shard_link' conn =
      (before : Ends Near) (flow : Flow) (received : ℕ → List Shown) → IsConn conn flow → flow.shards
      ≡ length shard_link.ends.channels → RecordsLineOf shard_link before flow received
      → RecordsAllOf shard_link' before flow received

  -- Then pieces and replies may be carried.
  pub may_carry : (shard_link shard_link' : ShardLink T C w g) (conn : Conn) → shard_link'.ends ≡ shard_link.ends
      → shard_link'.under_way ≡ shard_link.under_way → RecordsMore shard_link shard_link' conn
      → CanRecord shard_link conn → CanCarry shard_link' conn
  may_carry shard_link shard_link' conn ends ways records may = record {
    before = may.before;
    flow = may.flow;
    received = may.received;
    conn_is = may.conn_is;
    carries =
        same_carries may.before shard_link.ends shard_link'.ends shard_link.under_way.items shard_link'.under_way.items
        may.flow may.received ends (ap (λ counts. counts.items) ways) may.carries;
    as_recorded = records may.before may.flow may.received may.conn_is (sym may.carries.width) may.as_recorded;
  }

  -- And the line is served with all recorded.
  pub records_line : (shards : ℕ) (rules : Rules) (may_answer : ℕ → Type 0) (begin now : Sight) (before : Ends Near)
      (shard_link shard_link' : ShardLink T C w g) (buffered_conn : BufferedConn) → shard_link'.ends ≡ shard_link.ends
      → shard_link'.under_way ≡ shard_link.under_way → RecordsMore shard_link shard_link' buffered_conn.conn →
      IsServedBy shards rules may_answer begin now before shard_link buffered_conn
      → IsRecordedBy shards rules may_answer begin now before shard_link' buffered_conn
  records_line shards rules may_answer begin now before shard_link shard_link' buffered_conn ends ways records serves =
      let flow = serves.flow in
      let all = records before flow serves.received serves.stopped.serves.conn_is (sym serves.carries.width)
      serves.recorded in
      let carries = same_carries before shard_link.ends shard_link'.ends shard_link.under_way.items
      shard_link'.under_way.items flow serves.received ends (ap (λ counts. counts.items) ways) serves.carries in
      record {
        serves = record {
          flow = flow;
          received = serves.received;
          shards_is = serves.shards_is;
          rules_are = serves.rules_are;
          carries = carries;
          stopped = serves.stopped;
          credit =
              credit_by_counts shard_link'.places before shard_link'.ends shard_link'.under_way.items flow
              serves.received shard_link'.in_credit carries;
          recorded = recorded_line shard_link' before flow serves.received all;
        };
        recorded = all;
      }

  -- Pieces and replies were carried: the line is served as before.
  pub serves_carried : (says : Flow → ℕ → Type 0) (shards : ℕ) (rules : Rules) (may_answer : ℕ → Type 0)
      (begin now : Sight) (before : Ends Near) (shard_link shard_link' : ShardLink T C w g)
      (buffered_conn : BufferedConn) (conn : Conn) → ShardLinkGoesOn says shard_link buffered_conn.conn shard_link' conn
      → IsRecordedBy shards rules may_answer begin now before shard_link buffered_conn
      → IsRecordedBy shards rules may_answer begin now before shard_link' (record buffered_conn { conn = conn })
  serves_carried says shards rules may_answer begin now before shard_link shard_link' buffered_conn conn goes all =
      let serves = all.serves in
      let flow = serves.flow in
      let on = (goes.moves before flow serves.received serves.stopped.serves.conn_is serves.carries all.recorded).0 in
      record {
        serves = record {
          flow = carried flow on.out on.lent on.accepted;
          received = on.later;
          shards_is = serves.shards_is;
          rules_are = serves.rules_are;
          carries = on.carries;
          stopped =
              stops_carried serves.received on.later may_answer begin now flow buffered_conn conn on.out on.lent
              on.accepted (keys_kept flow.shards flow.taken serves.received on.later on.kept) on.conn_is on.handed
              serves.stopped;
          credit =
              credit_by_counts shard_link'.places before shard_link'.ends shard_link'.under_way.items
              (carried flow on.out on.lent on.accepted) on.later shard_link'.in_credit on.carries;
          recorded = recorded_line shard_link' before (carried flow on.out on.lent on.accepted) on.later on.as_recorded;
        };
        recorded = on.as_recorded;
      }

  -- all pieces of the commands taken were sent, and as many replies received
  pub record Settled (shards : ℕ) (rules : Rules) (may_answer : ℕ → Type 0) (begin now : Sight) (before : Ends Near)
      (shard_link : ShardLink T C w g) (buffered_conn : BufferedConn) : Type 0 where
    pub serves : IsServedBy shards rules may_answer begin now before shard_link buffered_conn
    pub recorded : RecordsAllOf shard_link before serves.flow serves.received
    pub all : serves.flow.out ≡ length (all_pieces serves.flow)
    pub idle : IsIdle shard_link.under_way.items

  -- Once every piece has left and no reply is awaited, the commands that were taken are settled.
  pub settles : (so : Type 0) (shards : ℕ) (rules : Rules) (may_answer : ℕ → Type 0) (begin now : Sight)
      (before : Ends Near) (shard_link shard_link' : ShardLink T C w g) (buffered_conn : BufferedConn) (conn : Conn)
      → ShardLinkGoesOn (AllOutWhere so) shard_link buffered_conn.conn shard_link' conn → so
      → IsIdle shard_link'.under_way.items →
      IsRecordedBy shards rules may_answer begin now before shard_link buffered_conn
      → Settled shards rules may_answer begin now before shard_link' (record buffered_conn { conn = conn })
  unfolding serves_carried
  settles so shards rules may_answer begin now before shard_link shard_link' buffered_conn conn goes holds idle was =
      let on = serves_carried (AllOutWhere so) shards rules may_answer begin now before shard_link shard_link'
      buffered_conn conn goes was in
      record {
        serves = on.serves;
        recorded = on.recorded;
        all =
            (goes.moves before was.serves.flow was.serves.received was.serves.stopped.serves.conn_is was.serves.carries
            was.recorded).1 holds;
        idle = idle;
      }

  -- as many replies were received as pieces were due
  settled_all : (shards : ℕ) (rules : Rules) (may_answer : ℕ → Type 0) (begin now : Sight) (before : Ends Near)
      (shard_link : ShardLink T C w g) (buffered_conn : BufferedConn)
      → (settled : Settled shards rules may_answer begin now before shard_link buffered_conn) → (shard : ℕ)
      → length (settled.serves.received shard) ≡ length (due settled.serves.flow.shards shard settled.serves.flow.taken)
  settled_all shards rules may_answer begin now before shard_link buffered_conn settled =
      received_all before shard_link.ends shard_link.under_way.items settled.serves.flow settled.serves.received
      buffered_conn.conn settled.serves.stopped.serves.conn_is settled.serves.carries settled.all settled.idle

  -- The record is of what has passed.
  settled_past : (shards : ℕ) (rules : Rules) (may_answer : ℕ → Type 0) (begin now : Sight) (before : Ends Near)
      (shard_link : ShardLink T C w g) (buffered_conn : BufferedConn)
      → (settled : Settled shards rules may_answer begin now before shard_link buffered_conn)
      → RecordsPastOf shard_link shard_link.ends
  settled_past shards rules may_answer begin now before shard_link buffered_conn settled =
      let serves = settled.serves in
      line_ends g shard_link.clerk before shard_link.ends shard_link.under_way.items serves.flow serves.received
      serves.carries (λ s. sent_all serves.flow s settled.all)
      (settled_all shards rules may_answer begin now before shard_link buffered_conn settled) settled.recorded

  -- So where their keys fit, every command has its reply.
  pub settled_complete : (shards : ℕ) (rules : Rules) (may_answer : ℕ → Type 0) (begin now : Sight) (before : Ends Near)
      (shard_link : ShardLink T C w g) (buffered_conn : BufferedConn)
      → (settled : Settled shards rules may_answer begin now before shard_link buffered_conn)
      → IsComplete settled.serves.received settled.serves.flow
  settled_complete shards rules may_answer begin now before shard_link buffered_conn settled =
      let serves = settled.serves in
      complete_all serves.flow serves.received buffered_conn.conn serves.stopped.serves.conn_is serves.carries.serves
      (settled_all shards rules may_answer begin now before shard_link buffered_conn settled)

  -- Another shard link with the same ends and the same record is settled too.
  pub settled_same : (shards : ℕ) (rules : Rules) (may_answer : ℕ → Type 0) (begin now : Sight) (before : Ends Near)
      (shard_link shard_link' : ShardLink T C w g) (buffered_conn : BufferedConn) → shard_link'.ends ≡ shard_link.ends
      → shard_link'.under_way ≡ shard_link.under_way → shard_link'.clerk ≡ shard_link.clerk
      → Settled shards rules may_answer begin now before shard_link buffered_conn
      → Settled shards rules may_answer begin now before shard_link' buffered_conn
  settled_same shards rules may_answer begin now before shard_link shard_link' buffered_conn ends ways clerk settled =
      let serves = settled.serves in
      let counts : shard_link'.under_way.items ≡ shard_link.under_way.items = ap (λ counts. counts.items) ways in
      let carries = same_carries before shard_link.ends shard_link'.ends shard_link.under_way.items
      shard_link'.under_way.items serves.flow serves.received ends counts serves.carries in
      let all : RecordsAllOf shard_link' before serves.flow serves.received =
      subst (λ (k : C). RecordsAll g k before serves.flow serves.received) (sym clerk) settled.recorded in
      record {
        serves = record {
          flow = serves.flow;
          received = serves.received;
          shards_is = serves.shards_is;
          rules_are = serves.rules_are;
          carries = carries;
          stopped = serves.stopped;
          credit =
              credit_by_counts shard_link'.places before shard_link'.ends shard_link'.under_way.items serves.flow
              serves.received shard_link'.in_credit carries;
          recorded = recorded_line shard_link' before serves.flow serves.received all;
        };
        recorded = all;
        all = settled.all;
        idle = subst IsIdle (sym counts) settled.idle;
      }

  -- The line is owed what waits, and then all replies whose turn has come.
  pub owes_all : (shards : ℕ) (rules : Rules) (may_answer : ℕ → Type 0) (begin now : Sight) (before : Ends Near)
      (shard_link : ShardLink T C w g) (buffered_conn : BufferedConn) (place : Place)
      → (settled : Settled shards rules may_answer begin now before shard_link buffered_conn)
      → IsLineOf shard_link rules place begin → g.keeps
      → (place ≡ g.place shard_link.clerk begin) × g.opened shard_link.clerk
      × IsOwed (g.route shard_link.clerk 0).name.sizes (g.work shard_link.clerk) (g.taken shard_link.clerk)
      (g.answers shard_link.clerk) begin now (text_in buffered_conn.unwritten ++ waiting_text settled.serves.flow)
  owes_all shards rules may_answer begin now before shard_link buffered_conn place settled line keeps =
      let has = settled.recorded keeps in
      let serves = settled.serves in
      let served = serves.stopped.serves in
      let flow = serves.flow in (
        line.placed keeps,
        has.0.0,
        record {
          flow = flow;
          before = before;
          received = serves.received;
          kept = has.0.1;
          sound = is_sound buffered_conn.conn flow served.conn_is;
          some_shards = some_shards buffered_conn.conn flow served.conn_is;
          shards_are = sym serves.carries.width ∙ sym ((shard_link.routed keeps).shards 0);
          rules_are = serves.rules_are ∙ line.ruled keeps;
          recorded = has.1;
          unread = buffered_conn.seat.unread;
          read_is = served.serving.read_is;
          written = served.written;
          written_is = served.written_is;
          rest = [];
          next =
              owed_next served.written (text_in buffered_conn.unwritten) (concat (handed_texts flow))
              (waiting_text flow) (concat (all_texts flow)) served.in_order (handed_and_waiting flow);
        },
      )

  -- What is served may be recorded.
  pub can_record : (shards : ℕ) (rules : Rules) (may_answer : ℕ → Type 0) (begin now : Sight) (before : Ends Near)
      (shard_link : ShardLink T C w g) (buffered_conn : BufferedConn)
      → IsServedBy shards rules may_answer begin now before shard_link buffered_conn
      → CanRecord shard_link buffered_conn.conn
  can_record shards rules may_answer begin now before shard_link buffered_conn served = record {
    before = before;
    flow = served.flow;
    received = served.received;
    conn_is = served.stopped.serves.conn_is;
    carries = served.carries;
    as_recorded = served.recorded;
  }

  -- the line is served on
  settled_on : (shards : ℕ) (rules : Rules) (may_answer : ℕ → Type 0) (begin now after : Sight) (before : Ends Near)
      (shard_link : ShardLink T C w g) (buffered_conn last : BufferedConn)
      → (settled : Settled shards rules may_answer begin now before shard_link buffered_conn) →
      ServesOn settled.serves.received may_answer begin after settled.serves.flow last
      → IsServedBy shards rules may_answer begin after before shard_link last
  settled_on shards rules may_answer begin now after before shard_link buffered_conn last settled on =
      let serves = settled.serves in
      serves_on shards rules may_answer begin after before shard_link serves.flow serves.received last serves.shards_is
      serves.rules_are (is_sound buffered_conn.conn serves.flow serves.stopped.serves.conn_is).out serves.carries
      serves.recorded on

  -- the line was served over the channels
  serves_ended : (shards : ℕ) (rules : Rules) (may_answer : ℕ → Type 0) (begin now after : Sight) (before : Ends Near)
      (shard_link : ShardLink T C w g) (buffered_conn last : BufferedConn) (commands : ℕ) (broke : Bool)
      → (settled : Settled shards rules may_answer begin now before shard_link buffered_conn) →
      WasServed settled.serves.received begin after settled.serves.flow broke commands last
      → LineServed shards rules may_answer begin after before shard_link.ends last.conn commands broke
  serves_ended shards rules may_answer begin now after before shard_link buffered_conn last commands broke settled was =
      let serves = settled.serves in
      let flow = serves.flow in
      let carries = serves.carries in
      let served = was.served in
      let complete = settled_complete shards rules may_answer begin now before shard_link buffered_conn settled in
      record {
        flow = record flow { broken = broke; handed = served.handed };
        shards_is = serves.shards_is;
        rules_are = serves.rules_are;
        conn_is = served.conn_is;
        over = served.over;
        out = settled.all;
        received = serves.received;
        exchanges = record {
          same = carries.same;
          sent =
              λ s below. carries.sent s below
              ∙ ap (λ ps. sent_on before s ++ map request.Piece ps) (sent_all flow s settled.all);
          came = carries.came;
          answered = settled_all shards rules may_answer begin now before shard_link buffered_conn settled;
        };
        serves = carries.serves;
        story = served.story;
        moments = serves.stopped.serves.moments;
        counted = was.counted;
        reads = served.reads;
        complete = complete;
        rest = λ fit. at_rest flow broke served.handed settled.all served.rest (complete fit);
      }

  -- Where all commands taken are settled, what going on says of the line is so over the channels.
  pub settled_says : (did : LineStep) (shards : ℕ) (rules : Rules) (may_answer : ℕ → Type 0) (begin now after : Sight)
      (before : Ends Near) (shard_link : ShardLink T C w g) (buffered_conn last : BufferedConn)
      → (settled : Settled shards rules may_answer begin now before shard_link buffered_conn) →
      ServiceSays did settled.serves.received may_answer begin after settled.serves.flow last
      → LineSays did shards rules may_answer begin after before shard_link last
  unfolding serves_ended
  settled_says stepped.Did shards rules may_answer begin now after before shard_link buffered_conn last settled says =
      settled_on shards rules may_answer begin now after before shard_link buffered_conn last settled says
  settled_says stepped.Waits shards rules may_answer begin now after before shard_link buffered_conn last settled says =
      settled_on shards rules may_answer begin now after before shard_link buffered_conn last settled says
  settled_says (stepped.Ended served) shards rules may_answer begin now after before shard_link buffered_conn last
      settled says = record {
        served =
            serves_ended shards rules may_answer begin now after before shard_link buffered_conn last served.commands
            served.broke settled says;
        idle = settled.idle;
        recorded = settled_past shards rules may_answer begin now before shard_link buffered_conn settled;
        fits = λ keeps. (settled.recorded keeps).0.1.keys;
      }
