-- A line is served step by step, whatever its shards sent.
use Rattle.std.proofs.Common.{◌≡◌, ℕ, ◌+◌, ◌-◌, ◌<◌, ◌≤◌, ◌^◌, min, Bool, List, [], ◌∷◌, ◌++◌, length, drop, refl}
use Rattle.std.proofs.Common.{sym, ap, subst, ◌∙◌, arith, append_assoc, append-nil, length-append}
use Rattle.std.specs.List.{concat, slice_get}
use Rattle.std.proofs.lemmas.List.{length-map, take-append-drop, take_all}
use Rattle.std.proofs.lemmas.List.Folds.{concat-append}
use Rattle.mc_wire.specs.Sink.{Listed, Sight, sight_out, took, with_bytes}
use Rattle.mc_wire.proofs.Sinks.{took-nil, with_bytes-append}
use Rattle.mc_reply.specs.declared.ticket.Ticket.{Ticket}
use Rattle.mc_ring.specs.Reply.{Shown}
use Rattle.mc_conn.specs.declared.conn.Conn.{Conn}
use Rattle.mc_conn.specs.declared.conn.Taken.{Taken as Took}
use Rattle.mc_conn.specs.declared.conn.Taken.TheVariants as took
use Rattle.mc_conn.specs.Conn.{HandsOut, IsConn, TakeSays, TakesCommand}
use Rattle.mc_conn.specs.Due.{due, channel, pieces_from}
use Rattle.mc_conn.specs.Fits.{KeysFit}
use Rattle.mc_conn.specs.History.{Taken}
use Rattle.mc_conn.specs.Flow.{KeepsHanded, Flow, all_texts, commands_of, new_flow, waiting_text}
use Rattle.mc_conn.proofs.Fitting.{due-append}
use Rattle.mc_conn.proofs.Gets.{get_front}
use Rattle.mc_conn.proofs.Staying.{is_sound, keeps_take}
use Rattle.mc_transport.specs.declared.read_side.ReadSide.{ReadSide}
use Rattle.mc_transport.specs.declared.buffered_conn.BufferedConn.{BufferedConn}
use Rattle.mc_transport.specs.declared.write_buffer.WriteBuffer.{WriteBuffer}
use Rattle.mc_transport.specs.Later.{text_in}
use Rattle.mc_transport.specs.Lines.{HasGrown, TakesFront}
use Rattle.mc_transport.specs.BufferedConn.{HasStopped, IsNew, IsServing, ServesOn, TakesAll}
use Rattle.mc_transport.specs.internal.Stands.{Serving, handed_texts}
use Rattle.mc_transport.specs.internal.Steps.{GoesOn, StopsAt, all_handed}
use Rattle.mc_transport.proofs.Along.{serving_along, stops_along}
use Rattle.mc_transport.proofs.Fronts.{begins_length}
use Rattle.mc_transport.proofs.Later.{grown_since, hands_waiting}
use Rattle.mc_transport.proofs.Standing.{commands-length, stands_first, stands_over, stands_take}
use Rattle.mc_transport.proofs.Turns.{hands}
use Rattle.mc_command.specs.declared.rules.Rules.{Rules}
use Rattle.mc_ring.proofs.Lists.{all_push}
use Rattle.mc_reply.specs.declared.server_stats.ServerStats.{ServerStats}

-- A line of which no replies wait is as it will be.
pub nothing_waits : (waits : List ℕ) (now : Sight) → waits ≡ [] → took waits now ≡ now
nothing_waits waits now none = ap (λ bytes. took bytes now) none ∙ took-nil now

-- What is new serves a line that begins, of which nothing was taken and for which no reply was received.
pub serving_first : (may_answer : ℕ → Type 0) (line : Sight) (shards : ℕ) (rules : Rules) (window : ℕ)
    (buffered_conn : BufferedConn) → IsNew shards rules window buffered_conn
    → IsServing (λ s. []) may_answer line line (new_flow shards rules window) buffered_conn
serving_first may_answer line shards rules window buffered_conn new = record {
  conn_is = new.conn_is;
  serving =
      let P : List ℕ → Type 0 = λ bytes. Serving (λ s. []) line line bytes (new_flow shards rules window) in
      let Q : Sight → Type 0 =
      λ seen. Serving (λ s. []) line seen buffered_conn.seat.unread (new_flow shards rules window) in
      subst Q (sym (nothing_waits (text_in buffered_conn.unwritten) line new.none_waits))
      (subst P (sym new.none_read) (stands_first rules (KeysFit shards [] (λ s. [])) line));
  grown = omega arith;
  moments = tt;
  unbroken = refl;
  counted = new.none_taken;
  written = [];
  written_is = sym (ap (λ (s : Sight). s.taken) (took-nil line));
  in_order = new.none_waits;
}

-- where the keys fit the pieces of more commands, they fit those of the first
keys_before : (shards : ℕ) (taken : List Taken) (one : Taken) (received : ℕ → List Shown)
    → KeysFit shards (taken ++ one ∷ []) received → KeysFit shards taken received
keys_before shards taken one received keys s i p reply asked came =
    let more = channel s (pieces_from shards (0 + length taken) (one ∷ [])) in
    keys s i p reply (ap (λ ps. slice_get ps i) (due-append shards s taken (one ∷ []))
    ∙ get_front (due shards s taken) more i p asked) came

-- one more command was taken, at a moment that may be, and it is counted
serving_take : {may_show : ServerStats → Type 0} (received : ℕ → List Shown) (may_answer : ℕ → Type 0)
    (begin now : Sight) (flow : Flow) (buffered_conn : BufferedConn) (conn : Conn) (later moment : ℕ) (ticket : Ticket)
    → may_answer moment → (opens : TakesCommand flow moment may_show ticket conn) → later
    ≡ min (ticket.0 + 1) (2 ^ 64 - 1) →
    IsServing received may_answer begin now flow buffered_conn
    → IsServing received may_answer begin now (record flow { taken = flow.taken ++ opens.one ∷ [] })
    (record buffered_conn { conn = conn; commands = later })
serving_take received may_answer begin now flow buffered_conn conn later moment ticket may opens later_is serves =
    let seen = took (text_in buffered_conn.unwritten) now in
    let unread = buffered_conn.seat.unread in
    let taken : List Taken = flow.taken ++ opens.one ∷ [] in
    let short = begins_length flow.rules flow.fed (commands_of taken) opens.next in
    let number = opens.number in
    record {
      conn_is = opens.now;
      serving =
          serving_along flow.rules received begin seen unread flow.fed flow.ended flow.shards taken (handed_texts flow)
          _ (sym (keeps_take buffered_conn.conn flow opens.one serves.conn_is).same)
          (stands_take flow.rules (KeysFit flow.shards flow.taken received) (KeysFit flow.shards taken received) begin
          seen unread flow.fed flow.ended flow.taken (handed_texts flow) opens.one
          (keys_before flow.shards flow.taken opens.one received) serves.serving);
      grown = serves.grown;
      moments =
          all_push (λ (x : Taken). may_answer x.moment) flow.taken opens.one serves.moments (rw opens.moment_is may);
      unbroken = serves.unbroken;
      counted =
          omega (
            arith,
            later_is,
            number,
            short,
            length-map taken (λ (x : Taken). x.entry),
            length-append flow.taken (opens.one ∷ []),
          );
      written = serves.written;
      written_is = serves.written_is;
      in_order =
          serves.in_order
          ∙ ap concat (sym (keeps_take buffered_conn.conn flow opens.one serves.conn_is).same);
    }

-- some commands more were taken, in each round one
pub record TakesSome (received : ℕ → List Shown) (may_answer : ℕ → Type 0) (begin now : Sight) (flow : Flow)
    (rounds : ℕ) (buffered_conn : BufferedConn) : Type 0 where
  pub taken : List Taken
  pub more : List Taken
  pub taken_is : taken ≡ flow.taken ++ more
  pub rounds_are : rounds ≤ length more
  pub serves : IsServing received may_answer begin now (record flow { taken = taken }) buffered_conn

-- Before any is taken it is served as it was.
pub takes_none : (received : ℕ → List Shown) (may_answer : ℕ → Type 0) (begin now : Sight) (flow : Flow)
    (buffered_conn : BufferedConn) → IsServing received may_answer begin now flow buffered_conn
    → TakesSome received may_answer begin now flow 0 buffered_conn
takes_none received may_answer begin now flow buffered_conn serves =
    record {
      taken = flow.taken;
      more = [];
      taken_is = sym (append-nil flow.taken);
      rounds_are = omega arith;
      serves = serves;
    }

-- The next command was taken, at a moment that may be.
pub takes_next : {may_show : ServerStats → Type 0} (received : ℕ → List Shown) (may_answer : ℕ → Type 0)
    (begin now : Sight) (flow : Flow) (rounds : ℕ) (buffered_conn : BufferedConn) (conn : Conn) (later moment : ℕ)
    (ticket : Ticket) → may_answer moment → TakeSays buffered_conn.conn moment may_show (took.Opened ticket) conn
    → later ≡ min (ticket.0 + 1) (2 ^ 64 - 1) →
    TakesSome received may_answer begin now flow rounds buffered_conn
    → TakesSome received may_answer begin now flow (rounds + 1) (record buffered_conn { conn = conn; commands = later })
takes_next {may_show} received may_answer begin now flow rounds buffered_conn conn later moment ticket may says later_is
    some =
    let opens : TakesCommand (record flow { taken = some.taken }) moment may_show ticket conn =
    says (record flow { taken = some.taken }) some.serves.conn_is in
    let so_far = some.rounds_are in
    record {
      taken = some.taken ++ opens.one ∷ [];
      more = some.more ++ opens.one ∷ [];
      taken_is =
          ap (λ taken. taken ++ opens.one ∷ []) some.taken_is ∙ append_assoc flow.taken some.more (opens.one ∷ []);
      rounds_are = omega (arith, so_far, length-append some.more (opens.one ∷ []));
      serves =
          serving_take received may_answer begin now (record flow { taken = some.taken }) buffered_conn conn later
          moment ticket may opens later_is some.serves;
    }

-- No more are taken of the connection as it is now, for this reason.
stops_now : (received : ℕ → List Shown) (may_answer : ℕ → Type 0) (begin now : Sight) (flow : Flow)
    (buffered_conn : BufferedConn) (conn : Conn) (stop : Took) (rounds : ℕ)
    (some : TakesSome received may_answer begin now flow rounds buffered_conn)
    → IsConn conn (record flow { taken = some.taken }) → StopsAt stop (record flow { taken = some.taken })
    → (stop ≡ took.Full → length some.taken ≡ flow.handed + flow.window)
    → TakesAll received may_answer begin now flow (record buffered_conn { conn = conn; stop = stop })
stops_now received may_answer begin now flow buffered_conn conn stop rounds some is stops full = record {
  on = record {
    fed = flow.fed;
    ended = flow.ended;
    handed = flow.handed;
    taken = some.taken;
    more = some.more;
    taken_is = some.taken_is;
    stopped = record {
      serves =
          record {
            conn_is = is;
            serving = some.serves.serving;
            grown = some.serves.grown;
            moments = some.serves.moments;
            unbroken = some.serves.unbroken;
            counted = some.serves.counted;
            written = some.serves.written;
            written_is = some.serves.written_is;
            in_order = some.serves.in_order;
          };
      stops = stops;
    };
  };
  full = full;
}

-- No further command was taken, and the call says why.
pub takes_stop : (may_show : ServerStats → Type 0) (received : ℕ → List Shown) (may_answer : ℕ → Type 0)
    (begin now : Sight) (flow : Flow) (buffered_conn : BufferedConn) (conn : Conn) (moment : ℕ) (stop : Took)
    → TakeSays buffered_conn.conn moment may_show stop conn → ((ticket : Ticket) → stop ≡ took.Opened ticket → ⊥)
    → (rounds : ℕ) →
    TakesSome received may_answer begin now flow rounds buffered_conn
    → TakesAll received may_answer begin now flow (record buffered_conn { conn = conn; stop = stop })
takes_stop may_show received may_answer begin now flow buffered_conn conn moment (took.Opened ticket) says other rounds
    some = absurd (other ticket refl)
takes_stop may_show received may_answer begin now flow buffered_conn conn moment took.NeedMore says other rounds some =
    let needs = says (record flow { taken = some.taken }) some.serves.conn_is in
    stops_now _ _ _ _ flow _ conn took.NeedMore rounds some needs.now (needs.all, needs.comes) (λ e. absurd cc)
takes_stop may_show received may_answer begin now flow buffered_conn conn moment took.Full says other rounds some =
    let fills = says (record flow { taken = some.taken }) some.serves.conn_is in let full = fills.full in
    stops_now _ _ _ _ flow _ conn took.Full rounds some fills.now (omega (arith, full)) (λ e. full)
takes_stop may_show received may_answer begin now flow buffered_conn conn moment took.Closed says other rounds some =
    let over = says (record flow { taken = some.taken }) some.serves.conn_is in
    stops_now _ _ _ _ flow _ conn took.Closed rounds some over.1 over.0 (λ e. absurd cc)

-- No connection has so many commands.
pub takes_full : (received : ℕ → List Shown) (may_answer : ℕ → Type 0) (begin now : Sight) (flow : Flow)
    (buffered_conn : BufferedConn) (rounds : ℕ) → 2 ^ 63 < rounds
    → TakesSome received may_answer begin now flow rounds buffered_conn → ⊥
takes_full received may_answer begin now flow buffered_conn rounds many some =
    let so_far = some.rounds_are in
    let sound = is_sound buffered_conn.conn (record flow { taken = some.taken }) some.serves.conn_is in
    let bound = begins_length flow.rules flow.fed (commands_of some.taken) sound.begin in
    omega (
      arith,
      many,
      so_far,
      bound,
      commands-length some.taken,
      ap length some.taken_is,
      length-append flow.taken some.more,
    )

-- Pieces have left and replies were accepted: the line is served as before, by the replies that were received since.
pub stops_carried : (received later : ℕ → List Shown) (may_answer : ℕ → Type 0) (begin now : Sight) (flow : Flow)
    (buffered_conn : BufferedConn) (conn : Conn) (out : ℕ) (lent : Bool) (accepted : List Shown)
    → (KeysFit flow.shards flow.taken later → KeysFit flow.shards flow.taken received) →
    IsConn conn (record flow { out = out; lent = lent; accepted = accepted })
    → KeepsHanded flow (record flow { out = out; lent = lent; accepted = accepted })
    → HasStopped received may_answer begin now flow buffered_conn
    → HasStopped later may_answer begin now (record flow { out = out; lent = lent; accepted = accepted })
    (record buffered_conn { conn = conn })
stops_carried received later may_answer begin now flow buffered_conn conn out lent accepted weaker is keeps stopped =
    let serves = stopped.serves in
    let seen = took (text_in buffered_conn.unwritten) now in
    let unread = buffered_conn.seat.unread in
    let stands = stands_over {after = KeysFit flow.shards flow.taken later} weaker serves.serving.read_is
    serves.serving.ended_is serves.serving.open_is refl refl serves.serving in
    record {
      serves = record {
        conn_is = is;
        serving =
            serving_along flow.rules later begin seen unread flow.fed flow.ended flow.shards flow.taken
            (handed_texts flow) _ (sym keeps.same) stands;
        grown = serves.grown;
        moments = serves.moments;
        unbroken = serves.unbroken;
        counted = serves.counted;
        written = serves.written;
        written_is = serves.written_is;
        in_order = serves.in_order ∙ ap concat (sym keeps.same);
      };
      stops = stops_along buffered_conn.stop flow out lent accepted flow.handed stopped.stops;
    }

-- The replies were handed out: they wait behind those that waited.
pub handed_out : (received : ℕ → List Shown) (may_answer : ℕ → Type 0) (begin now : Sight) (flow : Flow)
    (buffered_conn : BufferedConn) (conn : Conn) (count : ℕ) (waits : List ℕ) (was is : Bool)
    → HandsOut flow count conn (sight_out (Listed (text_in buffered_conn.unwritten)) was) (sight_out (Listed waits) is)
    → HasStopped received may_answer begin now flow buffered_conn
    → IsConn conn (all_handed flow)
    × Serving received begin (took waits now) buffered_conn.seat.unread (all_handed flow)
handed_out received may_answer begin now flow buffered_conn conn count waits was is out stopped =
    let waited = text_in buffered_conn.unwritten in
    hands received begin (took waited now) (took waits now) buffered_conn.seat.unread flow buffered_conn.conn conn count
    stopped.serves.conn_is (hands_waiting flow count conn waited waits was is now out) stopped.serves.serving

-- What waits, waits in another room.
pub stops_in : (received : ℕ → List Shown) (may_answer : ℕ → Type 0) (begin now : Sight) (flow : Flow)
    (buffered_conn : BufferedConn) (other : WriteBuffer) → text_in other ≡ text_in buffered_conn.unwritten
    → HasStopped received may_answer begin now flow buffered_conn
    → HasStopped received may_answer begin now flow (record buffered_conn { unwritten = other })
stops_in received may_answer begin now flow buffered_conn other same stopped =
    let serves = stopped.serves in
    let P : List ℕ → Type 0 = λ waits. Serving received begin (took waits now) buffered_conn.seat.unread flow in
    record {
      serves =
          record {
            conn_is = serves.conn_is;
            serving = subst P (sym same) serves.serving;
            grown = serves.grown;
            moments = serves.moments;
            unbroken = serves.unbroken;
            counted = serves.counted;
            written = serves.written;
            written_is = serves.written_is;
            in_order = ap (λ bytes. serves.written ++ bytes) same ∙ serves.in_order;
          };
      stops = stopped.stops;
    }

-- what was handed out waits behind what waited
pub waits_behind : (flow : Flow) (count : ℕ) (conn : Conn) (waited waits : List ℕ) (was is : Bool)
    → HandsOut flow count conn (sight_out (Listed waited) was) (sight_out (Listed waits) is)
    → waits ≡ waited ++ waiting_text flow
waits_behind flow count conn waited waits was is out =
    let listed : Listed waits ≡ Listed (waited ++ waiting_text flow) = ap (λ (s : Sight). s.taken) out.written in cc

-- The texts handed out, and then those whose turn has come, are all.
pub handed_and_waiting : (flow : Flow) → concat (handed_texts flow) ++ waiting_text flow ≡ concat (all_texts flow)
handed_and_waiting flow =
    sym (concat-append (handed_texts flow) (drop flow.handed (all_texts flow)))
    ∙ ap concat (take-append-drop flow.handed (all_texts flow))

handed_then : (flow : Flow) → concat (handed_texts flow) ++ waiting_text flow ≡ concat (handed_texts (all_handed flow))
handed_then flow =
    handed_and_waiting flow ∙ ap concat (sym (take_all (length (all_texts flow)) (all_texts flow) (omega arith)))

-- of these the line took some more, and the others wait
flushed_order : (written waited front left waits : List ℕ) (flow : Flow) → written ++ waited
    ≡ concat (handed_texts flow) → waits ≡ waited ++ waiting_text flow → front ++ left ≡ waits
    → (written ++ front) ++ left ≡ concat (handed_texts (all_handed flow))
flushed_order written waited front left waits flow in_order behind parts =
    append_assoc written front left
    ∙ (ap (λ l. written ++ l) (parts ∙ behind)
    ∙ (sym (append_assoc written waited (waiting_text flow))
    ∙ (ap (λ l. l ++ waiting_text flow) in_order ∙ handed_then flow)))

-- And the line took some of them: it is as if it took the rest.
pub stops_flushed : (received : ℕ → List Shown) (may_answer : ℕ → Type 0) (begin old now : Sight) (flow : Flow)
    (buffered_conn : BufferedConn) (conn : Conn) (waits : List ℕ) (left : WriteBuffer) → IsConn conn (all_handed flow)
    × Serving received begin (took waits old) buffered_conn.seat.unread (all_handed flow) → waits
    ≡ text_in buffered_conn.unwritten ++ waiting_text flow → took (text_in left) now ≡ took waits old
    → TakesFront waits (text_in left) old now → HasGrown old now
    → HasStopped received may_answer begin old flow buffered_conn
    → HasStopped received may_answer begin now (all_handed flow)
    (record buffered_conn { conn = conn; unwritten = left })
stops_flushed received may_answer begin old now flow buffered_conn conn waits left handed behind same takes more stopped
    =
    let serves = stopped.serves in
    let grown = serves.grown in
    let P : Sight → Type 0 = λ seen. Serving received begin seen buffered_conn.seat.unread (all_handed flow) in
    record {
      serves = record {
        conn_is = handed.0;
        serving = subst P (sym same) handed.1;
        grown = omega (arith, grown, more);
        moments = serves.moments;
        unbroken = serves.unbroken;
        counted = serves.counted;
        written = serves.written ++ takes.front;
        written_is =
            ap (λ (s : Sight). s.taken) takes.now
            ∙ (ap (λ t. with_bytes t takes.front) serves.written_is
            ∙ with_bytes-append begin.taken serves.written takes.front);
        in_order =
            flushed_order serves.written (text_in buffered_conn.unwritten) takes.front (text_in left) waits flow
            serves.in_order behind takes.parts;
      };
      stops =
          stops_along buffered_conn.stop flow flow.out flow.lent flow.accepted (length (all_texts flow)) stopped.stops;
    }

-- With the replies handed out and nothing read or taken it is served on.
pub serves_handed : (received : ℕ → List Shown) (may_answer : ℕ → Type 0) (begin now : Sight) (flow : Flow)
    (buffered_conn : BufferedConn) → HasStopped received may_answer begin now (all_handed flow) buffered_conn
    → ServesOn received may_answer begin now flow buffered_conn
serves_handed received may_answer begin now flow buffered_conn stopped =
    record {
      fed = flow.fed;
      ended = flow.ended;
      handed = length (all_texts flow);
      taken = flow.taken;
      more = [];
      taken_is = sym (append-nil flow.taken);
      stopped = stopped;
    }

-- what is known of a line that took all replies
pub record IsWritten (received : ℕ → List Shown) (begin now : Sight) (flow : Flow) (buffered_conn : BufferedConn) : Type
    0 where
  pub serving : Serving received begin now buffered_conn.seat.unread (all_handed flow)
  pub stops : StopsAt buffered_conn.stop (all_handed flow)

-- Where none waits the line took all replies.
pub written : (received : ℕ → List Shown) (may_answer : ℕ → Type 0) (begin now : Sight) (flow : Flow)
    (buffered_conn : BufferedConn) → text_in buffered_conn.unwritten ≡ []
    → HasStopped received may_answer begin now (all_handed flow) buffered_conn
    → IsWritten received begin now flow buffered_conn
written received may_answer begin now flow buffered_conn none stopped =
    let P : Sight → Type 0 = λ seen. Serving received begin seen buffered_conn.seat.unread (all_handed flow) in
    record {
      serving = subst P (nothing_waits (text_in buffered_conn.unwritten) now none) stopped.serves.serving;
      stops = stopped.stops;
    }

-- The line was read, or asked in vain: it is served as before, and commands may be taken.
pub serving_read : (received : ℕ → List Shown) (may_answer : ℕ → Type 0) (begin before now : Sight) (flow : Flow)
    (buffered_conn : BufferedConn) (conn : Conn) (seat : ReadSide) → text_in buffered_conn.unwritten ≡ []
    → HasStopped received may_answer begin before (all_handed flow) buffered_conn →
    (goes : GoesOn received begin now flow conn seat.unread)
    → IsServing received may_answer begin now (record (all_handed flow) { fed = goes.fed; ended = goes.ended })
    (record buffered_conn { conn = conn; seat = seat })
serving_read received may_answer begin before now flow buffered_conn conn seat none stopped goes =
    let P : Sight → Type 0 =
    λ seen. Serving received begin seen seat.unread (record (all_handed flow) { fed = goes.fed; ended = goes.ended }) in
    record {
      conn_is = goes.conn_is;
      serving = subst P (sym (nothing_waits (text_in buffered_conn.unwritten) now none)) goes.serving;
      grown = grown_since begin now _ goes.serving.taken_is;
      moments = stopped.serves.moments;
      unbroken = stopped.serves.unbroken;
      counted = stopped.serves.counted;
      written = concat (handed_texts (all_handed flow));
      written_is = goes.serving.taken_is;
      in_order =
          ap (λ bytes. concat (handed_texts (all_handed flow)) ++ bytes) none
          ∙ append-nil (concat (handed_texts (all_handed flow)));
    }

-- And commands were taken, as far as there are any.
pub serves_read : (received : ℕ → List Shown) (may_answer : ℕ → Type 0) (begin now : Sight) (flow : Flow) (fed : List ℕ)
    (ended : Bool) (buffered_conn : BufferedConn)
    → TakesAll received may_answer begin now (record (all_handed flow) { fed = fed; ended = ended }) buffered_conn
    → ServesOn received may_answer begin now flow buffered_conn
serves_read received may_answer begin now flow fed ended buffered_conn takes =
    let on = takes.on in
    record {
      fed = on.fed;
      ended = on.ended;
      handed = on.handed;
      taken = on.taken;
      more = on.more;
      taken_is = on.taken_is;
      stopped = on.stopped;
    }
