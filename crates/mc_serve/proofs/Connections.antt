-- Connections over streams, by the histories of the sources that accepted them.
use Rattle.std.proofs.Common.{◌≡◌, ℕ, suc, ◌+◌, ◌-◌, ◌^◌, ◌≤◌, min, Bool, true, false, List, [], ◌∷◌, ◌++◌, length, map}
use Rattle.std.proofs.Common.{Option, Some, None, refl, sym, ap, subst, ◌∙◌, append_assoc, append-nil, arith}
use Rattle.std.specs.List.{AllByRecursion, slice_get}
use Rattle.std.proofs.lemmas.List.{length-map}
use Rattle.std.specs.Io.KnownBytes.{Appends, Consumes}
use Rattle.std.specs.declared.snapshot.Snapshot.{Snapshot}
use Rattle.mc_wire.specs.Sink.{Counted, Listed, Read, Sight, Trace, Unlisted, with_reads}
use Rattle.mc_poll.specs.Zips.{Zips}
use Rattle.mc_ring.proofs.Lists.{get_map}
use Rattle.mc_sizes.specs.declared.sizes.Sizes.{Sizes}
use Rattle.mc_conn.specs.History.{AnsweredCommand}
use Rattle.mc_history.specs.Tokens.{Sight as Shown}
use Rattle.mc_transport.specs.Explains.{IsLogOfLines, LineFlow}
use Rattle.mc_net.specs.declared.stream.Stream.{Ghosts}
use Rattle.mc_net.specs.declared.stream_source.ClosedConnection.{ClosedConnection}
use Rattle.mc_net.specs.declared.tcp_connection.TcpConnection.{TcpConnection}
use Rattle.mc_net.specs.Flow.{Comes, SourceFlow, IsDone, IsFree, TellsLines, TellsNothing, closed}
use Rattle.mc_net.specs.Tcp.{IsServed, gone_count, gone_line, gone_lines, new_source, new_line, new_lines, note_of}
use Rattle.mc_net.specs.Tcp.{flow_source, trace_of}
use Rattle.mc_serve.specs.Served.{ExplainsHistory, PassEach, PassesAll, ServesSources}
use Rattle.mc_serve.specs.Connections.{AreServed, ServesConnections, how_many, seats_of}
use Rattle.mc_serve.specs.declared.outcome.Outcome.{Outcome}
use Rattle.mc_model.proofs.Lists.{all_from}
use Rattle.mc_session.proofs.Orders.{map_one}
use Rattle.mc_serve.proofs.Zipped.{map_map}

-- the bytes of a trace that lists them
of_trace : Trace → Option (List ℕ)
of_trace Unlisted = None
of_trace (Counted count) = None
of_trace (Listed bytes) = Some bytes

of_trace-of : (bytes : Option (List ℕ)) → of_trace (trace_of bytes) ≡ bytes
unfolding of_trace
of_trace-of None = refl
of_trace-of (Some bytes) = refl

-- Equal traces list equal bytes.
bytes_same : (these those : Option (List ℕ)) → trace_of these ≡ trace_of those → these ≡ those
bytes_same these those same = sym (of_trace-of these) ∙ (ap of_trace same ∙ of_trace-of those)

unlisted : Read
unlisted = record { given = Unlisted; taken = Unlisted }

-- the first of these notes
first_note : Option (List Read) → Read
first_note None = unlisted
first_note (Some []) = unlisted
first_note (Some (note ∷ notes)) = note

-- A connection's notes begin with those that it had before.
pub record KeepsNotes (line : LineFlow) : Type 0 where
  reads : List Read
  are : line.now.reads ≡ with_reads line.begin.reads reads

notes_kept : (sizes : Sizes) (may_answer : ℕ → Type 0) (lines : List LineFlow) (histories : List (List AnsweredCommand))
    → Zips (ExplainsHistory sizes may_answer) lines histories → AllByRecursion KeepsNotes lines
notes_kept sizes may_answer [] [] zips = tt
notes_kept sizes may_answer [] (history ∷ histories) zips = absurd zips
notes_kept sizes may_answer (line ∷ lines) [] zips = absurd zips
notes_kept sizes may_answer (line ∷ lines) (history ∷ histories) zips = (
  record { reads = zips.0.reads.reads; are = zips.0.reads.reads_are },
  notes_kept sizes may_answer lines histories zips.1,
)

-- A connection that was accepted over this stream was served over it until its end.
is_served : {S T : Type 0} {g : Ghosts S} (stream : S) (one : ClosedConnection S T g)
    → new_line (g.remaining stream) (g.contents stream) ≡ (gone_line one).begin → KeepsNotes (gone_line one)
    → IsServed stream one
unfolding first_note
is_served {S} {T} {g} stream one is kept =
    let begin = one.line.value.tap.begin.value in
    let note : note_of (g.remaining begin) (g.contents begin) ≡ note_of (g.remaining stream) (g.contents stream) =
    ap first_note kept.are ∙ ap (λ (sight : Sight). first_note sight.reads) (sym is) in
    let remaining : g.remaining begin ≡ g.remaining stream =
    bytes_same (g.remaining begin) (g.remaining stream) (ap (λ (read : Read). read.given) note) in
    let contents : g.contents begin ≡ g.contents stream =
    bytes_same (g.contents begin) (g.contents stream) (ap (λ (read : Read). read.taken) note) in
    let tap = one.line.value.tap in
    record {
      gave = let P : Option (List ℕ) → Type 0 =
          λ bytes. Consumes bytes (g.remaining tap.stream) tap.given in subst P remaining tap.gave;
      took = let P : Option (List ℕ) → Type 0 =
          λ bytes. Appends bytes (g.contents tap.stream) tap.taken in subst P contents tap.took;
    }

first_of : Sight → List Sight → Sight
first_of none [] = none
first_of none (line ∷ lines) = line

rest_of : List Sight → List Sight
rest_of [] = []
rest_of (line ∷ lines) = lines

-- All streams of a slot were served.
all_served : {S T : Type 0} {g : Ghosts S} (streams : List S) (gone : List (ClosedConnection S T g × Unit {0}))
    → map (λ stream. new_line (g.remaining stream) (g.contents stream)) streams
    ≡ map (λ line. line.begin) (gone_lines gone) → AllByRecursion KeepsNotes (gone_lines gone)
    → Zips (λ stream one. IsServed stream one.0) streams gone
unfolding first_of rest_of
all_served [] [] came kept = tt
all_served [] (one ∷ gone) came kept = absurd (cc)
all_served (stream ∷ streams) [] came kept = absurd (cc)
all_served (stream ∷ streams) (one ∷ gone) came kept = (
  is_served stream one.0 (ap (first_of (gone_line one.0).begin) came) kept.0,
  all_served streams gone (ap rest_of came) kept.1,
)

-- Each connection was served over the stream with which it was accepted.
pub all_own : {S T : Type 0} {g : Ghosts S} (gone : List (ClosedConnection S T g × Unit {0})) → AreServed None gone
all_own [] = tt
all_own (one ∷ gone) = (record { gave = one.0.line.value.tap.gave; took = one.0.line.value.tap.took }, all_own gone)

own_seats : {S T : Type 0} {g : Ghosts S} (seats : List (List (ClosedConnection S T g × Unit {0})))
    → AllByRecursion (AreServed None) seats
own_seats [] = tt
own_seats (gone ∷ seats) = (all_own gone, own_seats seats)

-- A source that began new has taken back exactly the connections that it accepted.
record IsAllBack (coming : Option (List Sight)) (lines : List LineFlow) (after : SourceFlow) : Type 0 where
  rest : Option (List Sight)
  back : after ≡ TellsLines rest None lines true
  comes : Comes coming (map (λ line. line.begin) lines) rest
  done : IsDone (TellsLines rest None lines false)

all_back : (coming : Option (List Sight)) (lines : List LineFlow) (after : SourceFlow)
    → PassesAll (TellsLines coming None [] false) lines after → IsAllBack coming lines after
all_back coming lines after all =
    let is = all.passes.2 in
    record {
      rest = all.passes.0;
      back = all.over ∙ ap closed is;
      comes = all.passes.1;
      done = let D : SourceFlow → Type 0 = λ source. IsDone source in subst D is all.done;
    }

-- If no more streams come, all that were to come have come.
all_came : (coming lines : List Sight) (rest : Option (List Sight)) (back : List LineFlow)
    → Comes (Some coming) lines rest → IsDone (TellsLines rest None back false) → coming ≡ lines
all_came coming lines rest back comes done =
    let D : Option (List Sight) → Type 0 = λ left. IsDone (TellsLines left None back false) in
    let none : comes.0 ≡ [] = subst D comes.2 done in
    comes.1 ∙ (ap (λ left. lines ++ left) none ∙ append-nil lines)

seat_served : {S T : Type 0} {g : Ghosts S} (coming : Option (List S)) (gone : List (ClosedConnection S T g × Unit {0}))
    (after : SourceFlow) → IsAllBack (new_lines g.remaining g.contents coming) (gone_lines gone) after
    → AllByRecursion KeepsNotes (gone_lines gone) → AreServed coming gone
seat_served None gone after all kept = all_own gone
seat_served {g = g} (Some streams) gone after all kept =
    all_served streams gone (all_came (map (λ stream. new_line (g.remaining stream) (g.contents stream)) streams)
    (map (λ line. line.begin) (gone_lines gone)) all.rest (gone_lines gone) all.comes all.done) kept

-- the connections that were returned to a source
back_lines : SourceFlow → List LineFlow
back_lines TellsNothing = []
back_lines (TellsLines coming out back over) = back

-- Sources of streams before and after the run.
module _ {S A D : Type 0} {g : Ghosts S} (coming : A → Option (List S)) (coming_by : D → Option (List S))
    (out : D → Option (Snapshot (TcpConnection S Shown g))) (gone : D → List (ClosedConnection S Shown g × Unit {0}))
    (over : D → Bool) where
  abbrev flow : D → SourceFlow
  flow source = flow_source (coming_by source) (out source) (gone source) (over source)

  abbrev fresh : A → SourceFlow
  fresh one = new_source g.remaining g.contents (coming one)

  -- The connections of each slot are those of its source, and were served.
  record AreSeats (arrivals : List A) (seats : List (List LineFlow)) (back : List D) : Type 0 where
    lines : seats ≡ map (λ source. gone_lines (gone source)) back
    count : length back ≡ length arrivals
    served : AllByRecursion (AllByRecursion KeepsNotes) seats → Zips AreServed (map coming arrivals) (map gone back)

  are_seats : (arrivals : List A) (seats : List (List LineFlow)) (back : List D)
      → PassEach (map fresh arrivals) seats (map flow back) → AreSeats arrivals seats back
  unfolding back_lines
  are_seats [] [] [] each = record { lines = refl; count = refl; served = λ kept. tt }
  are_seats [] [] (source ∷ back) each = absurd each
  are_seats [] (lines ∷ seats) back each = absurd each
  are_seats (one ∷ arrivals) [] back each = absurd each
  are_seats (one ∷ arrivals) (lines ∷ seats) [] each = absurd each
  are_seats (one ∷ arrivals) (lines ∷ seats) (source ∷ back) each =
      let this = all_back (new_lines g.remaining g.contents (coming one)) lines (flow source) each.0 in
      let are : gone_lines (gone source) ≡ lines = ap back_lines this.back in
      let rest = are_seats arrivals seats back each.1 in
      let B : List LineFlow → Type 0 =
      λ flow_lines. IsAllBack (new_lines g.remaining g.contents (coming one)) flow_lines (flow source) in
      let K : List LineFlow → Type 0 = λ flow_lines. AllByRecursion KeepsNotes flow_lines in
      record {
        lines = ap (λ first. first ∷ seats) (sym are) ∙ ap (λ others. gone_lines (gone source) ∷ others) rest.lines;
        count = ap suc rest.count;
        served =
            λ kept. (
              seat_served (coming one) (gone source) (flow source) (subst B (sym are) this)
                  (subst K (sym are) kept.0),
              rest.served kept.1,
            );
      }

  -- The number of connections that were returned to all sources.
  pub all_gone : (back : List D) → gone_count (map flow back) ≡ how_many (map gone back)
  all_gone [] = refl
  all_gone (source ∷ back) =
      ap (λ n. n + gone_count (map flow back)) (length-map (gone source) (λ one. gone_line one.0))
      ∙ ap (λ n. length (gone source) + n) (all_gone back)

  all_fresh : (arrivals : List A) → AllByRecursion IsFree (map fresh arrivals)
  all_fresh [] = tt
  all_fresh (one ∷ arrivals) = (refl, all_fresh arrivals)

  all_unlisted : (sources : List D) → AllByRecursion IsFree (map flow sources)
      → AllByRecursion (λ source. IsFree (flow source)) sources
  all_unlisted [] all = tt
  all_unlisted (source ∷ sources) all = (all.0, all_unlisted sources all.1)

  -- A new source has accepted no connection.
  pub all_free : (sources : List D) (arrivals : List A) → map flow sources ≡ map fresh arrivals
      → AllByRecursion (λ source. IsFree (flow source)) sources
  all_free sources arrivals same =
      let F : List SourceFlow → Type 0 = λ flows. AllByRecursion IsFree flows in
      all_unlisted sources (subst F (sym same) (all_fresh arrivals))

  -- There are as many sources as arrivals.
  pub as_many : (sources : List D) (arrivals : List A) → map flow sources ≡ map fresh arrivals → length sources
      ≡ length arrivals
  as_many sources arrivals same = sym (length-map sources flow) ∙ (ap length same ∙ length-map arrivals fresh)

  -- One log explains all connections, and all streams were served.
  pub record AreConnections (sizes : Sizes) (may_answer : ℕ → Type 0) (arrivals : List A) (served : Outcome S g) : Type
      0 where
    pub explained : ServesConnections sizes may_answer served
    pub streams : Zips AreServed (map coming arrivals) (seats_of served)

  pub all_connections : (sizes : Sizes) (may_answer : ℕ → Type 0) (arrivals : List A) (back : List D)
      (served : Outcome S g) → length arrivals ≡ sizes.seats
      → ServesSources sizes may_answer (map fresh arrivals) (map flow back) served.evidence
      → served.ended ≡ min (gone_count (map flow back)) (2 ^ 64 - 1) → seats_of served ≡ map gone back
      → AreConnections sizes may_answer arrivals served
  all_connections sizes may_answer arrivals back served count serves counted are =
      let seats = are_seats arrivals serves.seats back serves.back in
      let lines : serves.seats ≡ map gone_lines (seats_of served) = seats.lines
      ∙ (map_map gone gone_lines back ∙ ap (map gone_lines) (sym are)) in
      let kept = all_from (AllByRecursion KeepsNotes) serves.seats
      (λ i flow_lines here. (let explains = serves.each i flow_lines here in
      notes_kept sizes may_answer flow_lines explains.histories explains.each)) in
      let many : length (seats_of served) ≡ length arrivals = ap length are ∙ (length-map back gone ∙ seats.count) in
      let Z : List (List (ClosedConnection S Shown g × Unit {0})) → Type 0 =
      λ these. Zips AreServed (map coming arrivals) these in
      let L : ℕ → Type 0 = λ n. IsLogOfLines sizes n serves.log in
      record {
        explained = record {
          as_many = many ∙ count;
          counted = counted ∙ ap (λ n. min n (2 ^ 64 - 1)) (all_gone back ∙ ap how_many (sym are));
          whole = own_seats (seats_of served);
          log = serves.log;
          log_is = subst L (ap length lines ∙ length-map (seats_of served) gone_lines) serves.log_is;
          history = serves.history;
          each =
              λ seat these here. serves.each seat (gone_lines these)
              (ap (λ all. slice_get all seat) lines ∙ get_map gone_lines (seats_of served) seat these here);
        };
        streams = subst Z (sym are) (seats.served kept);
      }

  -- All connections are served and explained, from the facts about the sources.
  pub joined : (sizes : Sizes) (may_answer : ℕ → Type 0) (arrivals : List A) (sources back : List D)
      (served : Outcome S g) → map flow sources ≡ map fresh arrivals
      → ServesSources (record sizes { seats = length sources }) may_answer (map flow sources) (map flow back)
      served.evidence → (served.ended ≡ min (gone_count (map flow back)) (2 ^ 64 - 1))
      × (seats_of served ≡ map gone back)
      → AreConnections (record sizes { seats = length arrivals }) may_answer arrivals served
  joined sizes may_answer arrivals sources back served same serves got =
      let P : ℕ → List SourceFlow → Type 0 =
      λ n before. ServesSources (record sizes { seats = n }) may_answer before (map flow back) served.evidence in
      let all = subst (λ n. P n (map fresh arrivals)) (as_many sources arrivals same)
      (subst (λ before. P (length sources) before) same serves) in
      all_connections (record sizes { seats = length arrivals }) may_answer arrivals back served refl all got.0 got.1

-- The saturating count, with one more source.
pub count_more : (ended next one gone rest left all : ℕ) → next ≡ min (ended + one) (2 ^ 64 - 1) → one
    ≡ min gone (2 ^ 64 - 1) → left ≡ gone + rest → min (ended + left) (2 ^ 64 - 1) ≡ all
    → min (next + rest) (2 ^ 64 - 1) ≡ all
count_more ended next one gone rest left all next_is one_is left_is same = omega (arith, next_is, one_is, left_is, same)

-- If no connections are left to count, a count of at most 2^64 - 1 is the count of all.
pub count_all : (ended left all : ℕ) → ended ≤ 2 ^ 64 - 1 → left ≡ 0 → min (ended + left) (2 ^ 64 - 1) ≡ all → ended
    ≡ all
count_all ended left all within none same = omega (arith, within, none, same)

-- One more of those that are left is listed.
pub note_more : {A B D : Type 0} (f : A → B) (h : D → B) (old new : List A) (one : A) (source : D) (left rest : List D)
    (all : List B) → new ≡ old ++ one ∷ [] → f one ≡ h source → left ≡ source ∷ rest → map f old ++ map h left ≡ all
    → map f new ++ map h rest ≡ all
note_more f h old new one source left rest all are same next so_far =
    ap (λ xs. map f xs ++ map h rest) are
    ∙ (ap (λ ys. ys ++ map h rest) (map_one f old one ∙ ap (λ y. map f old ++ y ∷ []) same)
    ∙ (append_assoc (map f old) (h source ∷ []) (map h rest)
    ∙ (ap (λ ds. map f old ++ map h ds) (sym next) ∙ so_far)))
