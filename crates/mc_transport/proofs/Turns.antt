-- How a turn ends.
use Rattle.std.proofs.Common.{◌≡◌, ℕ, Bool, true, false, ◌⊎◌, inl, inr, List, [], ◌∷◌, ◌++◌, ◌==◌, length, take, drop}
use Rattle.std.proofs.Common.{IsTrue, refl, sym, ap, subst, ◌∙◌, arith, append_assoc, append-nil}
use Rattle.std.specs.List.{concat}
use Rattle.std.proofs.lemmas.Bool.{eqb-true}
use Rattle.std.proofs.lemmas.List.{nil_from_length, take-append-drop, take_all}
use Rattle.std.proofs.lemmas.List.Folds.{concat-append}
use Rattle.mc_wire.specs.Sink.{BreaksOff, Read, Sight, asked, broke, gave, with_bytes, with_reads}
use Rattle.mc_wire.proofs.Sinks.{took-nil, with_bytes-append}
use Rattle.mc_ring.specs.Reply.{Shown}
use Rattle.mc_reader.specs.Spelling.{AreCommands, is_closed}
use Rattle.mc_conn.specs.declared.conn.Conn.{Conn}
use Rattle.mc_conn.specs.Conn.{HandsOut, IsConn}
use Rattle.mc_conn.specs.Fits.{KeysFit}
use Rattle.mc_conn.specs.Flow.{IsAllTaken, IsClosed, IsOver, Flow, all_texts, commands_of, waiting_text}
use Rattle.mc_conn.proofs.Staying.{is_sound}
use Rattle.mc_transport.specs.internal.Stands.{Serving, handed_texts}
use Rattle.mc_transport.specs.internal.Steps.{GoesOn, IsServed, all_handed}
use Rattle.mc_transport.proofs.Fronts.{closed_more}
use Rattle.mc_transport.specs.Story.{FailsAtRead}
use Rattle.mc_transport.proofs.Standing.{all_owed_later, commands-length, stands_asked, stands_over, with_reads-append}
use Rattle.mc_reader.proofs.Fronts.{begin_more}

handed_all : (flow : Flow) → handed_texts (all_handed flow) ≡ all_texts flow
handed_all flow = take_all (length (all_texts flow)) (all_texts flow) (omega arith)

-- the replies whose turn has come were handed out
pub hands : (received : ℕ → List Shown) (begin before now : Sight) (unread : List ℕ) (flow : Flow) (conn new : Conn)
    (count : ℕ) → IsConn conn flow → HandsOut flow count new before now → Serving received begin before unread flow
    → IsConn new (all_handed flow) × Serving received begin now unread (all_handed flow)
hands received begin before now unread flow conn new count is out serving =
    let sound = is_sound conn flow is in
    let counted = serving.counted in
    let texts = handed_texts flow in
    let later = drop flow.handed (all_texts flow) in
    let all : texts ++ later ≡ handed_texts (all_handed flow) = take-append-drop flow.handed (all_texts flow)
    ∙ sym (handed_all flow) in (
      rw (← out.all) out.now,
      record {
        read_is = ap (λ (s : Sight). s.given) out.written ∙ serving.read_is;
        ended_is = λ e. let was = serving.ended_is e in (ap (λ (s : Sight). s.ended) out.written ∙ was.0, was.1);
        open_is = λ e ended. serving.open_is e (sym (ap (λ (s : Sight). s.ended) out.written) ∙ ended);
        taken_is = ap (λ (s : Sight). s.taken) out.written
            ∙ (ap (λ t. with_bytes t (concat later)) serving.taken_is
            ∙ (with_bytes-append begin.taken (concat texts) (concat later)
            ∙ ap (λ t. with_bytes begin.taken t) (sym (concat-append texts later) ∙ ap concat all)));
        counted = rw (handed_all flow) sound.complete;
        reads = serving.reads;
        reads_are = ap (λ (s : Sight). s.reads) out.written ∙ serving.reads_are;
        owes_nothing = λ f.
            rw (← all, ← append-nil (commands_of flow.taken))
            (all_owed_later flow.rules begin (commands_of flow.taken) [] texts later serving.reads
            (omega (arith, counted, commands-length flow.taken)) (serving.owes_nothing f));
      },
    )

-- the line has ended, or was closed
pub ends : (received : ℕ → List Shown) (begin now : Sight) (unread : List ℕ) (flow : Flow) (conn : Conn)
    → IsConn conn (all_handed flow) → flow.broken ≡ false → IsOver flow
    → Serving received begin now unread (all_handed flow) → IsServed received begin now flow false conn
ends received begin now unread flow conn is whole over serving =
    let sound = is_sound conn (all_handed flow) is in
    let stands = rw (handed_all flow) at serving in
    let closed : IsClosed flow =
    elim over [ inl broken ↦ absurd (let bad : true ≡ false = sym broken ∙ whole in cc) | inr closed ↦ closed ] in
    let all_taken : IsAllTaken flow = elim closed [
      | inl shut ↦ (let P : List ℕ → Type 0 = λ bytes. AreCommands flow.rules bytes (commands_of flow.taken) in
          subst P (append-nil flow.fed) (closed_more flow.rules flow.fed [] (commands_of flow.taken) shut sound.begin))
      | inr all ↦ all.1
    ] in
    let read : AreCommands flow.rules (flow.fed ++ unread) (commands_of flow.taken)
    × (IsTrue now.ended ⊎ IsTrue (is_closed (commands_of flow.taken))) = elim closed [
      | inl shut ↦ (closed_more flow.rules flow.fed unread (commands_of flow.taken) shut sound.begin, inr shut)
      | inr all ↦ let is = stands.ended_is all.0 in (rw (is.1, append-nil) all.1, inl is.0)
    ] in
    record {
      handed = length (all_texts flow);
      conn_is = rw (← whole) is;
      over = inr closed;
      rest = λ e. (all_taken, refl);
      story = record {
        read = flow.fed ++ unread;
        written = concat (all_texts flow);
        read_is = stands.read_is;
        written_is = stands.taken_is;
        covers = read.0;
        writes = refl;
        may = sound.may;
        finished = λ e. read.1;
        breaks = λ e. absurd cc;
      };
      reads = λ f. record { reads = stands.reads; reads_are = stands.reads_are; each = stands.owes_nothing f };
    }

-- the line failed at a read
breaks_asked : (received : ℕ → List Shown) (begin before now : Sight) (unread : List ℕ) (flow : Flow) (conn : Conn)
    → IsConn conn (record flow { broken = true }) → BreaksOff (waiting_text flow) before now → FailsAtRead begin now
    → Serving received begin before unread flow → IsServed received begin now flow true conn
breaks_asked received begin before now unread flow conn is off fails serving =
    let sound = is_sound conn (record flow { broken = true }) is in
    let counted = serving.counted in
    let texts = handed_texts flow in
    let rest = drop flow.handed (all_texts flow) in
    let waiting = waiting_text flow in
    let all : all_texts flow ≡ texts ++ rest = sym (take-append-drop flow.handed (all_texts flow)) in
    record {
      handed = flow.handed;
      conn_is = is;
      over = inl refl;
      rest = λ e. absurd cc;
      story = record {
        read = flow.fed ++ unread;
        written = concat texts ++ take off.count waiting;
        read_is = ap (λ (s : Sight). s.given) off.sight ∙ serving.read_is;
        written_is =
            ap (λ (s : Sight). s.taken) off.sight
            ∙ (ap (λ t. with_bytes t (take off.count waiting)) serving.taken_is
            ∙ with_bytes-append begin.taken (concat texts) (take off.count waiting));
        covers = begin_more flow.rules flow.fed unread (commands_of flow.taken) sound.begin;
        writes = (
          drop off.count waiting,
          append_assoc (concat texts) (take off.count waiting) (drop off.count waiting)
              ∙ (ap (λ t. concat texts ++ t) (take-append-drop off.count waiting)
              ∙ (sym (concat-append texts rest) ∙ ap concat (sym all))),
        );
        may = sound.may;
        finished = λ e. absurd cc;
        breaks = λ e. inl (ap (λ (s : Sight). s.failed) off.sight, inl fails);
      };
      reads = λ f. record {
        reads = serving.reads;
        reads_are = ap (λ (s : Sight). s.reads) off.sight ∙ serving.reads_are;
        each =
            rw (all, ← append-nil (commands_of flow.taken))
            (all_owed_later flow.rules begin (commands_of flow.taken) [] texts rest serving.reads
            (omega (arith, counted, commands-length flow.taken)) (serving.owes_nothing f));
      };
    }

-- what has no length is empty
pub none_in : (bytes : List ℕ) → (length bytes == 0) ≡ true → bytes ≡ []
none_in bytes empty = nil_from_length bytes (eqb-true (length bytes) 0 empty)

-- all that was read is fed, every command of it taken and answered: the line is asked for more
asks : (received : ℕ → List Shown) (begin before : Sight) (unread : List ℕ) (flow : Flow) → IsAllTaken flow
    → (KeysFit flow.shards flow.taken received → length (all_texts flow) ≡ length flow.taken) → (length unread == 0)
    ≡ true → Serving received begin before unread (all_handed flow)
    → Serving received begin (asked before) [] (all_handed flow)
asks received begin before unread flow all complete empty serving =
    stands_asked flow.rules (KeysFit flow.shards flow.taken received) begin before flow.fed flow.ended flow.taken
    (handed_texts (all_handed flow)) all (λ f. ap length (handed_all flow) ∙ complete f)
    (rw (none_in unread empty) at serving)

-- more was requested of it, and it failed
fails_at : (begin before now : Sight) (reads : List Read) → before.reads ≡ with_reads begin.reads reads
    → (before.ended ≡ true → begin.ended ≡ true) → now ≡ broke (asked before) → FailsAtRead begin now
fails_at begin before now reads reads_are open_is fails =
    let P : Sight → Type 0 = λ seen. FailsAtRead begin seen in
    let read : Read = record { given = before.given; taken = before.taken } in
    subst P (sym fails) (record {
      before = reads;
      reads_are = ap (λ rs. with_reads rs (read ∷ [])) reads_are ∙ with_reads-append begin.reads reads (read ∷ []);
      open_is = open_is;
    })

-- the line failed at a read, once all replies were written
pub breaks_read : (received : ℕ → List Shown) (begin before now : Sight) (unread : List ℕ) (flow : Flow) (conn : Conn)
    → IsConn conn (record (all_handed flow) { broken = true }) → IsAllTaken flow
    → (KeysFit flow.shards flow.taken received → length (all_texts flow) ≡ length flow.taken) → flow.ended ≡ false → now
    ≡ broke (asked before) → (length unread == 0) ≡ true → Serving received begin before unread (all_handed flow)
    → IsServed received begin now flow true conn
breaks_read received begin before now unread flow conn is all complete open_is fails empty serving =
    let off : BreaksOff (waiting_text (all_handed flow)) (asked before) now =
    record { count = 0; within = omega arith; sight = fails ∙ ap broke (sym (took-nil (asked before))) } in
    let served = breaks_asked received begin (asked before) now [] (all_handed flow) conn is off
    (fails_at begin before now serving.reads serving.reads_are (serving.open_is open_is) fails)
    (asks received begin before unread flow all complete empty serving) in
    record {
      handed = served.handed;
      conn_is = served.conn_is;
      over = served.over;
      rest = served.rest;
      story = served.story;
      reads = served.reads;
    }

-- some of what was read is fed
pub goes_feed : (received : ℕ → List Shown) (begin now : Sight) (unread : List ℕ) (flow : Flow) (count : ℕ)
    (conn : Conn) → flow.ended ≡ false → IsConn conn (record (all_handed flow) { fed = flow.fed ++ take count unread })
    → Serving received begin now unread (all_handed flow) → GoesOn received begin now flow conn (drop count unread)
goes_feed received begin now unread flow count conn open_is is serving =
    let all : (flow.fed ++ take count unread) ++ drop count unread ≡ flow.fed ++ unread =
    append_assoc flow.fed (take count unread) (drop count unread)
    ∙ ap (λ u. flow.fed ++ u) (take-append-drop count unread) in
    record {
      fed = flow.fed ++ take count unread;
      ended = flow.ended;
      conn_is = is;
      serving =
          stands_over (λ f. f) (serving.read_is ∙ ap (λ u. with_bytes begin.given u) (sym all)) (λ e. absurd cc)
          serving.open_is refl refl serving;
    }

-- the line gave more, or none at its end
pub reads_more : (received : ℕ → List Shown) (begin before now : Sight) (unread more : List ℕ) (flow : Flow)
    (over : Bool) → IsAllTaken flow
    → (KeysFit flow.shards flow.taken received → length (all_texts flow) ≡ length flow.taken)
    → (over ≡ true → more ≡ []) → (over ≡ false → (length more == 0) ≡ false) → now ≡ gave more (asked before)
    → (length unread == 0) ≡ true → Serving received begin before unread (all_handed flow)
    → Serving received begin now more (record (all_handed flow) { ended = over })
reads_more received begin before now unread more flow over all complete none some gives empty serving =
    let after = asks received begin before unread flow all complete empty serving in
    let given : before.given ≡ with_bytes begin.given flow.fed = after.read_is
    ∙ ap (λ u. with_bytes begin.given u) (append-nil flow.fed) in
    stands_over (λ f. f) (ap (λ (s : Sight). s.given) gives
    ∙ (ap (λ g. with_bytes g more) given ∙ with_bytes-append begin.given flow.fed more))
    (λ e. (ap (λ (s : Sight). s.ended) gives ∙ ap (λ (xs : List ℕ). length xs == 0) (none e), none e))
    (λ e ended. absurd (let bad : true ≡ false = sym ended ∙ (ap (λ (s : Sight). s.ended) gives ∙ some e) in cc))
    (ap (λ (s : Sight). s.taken) gives) (ap (λ (s : Sight). s.reads) gives) after

-- it gave none: its input is at its end
pub goes_end : (received : ℕ → List Shown) (begin now : Sight) (left : List ℕ) (flow : Flow) (conn : Conn)
    → IsConn conn (record (all_handed flow) { ended = true })
    → Serving received begin now left (record (all_handed flow) { ended = true })
    → GoesOn received begin now flow conn left
goes_end received begin now left flow conn is serving =
    record { fed = flow.fed; ended = true; conn_is = is; serving = serving }
