-- Replies that were handed out and wait for their line: what is seen of the line once it took them.
use Rattle.std.proofs.Common.{◌≡◌, ℕ, ◌-◌, ◌<◌, ◌≤◌, inl, inr, Bool, true, List, [], ◌++◌, length, take, drop, refl}
use Rattle.std.proofs.Common.{sym, ap, subst, ◌∙◌, arith, append_assoc, append-nil}
use Rattle.std.specs.List.{concat}
use Rattle.std.proofs.lemmas.List.{take-append-drop, take_all}
use Rattle.std.proofs.lemmas.List.Folds.{concat-append}
use Rattle.mc_wire.specs.Sink.{Listed, Sight, Trace, broke, sight_out, took, with_bytes}
use Rattle.mc_wire.proofs.Sinks.{took-append}
use Rattle.mc_ring.specs.Reply.{Shown}
use Rattle.mc_conn.specs.declared.conn.Conn.{Conn}
use Rattle.mc_conn.specs.Conn.{HandsOut, IsConn}
use Rattle.mc_conn.specs.Flow.{Flow, all_texts, commands_of, waiting_text}
use Rattle.mc_conn.proofs.Staying.{is_sound}
use Rattle.mc_transport.specs.Lines.{HasGrown, flow as bytes_flow}
use Rattle.mc_transport.specs.Story.{Breaks}
use Rattle.mc_transport.specs.internal.Stands.{Serving, handed_texts}
use Rattle.mc_transport.specs.internal.Steps.{IsServed, all_handed}
use Rattle.mc_transport.proofs.Traces.{flow-grows, traces}
use Rattle.mc_transport.proofs.Standing.{all_owed_later, commands-length}
use Rattle.mc_reader.proofs.Fronts.{begin_more}

-- of a line that has taken what it is said to have taken since it began
pub grown_since : (begin now : Sight) (bytes : List ℕ) → now.taken ≡ with_bytes begin.taken bytes → HasGrown begin now
grown_since begin now bytes taken =
    let P : Trace → Type 0 = λ trace. bytes_flow begin.taken ≤ bytes_flow trace in
    subst P (sym taken) (flow-grows begin.taken bytes)

-- what was handed out waits behind what waited
pub hands_waiting : (flow : Flow) (count : ℕ) (new : Conn) (waited waits : List ℕ) (was is : Bool) (now : Sight)
    → HandsOut flow count new (sight_out (Listed waited) was) (sight_out (Listed waits) is)
    → HandsOut flow count new (took waited now) (took waits now)
hands_waiting flow count new waited waits was is now out =
    let text = waiting_text flow in
    let listed : Listed waits ≡ Listed (waited ++ text) = ap (λ (s : Sight). s.taken) out.written in
    let behind : waits ≡ waited ++ text = cc in
    record {
      whole = out.whole;
      all = out.all;
      written = ap (λ bytes. took bytes now) behind ∙ sym (took-append now waited text);
      now = out.now;
      together = out.together;
      none_waits = out.none_waits;
    }

-- that a line has failed changes nothing of how it is served
serving_broke : (received : ℕ → List Shown) (begin now : Sight) (unread : List ℕ) (flow : Flow)
    → Serving received begin now unread flow → Serving received begin (broke now) unread flow
serving_broke received begin now unread flow serving = record {
  read_is = serving.read_is;
  ended_is = serving.ended_is;
  open_is = serving.open_is;
  taken_is = serving.taken_is;
  counted = serving.counted;
  reads = serving.reads;
  reads_are = serving.reads_are;
  owes_nothing = serving.owes_nothing;
}

-- the line broke while replies waited: it took a beginning of those handed out
pub breaks_waiting : (received : ℕ → List Shown) (begin now : Sight) (waits unread : List ℕ) (flow : Flow) (conn : Conn)
    → IsConn conn (record flow { broken = true }) → Breaks begin now (all_texts flow) → HasGrown begin now
    → Serving received begin (took waits now) unread flow → IsServed received begin now flow true conn
breaks_waiting received begin now waits unread flow conn is breaks grown serving =
    let sound = is_sound conn (record flow { broken = true }) is in
    let counted = serving.counted in
    let texts = handed_texts flow in
    let rest = drop flow.handed (all_texts flow) in
    let text = concat texts in
    let count = length text - length waits in
    let all : all_texts flow ≡ texts ++ rest = sym (take-append-drop flow.handed (all_texts flow)) in
    record {
      handed = flow.handed;
      conn_is = is;
      over = inl refl;
      rest = λ e. absurd cc;
      story = record {
        read = flow.fed ++ unread;
        written = take count text;
        read_is = serving.read_is;
        written_is = traces begin.taken now.taken waits text serving.taken_is grown;
        covers = begin_more flow.rules flow.fed unread (commands_of flow.taken) sound.begin;
        writes = (
          drop count text ++ concat rest,
          sym (append_assoc (take count text) (drop count text) (concat rest))
              ∙ (ap (λ t. t ++ concat rest) (take-append-drop count text)
              ∙ (sym (concat-append texts rest) ∙ ap concat (sym all))),
        );
        may = sound.may;
        finished = λ e. absurd cc;
        breaks = λ e. breaks;
      };
      reads = λ f. record {
        reads = serving.reads;
        reads_are = serving.reads_are;
        each =
            rw (all, ← append-nil (commands_of flow.taken))
            (all_owed_later flow.rules begin (commands_of flow.taken) [] texts rest serving.reads
            (omega (arith, counted, commands-length flow.taken)) (serving.owes_nothing f));
      };
    }

-- the line was given up while replies waited
pub breaks_given_up : (received : ℕ → List Shown) (begin now : Sight) (waits unread : List ℕ) (flow : Flow)
    (conn : Conn) → IsConn conn (record flow { broken = true }) → flow.handed < length (all_texts flow)
    → HasGrown begin now → Serving received begin (took waits now) unread flow
    → IsServed received begin now flow true conn
breaks_given_up received begin now waits unread flow conn is more grown serving =
    breaks_waiting received begin now waits unread flow conn is
    (inr (record { count = flow.handed; more = more; rest = waits; owed = serving.taken_is })) grown serving

-- the line failed while it took replies that waited
pub breaks_flushing : (received : ℕ → List Shown) (begin old new : Sight) (waited waits unread : List ℕ) (flow : Flow)
    (conn : Conn) → IsConn conn (record (all_handed flow) { broken = true }) → 0 < length waits → took waits new
    ≡ broke (took waited old) → HasGrown begin new → Serving received begin (took waited old) unread (all_handed flow)
    → IsServed received begin new flow true conn
breaks_flushing received begin old new waited waits unread flow conn is some fails grown serving =
    let P : Sight → Type 0 = λ now. Serving received begin now unread (all_handed flow) in
    let failed : new.failed ≡ true = ap (λ (s : Sight). s.failed) fails in
    let whole : concat (handed_texts (all_handed flow)) ≡ concat (all_texts flow) =
    ap concat (take_all (length (all_texts flow)) (all_texts flow) (omega arith)) in
    let owed : with_bytes new.taken waits ≡ with_bytes begin.taken (concat (all_texts flow)) =
    ap (λ (s : Sight). s.taken) fails ∙ (serving.taken_is ∙ ap (λ bytes. with_bytes begin.taken bytes) whole) in
    let served = breaks_waiting received begin new waits unread (all_handed flow) conn is
    (inl (failed, inr (record { rest = waits; some = some; owed = owed }))) grown
    (subst P (sym fails) (serving_broke received begin (took waited old) unread (all_handed flow) serving)) in
    record {
      handed = served.handed;
      conn_is = served.conn_is;
      over = served.over;
      rest = served.rest;
      story = served.story;
      reads = served.reads;
    }
