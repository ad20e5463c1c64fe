-- What the shards ran for a slot, from a history with all that the slot's clerk recorded.
use Rattle.std.proofs.Common.{◌≡◌, ℕ, zero, suc, ◌<◌, ◌==◌, true, false, cond, List, [], ◌∷◌, ◌++◌, length, map}
use Rattle.std.proofs.Common.{refl, sym, ap, subst, ◌∙◌, ◌+◌, arith, append-nil, length-append}
use Rattle.std.specs.Prelude.{slice_index_or}
use Rattle.std.specs.List.{AllByRecursion}
use Rattle.std.proofs.lemmas.List.{length-map, map-append}
use Rattle.mc_sizes.specs.declared.sizes.Sizes.{Sizes}
use Rattle.mc_split.specs.declared.plan.Piece.{Piece}
use Rattle.mc_store.specs.State.{State}
use Rattle.mc_ring.specs.declared.request.Request.TheVariants as request
use Rattle.mc_ring.specs.Channel.{Near}
use Rattle.mc_ring.specs.Ends.{Ends, received_on, sent_on}
use Rattle.mc_ring.specs.Reply.{Shown}
use Rattle.mc_model.specs.Grows.{Lengthens}
use Rattle.mc_model.proofs.Growing.{further}
use Rattle.mc_model.specs.Log.{Entry, Run, of_asker, on_shard, pieces_in, replies_in, reply_to}
use Rattle.mc_model.specs.Sized.{empty_shard}
use Rattle.mc_transport.specs.Explains.{IsLogOfLines}
use Rattle.mc_history.specs.declared.event.Event.{Event}
use Rattle.mc_history.specs.declared.knowledge.Role.{Role}
use Rattle.mc_history.specs.declared.knowledge.Role.TheVariants.{Seat}
use Rattle.mc_history.specs.Lawful.{IsHistory}
use Rattle.mc_history.specs.Roles.{own_part, seat_of}
use Rattle.mc_history.specs.Tokens.{Acting}
use Rattle.mc_history.specs.Worlds.{asked, ran_in, ran_on, seats_in, work_on}
use Rattle.mc_history.proofs.Channels.{on_shard-asked}
use Rattle.mc_history.proofs.Holds.{holds}
use Rattle.mc_history.proofs.Seats.{ran_grows, work_stays}
use Rattle.mc_record.specs.Clerk.{answers_at, work_at}
use Rattle.mc_record.specs.Closing.{IsWholeIn}
use Rattle.mc_record.specs.Recorder.{seated}
use Rattle.mc_record.proofs.Recording.{of_seat, seated_pieces, seated_replies}
use Rattle.mc_serve.specs.Seats.{HasRecorded}
use Rattle.mc_serve.specs.Served.{log_by}
use Rattle.mc_serve.proofs.Zipped.{empty_when, map_map}

-- These pieces were run, in this order, with these replies.
pub record AreRun (asked : List Piece) (got : List Shown) (log : List Entry) : Type 0 where
  pub pieces : asked ≡ pieces_in log
  pub replies : got ≡ replies_in log

-- Lists of requests with the same pieces in the same order have equal lists of pieces.
same_pieces : (xs ys : List Piece) → map request.Piece xs ≡ map request.Piece ys → xs ≡ ys
same_pieces [] [] e = refl
same_pieces [] (y ∷ ys) e = absurd (cc)
same_pieces (x ∷ xs) [] e = absurd (cc)
same_pieces (x ∷ xs) (y ∷ ys) e =
    let head : x ≡ y = cc in
    let tail : xs ≡ ys = same_pieces xs ys (cc) in
    ap (λ z. z ∷ xs) head ∙ ap (λ zs. y ∷ zs) tail

-- A prefix that is as long as the list is the list.
same_replies : (xs ys rest : List Shown) → xs ++ rest ≡ ys → length xs ≡ length ys → xs ≡ ys
same_replies [] [] rest e h = refl
same_replies [] (y ∷ ys) rest e h = absurd (omega arith)
same_replies (x ∷ xs) [] rest e h = absurd (omega arith)
same_replies (x ∷ xs) (y ∷ ys) rest e h =
    let head : x ≡ y = cc in
    let tail : xs ≡ ys = same_replies xs ys rest (cc) (omega arith) in
    ap (λ z. z ∷ xs) head ∙ ap (λ zs. y ∷ zs) tail

-- Entries keep their shards if slots replace the connections.
seated_shard : (shard : ℕ) (seats : List ℕ) (log : List Entry) → on_shard shard (map (seated seats) log)
    ≡ map (seated seats) (on_shard shard log)
seated_shard shard seats [] = refl
seated_shard shard seats (entry ∷ log) =
    let rest = seated_shard shard seats log in
    elim (entry.shard == shard) as
    (λ b. cond b (seated seats entry ∷ on_shard shard (map (seated seats) log))
    (on_shard shard (map (seated seats) log))
    ≡ map (seated seats) (cond b (entry ∷ on_shard shard log) (on_shard shard log))) [
      | true ↦ ap (λ es. seated seats entry ∷ es) rest
      | false ↦ rest
    ]

seated_runs : (seats : List ℕ) (log : List Entry) (old new : State) → Run old log new
    → Run old (map (seated seats) log) new
seated_runs seats [] old new run = run
seated_runs seats (entry ∷ log) old new run = (run.0, run.1, seated_runs seats log run.0 new run.2)

seat_within : (seats : List ℕ) (count k : ℕ) → AllByRecursion (λ seat. seat < count) seats → k < length seats
    → slice_index_or seats k 0 < count
seat_within [] count k all below = absurd (omega (arith, below))
seat_within (seat ∷ seats) count zero all below = all.0
seat_within (seat ∷ seats) count (suc k) all below = seat_within seats count k all.1 (omega (arith, below))

owned_all : (shards count : ℕ) (seats : List ℕ) (log : List Entry) → AllByRecursion (λ seat. seat < count) seats
    → AllByRecursion (λ entry. (entry.shard < shards) × (entry.asker < length seats)) log
    → AllByRecursion (λ entry. (entry.shard < shards) × (entry.asker < count)) (map (seated seats) log)
owned_all shards count seats [] within all = tt
owned_all shards count seats (entry ∷ log) within all =
    ((all.0.0, seat_within seats count entry.asker within all.0.1), owned_all shards count seats log within all.1)

-- In a lawful history, what the shards ran is a lawful log, and only for slots that exist.
pub lawful_log : (sizes : Sizes) (events : List Event) → IsHistory sizes events
    → IsLogOfLines sizes sizes.seats (log_by events)
lawful_log sizes events lawful =
    let seats = seats_in events in
    let holds = holds sizes events lawful in
    record {
      lawful = λ shard below.
          let run = holds.steps shard below in
          let R : List Entry → Type 0 = λ log. Run (empty_shard sizes shard) log run.0 in (
            run.0,
            subst R (sym (seated_shard shard seats (ran_in events)))
                (seated_runs seats (on_shard shard (ran_in events)) (empty_shard sizes shard) run.0 run.1),
          );
      owned = owned_all sizes.shards sizes.seats seats (ran_in events) holds.seated holds.owned;
    }

-- A clerk's slot, and a history that has all that the clerk recorded.
module _ (sizes : Sizes) (seat : ℕ) (clerk : Acting) (events : List Event) (sizes_are : clerk.name.sizes ≡ sizes)
    (role : clerk.role ≡ Seat seat) (lawful : IsHistory sizes events) (whole : IsWholeIn events clerk) where
  abbrev second : ℕ × Piece → Piece
  second one = one.1

  work_is : (shard : ℕ) → work_at clerk shard ≡ map second (work_on sizes.shards seat shard events)
  work_is shard =
      let own : own_part (Seat seat) events ≡ own_part (Seat seat) clerk.events =
      subst (λ r. own_part r events ≡ own_part r clerk.events) role whole.own in
      ap (λ (s : Sizes). map second (work_on s.shards (seat_of clerk.role) shard clerk.events)) sizes_are
      ∙ (ap (λ (r : Role). map second (work_on sizes.shards (seat_of r) shard clerk.events)) role
      ∙ ap (map second) (sym (work_stays sizes seat shard clerk.events events lawful whole.seen own)))

  answers_grow : (shard : ℕ) → Lengthens (answers_at clerk shard) (replies_in (ran_on seat shard events))
  answers_grow shard =
      let grows = ran_grows sizes seat shard clerk.events events lawful whole.seen in
      let is : answers_at clerk shard ≡ replies_in (ran_on seat shard clerk.events) =
      ap (λ (r : Role). replies_in (ran_on (seat_of r) shard clerk.events)) role in (
        replies_in grows.0,
        ap replies_in grows.1 ∙ (map-append reply_to (ran_on seat shard clerk.events) grows.0
            ∙ ap (λ rs. rs ++ replies_in grows.0) (sym is)),
      )

  -- The history's log of a slot at a shard is exactly what that shard ran on their channel.
  channel_log : (shard : ℕ) → of_asker seat (on_shard shard (log_by events))
      ≡ map (seated (seats_in events)) (ran_on seat shard events)
  channel_log shard =
      let seats = seats_in events in
      ap (of_asker seat) (seated_shard shard seats (ran_in events))
      ∙ of_seat seat seats (on_shard shard (ran_in events))
      (on_shard-asked sizes (length seats) shard (ran_in events) (holds sizes events lawful).owned)

  -- If all pieces of a channel were sent and have their replies, exactly they were run there, with these replies.
  pub channel_run : (ends : Ends Near) (shard : ℕ) (sent : List Piece) (got : List Shown) → shard < length ends.channels
      → HasRecorded clerk ends → sent_on ends shard ≡ map request.Piece sent → received_on ends shard ≡ got
      → AreRun sent got (of_asker seat (on_shard shard (log_by events)))
  channel_run ends shard sent got there recorded sent_is got_is =
      let ran = ran_on seat shard events in
      let work = work_on sizes.shards seat shard events in
      let channel = (holds sizes events lawful).channels seat shard in
      let due : map second work ≡ sent =
      same_pieces (map second work) sent
      (ap (map request.Piece) (sym (work_is shard)) ∙ (recorded.work_is shard there ∙ sent_is)) in
      let many : length got ≡ length sent = ap length (sym got_is)
      ∙ (recorded.settled shard there ∙ (ap length sent_is ∙ length-map sent request.Piece)) in
      let came : Lengthens got (replies_in ran) =
      further got (answers_at clerk shard) (replies_in ran)
      (subst (λ rs. Lengthens rs (answers_at clerk shard)) got_is (recorded.came shard there)) (answers_grow shard) in
      let replies : length (replies_in ran) ≡ length ran = length-map ran reply_to in
      let grown : length (replies_in ran) ≡ length got + length came.0 = ap length came.1 ∙ length-append got came.0 in
      let count : length work ≡ length sent = sym (length-map work second) ∙ ap length due in
      let split : length ran + length channel.0 ≡ length work =
      ap (λ n. n + length channel.0) (sym (length-map ran asked))
      ∙ (sym (length-append (map asked ran) channel.0) ∙ ap length channel.1) in
      let none : channel.0 ≡ [] = empty_when channel.0 (omega (arith, many, replies, grown, count, split)) in
      let all : map asked ran ≡ work = sym (append-nil (map asked ran))
      ∙ (ap (λ rest. map asked ran ++ rest) (sym none) ∙ channel.1) in
      let log = channel_log shard in
      let seats = seats_in events in
      record {
        pieces = sym due ∙ (ap (map second) (sym all)
            ∙ (sym (map_map asked second ran) ∙ (sym (seated_pieces seats ran) ∙ ap pieces_in (sym log))));
        replies =
            same_replies got (replies_in ran) came.0 (sym came.1) (omega (arith, many, replies, grown, count, split))
            ∙ (sym (seated_replies seats ran) ∙ ap replies_in (sym log));
      }
