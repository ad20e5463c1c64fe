-- Worked rows: in each the premises of a law hold, and something is done. One connection after another
-- flushes one shard.
use Rattle.std.proofs.Common.{◌≡◌, ◌≢◌, ℕ, zero, suc, ◌+◌, ◌*◌, ◌<◌, ◌≤◌, inl, inr, List, [], ◌∷◌, length, Some, None}
use Rattle.std.proofs.Common.{refl, sym, ap, ◌∙◌, arith, lit<, subst}
use Rattle.std.specs.List.{slice_get}
use Rattle.std.proofs.lemmas.Bool.Decides.{eqb_tells}
use Rattle.std.proofs.lemmas.Option.{same_Some}
use Rattle.mc_sizes.specs.Sizes.{AreWithin}
use Rattle.mc_item.specs.declared.answer.Answer.TheVariants as answer
use Rattle.mc_item.specs.Expiry.{expiry_of}
use Rattle.mc_item.specs.Kind.{key_of, kind_of}
use Rattle.mc_split.specs.Pieces.{pieces_of}
use Rattle.mc_store.specs.State.{State, empty_state}
use Rattle.mc_store.specs.Step.{Answers, IsStep, noted_in, step_of}
use Rattle.mc_conn.specs.Due.{pieces}
use Rattle.mc_model.specs.Log.{Entry}
use Rattle.mc_model.specs.World.{IsAt, Link, World, new_link, ran, sent_to}
use Rattle.mc_model.specs.Rest.{AtRest, IsAllTaken}
use Rattle.mc_model.specs.Events.{Event, RunsNext}
use Rattle.mc_model.specs.Events.Event.{Open, Feed, Take, Send, Pop, Give, Receive, Hand, End, Break}
use Rattle.mc_model.specs.declared.event.StepReply.{StepReply}
use Rattle.mc_model.specs.Schedule.{Enabled, Happens, Leads, Schedule}
use Rattle.mc_model.specs.declared.event.StepReply.TheVariants.{Done, Idle, NoMemory}
use Rattle.mc_laws.specs.Progress.{IsWork}
use Rattle.mc_laws.specs.Fair.{EndlessRun, Eventually, HasNoInput, IsFairToSeats, IsSameStep, TriesAll}
use Rattle.mc_laws.specs.Order.{HappensBefore, IsPieceOf}
use Rattle.mc_laws.proofs.Measure.{work_inside}
use Rattle.mc_sim.proofs.AtSeat.{not_one_more}
use Rattle.mc_model.proofs.Rows.{one_each, line, flush, one, piece, fed, taken, sent, given, received, handed, ended}
use Rattle.mc_model.proofs.Rows.{alone, only, only_two, begins, all_taken, come, at_rest}

within : AreWithin one_each
within =
    record {
      seats = (lit< tt, lit< tt);
      shards = (lit< tt, lit< tt);
      bytes = (lit< tt, lit< tt);
      ring = (lit< tt, lit< tt);
      value = (lit< tt, lit< tt);
      line = (lit< tt, lit< tt);
      window = (lit< tt, lit< tt);
    }

-- the connection of this number has its piece run
abbrev ran_for : ℕ → Entry
ran_for k = record { shard = 0; asker = k; piece = piece; answer = answer.Done }

-- and of two, the first of which has ended
abbrev both : List Entry → Link → World
both log link = record { log = log; links = ended ∷ link ∷ [] }

first_at : (log : List Entry) (link : Link) → link.seat ≡ 0 → IsAt (alone log link) 0 0 link
first_at log link seat =
    record { here = refl; seat_is = seat; last = λ j other less here same. only link other j less here }

second_at : (log : List Entry) (link : Link) → link.seat ≡ 0 → IsAt (both log link) 0 1 link
second_at log link seat =
    record { here = refl; seat_is = seat; last = λ j other less here same. only_two ended link other j less here }

abbrev before : State
before = empty_state 0 1 1024 0 1024

-- the shard at the time of the flush
abbrev at_flush : State
at_flush = record before { time = 1000 }

-- and once it has flushed, which is counted
abbrev once : State → State
once state = noted_in state state piece.op answer.Done

abbrev after : State
after = once at_flush

runs : RunsNext one_each (alone [] sent) 0 0 sent (ran_for 0)
unfolding IsStep Answers step_of pieces_of expiry_of kind_of key_of
runs =
    record {
      shard_is = refl;
      asker_is = refl;
      next = refl;
      before = before;
      after = after;
      left = refl;
      step = (at_flush, inr refl, refl);
    }

runs_again : RunsNext one_each (both (ran_for 0 ∷ []) sent) 0 1 sent (ran_for 1)
unfolding IsStep Answers step_of pieces_of expiry_of kind_of key_of
runs_again =
    record {
      shard_is = refl;
      asker_is = refl;
      next = refl;
      before = after;
      after = once after;
      left = (after, (at_flush, inr refl, refl), refl);
      step = (after, inr refl, refl);
    }

-- the steps of the server for the first connection
took : Happens one_each (alone [] fed) (Take 0 1000) Done (alone [] taken)
took = (
  0,
  fed,
  (first_at [] fed refl, (flush, begins), lit< tt, refl),
  (one, record { next = begins; moment_is = refl; may = λ gone. absurd (cc) }, refl),
)

sends : Happens one_each (alone [] taken) (Send 0) Done (alone [] sent)
unfolding pieces_of
sends = (0, taken, (first_at [] taken refl, record { piece = (0, piece); next = refl; room = lit< tt }), refl)

popped : Happens one_each (alone [] sent) (Pop 0 0) Done (alone (ran_for 0 ∷ []) sent)
unfolding pieces_of
popped = (0, sent, (first_at [] sent refl, λ k link here. omega arith, lit< tt), (ran_for 0, runs, refl))

gave : Happens one_each (alone (ran_for 0 ∷ []) sent) (Give 0) Done (alone (ran_for 0 ∷ []) given)
gave = (0, sent, (refl, lit< tt, lit< tt), refl)

got : Happens one_each (alone (ran_for 0 ∷ []) given) (Receive 0 0) Done (alone (ran_for 0 ∷ []) received)
got = (0, given, (first_at (ran_for 0 ∷ []) given refl, lit< tt), refl)

gone_out : Happens one_each (alone (ran_for 0 ∷ []) received) (Hand 0) Done (alone (ran_for 0 ∷ []) handed)
gone_out = (
  0,
  received,
  (first_at (ran_for 0 ∷ []) received refl, lit< tt, come, refl),
  (1, record { within = omega arith; come = come; most = λ more within has. within }, refl),
)

opened : Happens one_each (record { log = []; links = [] }) (Open 0) Done (alone [] (new_link 0))
opened = (0, new_link 0, (refl, refl, lit< tt, inl (λ k link here same. absurd (cc))), refl)

came : Happens one_each (alone [] (new_link 0)) (Feed 0 line) Done (alone [] fed)
came = (
  0,
  new_link 0,
  (first_at [] (new_link 0) refl, refl, refl, lit< tt),
  (11, record { within = omega arith; whole = λ used short. refl; some = λ all room some. lit< tt }, lit< tt, refl),
)

has_ended : Happens one_each (alone (ran_for 0 ∷ []) handed) (End 0) Done (alone (ran_for 0 ∷ []) ended)
has_ended = (0, handed, (first_at (ran_for 0 ∷ []) handed refl, refl), refl)

-- and for the second, on the same seat
opened_again : Happens one_each (alone (ran_for 0 ∷ []) ended) (Open 0) Done (both (ran_for 0 ∷ []) (new_link 0))
opened_again = (
  1,
  new_link 0,
  (
    refl,
    refl,
    lit< tt,
    inr (0, ended, first_at (ran_for 0 ∷ []) ended refl, (at_rest, inl (inr (refl, all_taken)))),
  ),
  refl,
)

came_again : Happens one_each (both (ran_for 0 ∷ []) (new_link 0)) (Feed 0 line) Done (both (ran_for 0 ∷ []) fed)
came_again = (
  1,
  new_link 0,
  (second_at (ran_for 0 ∷ []) (new_link 0) refl, refl, refl, lit< tt),
  (11, record { within = omega arith; whole = λ used short. refl; some = λ all room some. lit< tt }, lit< tt, refl),
)

took_again : Happens one_each (both (ran_for 0 ∷ []) fed) (Take 0 1000) Done (both (ran_for 0 ∷ []) taken)
took_again = (
  1,
  fed,
  (second_at (ran_for 0 ∷ []) fed refl, (flush, begins), lit< tt, refl),
  (one, record { next = begins; moment_is = refl; may = λ gone. absurd (cc) }, refl),
)

sends_again : Happens one_each (both (ran_for 0 ∷ []) taken) (Send 0) Done (both (ran_for 0 ∷ []) sent)
unfolding pieces_of
sends_again = (
  1,
  taken,
  (second_at (ran_for 0 ∷ []) taken refl, record { piece = (0, piece); next = refl; room = lit< tt }),
  refl,
)

popped_again : Happens one_each (both (ran_for 0 ∷ []) sent) (Pop 0 0) Done (both (ran_for 0 ∷ ran_for 1 ∷ []) sent)
unfolding pieces_of
popped_again = (1, sent, (second_at (ran_for 0 ∷ []) sent refl, empty_hand, lit< tt), (ran_for 1, runs_again, refl))
  where
    empty_hand : (k : ℕ) (link : Link) → slice_get (ended ∷ sent ∷ []) k ≡ Some link
        → ran (both (ran_for 0 ∷ []) sent) k 0 ≤ link.given 0
    empty_hand zero link here = subst (λ (x : Link). 1 ≤ x.given 0) (same_Some ended link here) (omega arith)
    empty_hand (suc k) link here = elim (eqb_tells 0 (suc k)) [
      | inl first ↦ let e = first.1 in absurd (omega (arith, e))
      | inr other ↦ rw other.0 (omega arith)
    ]

-- The first connection's reply is out before the second is opened. Both flushes are run.
abbrev goes : Schedule one_each
    (Open 0 ∷ Feed 0 line ∷ Take 0 1000 ∷ Send 0 ∷ Pop 0 0 ∷ Give 0 ∷ Receive 0 0 ∷ Hand 0 ∷ End 0 ∷ Open 0 ∷ Feed 0
    line ∷ Take 0 1000 ∷ Send 0 ∷ Pop 0 0 ∷ []) (both (ran_for 0 ∷ ran_for 1 ∷ []) sent)
goes =
    let log = ran_for 0 ∷ [] in
    let second : Leads one_each (alone log handed) (End 0 ∷ Open 0 ∷ Feed 0 line ∷ Take 0 1000 ∷ Send 0 ∷ Pop 0 0 ∷ [])
    (both (ran_for 0 ∷ ran_for 1 ∷ []) sent) = (
      Done,
      alone log ended,
      has_ended,
      (
        Done,
        both log (new_link 0),
        opened_again,
        (
          Done,
          both log fed,
          came_again,
          (
            Done,
            both log taken,
            took_again,
            (Done, both log sent, sends_again, (Done, both (ran_for 0 ∷ ran_for 1 ∷ []) sent, popped_again, refl)),
          ),
        ),
      ),
    ) in
    let served : Leads one_each (alone [] sent)
    (Pop 0 0 ∷ Give 0 ∷ Receive 0 0 ∷ Hand 0 ∷ End 0 ∷ Open 0 ∷ Feed 0 line ∷ Take 0 1000 ∷ Send 0 ∷ Pop 0 0 ∷ [])
    (both (ran_for 0 ∷ ran_for 1 ∷ []) sent) = (
      Done,
      alone log sent,
      popped,
      (Done, alone log given, gave, (Done, alone log received, got, (Done, alone log handed, gone_out, second))),
    ) in (
      Done,
      alone [] (new_link 0),
      opened,
      (Done, alone [] fed, came, (Done, alone [] taken, took, (Done, alone [] sent, sends, served))),
    )

happens_before : HappensBefore one_each
    (Open 0 ∷ Feed 0 line ∷ Take 0 1000 ∷ Send 0 ∷ Pop 0 0 ∷ Give 0 ∷ Receive 0 0 ∷ Hand 0 ∷ End 0 ∷ Open 0 ∷ Feed 0
    line ∷ Take 0 1000 ∷ Send 0 ∷ Pop 0 0 ∷ []) (both (ran_for 0 ∷ ran_for 1 ∷ []) sent) goes 0 0 1 0
happens_before =
    record {
      p = 8;
      q = 8;
      order = omega arith;
      out = record { link = handed; here = refl; handed = lit< tt };
      not_yet = λ link commands here spelled. absurd (cc);
    }

-- Before it ended the first connection was at rest.
rests_open : AtRest one_each handed
unfolding pieces_of
rests_open = (all_taken, refl, refl)

pieces_of_both : IsPieceOf 0 0 (ran_for 0) × IsPieceOf 1 0 (ran_for 1)
pieces_of_both = (record { asker = refl; ticket = refl }, record { asker = refl; ticket = refl })

-- to the world in which the first connection's bytes have come, and none is taken
fed_only : Schedule one_each (Open 0 ∷ Feed 0 line ∷ []) (alone [] fed)
fed_only = (Done, alone [] (new_link 0), opened, (Done, alone [] fed, came, refl))

-- An endless run that tries all work in turn, from the world in which the first connection's bytes have come.
abbrev cycle : ℕ → Event
cycle zero = Take 0 1000
cycle (suc zero) = Send 0
cycle (suc (suc zero)) = Pop 0 0
cycle (suc (suc (suc zero))) = Give 0
cycle (suc (suc (suc (suc zero)))) = Receive 0 0
cycle (suc (suc (suc (suc (suc zero))))) = Hand 0
cycle (suc (suc (suc (suc (suc (suc n)))))) = cycle n

abbrev resting : World
resting = alone (ran_for 0 ∷ []) handed

abbrev world_of : ℕ → World
world_of zero = alone [] fed
world_of (suc zero) = alone [] taken
world_of (suc (suc zero)) = alone [] sent
world_of (suc (suc (suc zero))) = alone (ran_for 0 ∷ []) sent
world_of (suc (suc (suc (suc zero)))) = alone (ran_for 0 ∷ []) given
world_of (suc (suc (suc (suc (suc zero))))) = alone (ran_for 0 ∷ []) received
world_of (suc (suc (suc (suc (suc (suc n)))))) = resting

abbrev flow : ℕ → StepReply
flow zero = Done
flow (suc zero) = Done
flow (suc (suc zero)) = Done
flow (suc (suc (suc zero))) = Done
flow (suc (suc (suc (suc zero)))) = Done
flow (suc (suc (suc (suc (suc zero))))) = Done
flow (suc (suc (suc (suc (suc (suc n)))))) = Idle

has_memory : (n : ℕ) → flow n ≢ NoMemory
has_memory zero e = absurd (cc)
has_memory (suc zero) e = absurd (cc)
has_memory (suc (suc zero)) e = absurd (cc)
has_memory (suc (suc (suc zero))) e = absurd (cc)
has_memory (suc (suc (suc (suc zero)))) e = absurd (cc)
has_memory (suc (suc (suc (suc (suc zero))))) e = absurd (cc)
has_memory (suc (suc (suc (suc (suc (suc n)))))) e = absurd (cc)

cycle_work : (n : ℕ) → IsWork (cycle n)
cycle_work zero = tt
cycle_work (suc zero) = tt
cycle_work (suc (suc zero)) = tt
cycle_work (suc (suc (suc zero))) = tt
cycle_work (suc (suc (suc (suc zero)))) = tt
cycle_work (suc (suc (suc (suc (suc zero))))) = tt
cycle_work (suc (suc (suc (suc (suc (suc n)))))) = cycle_work n

-- the only connection
sole : (k : ℕ) (link : Link) → slice_get (handed ∷ []) k ≡ Some link → (k ≡ 0) × (handed ≡ link)
sole zero link here = (refl, same_Some handed link here)
sole (suc k) link here = absurd (cc)

none_more : (link : Link) → handed ≡ link → slice_get (pieces 1 link.taken) link.sent ≡ None
unfolding pieces_of
none_more link same = subst (λ (x : Link). slice_get (pieces 1 x.taken) x.sent ≡ None) same refl

all_run : (k shard : ℕ) (link : Link) → k ≡ 0 → handed ≡ link → (sent_to one_each shard link ≤ ran resting k shard)
    × (ran resting k shard ≤ link.given shard)
unfolding pieces_of
all_run k shard link here same =
    subst (λ j. (sent_to one_each shard link ≤ ran resting j shard) × (ran resting j shard ≤ link.given shard))
    (sym here) (
    subst (λ (x : Link). (sent_to one_each shard x ≤ ran resting 0 shard) × (ran resting 0 shard ≤ x.given shard)) same
    (at_shard shard))
  where
    at_shard : (s : ℕ) → (sent_to one_each s handed ≤ ran resting 0 s) × (ran resting 0 s ≤ handed.given s)
    at_shard s = elim (eqb_tells 0 s) [
      | inl first ↦ subst (λ t. (sent_to one_each t handed ≤ ran resting 0 t) × (ran resting 0 t ≤ handed.given t))
          first.1 (omega arith, omega arith)
      | inr other ↦ rw other.0 (omega arith, omega arith)
    ]

-- At rest no work is enabled.
none_enabled : (event : Event) → IsWork event → Enabled one_each resting event → ⊥
none_enabled (Open seat) work e = work
none_enabled (Feed seat bytes) work e = work
none_enabled (Take seat moment) work e =
    not_one_more one_each e.1 e.2.1.0 (subst (λ x. IsAllTaken one_each x) (sole e.0 e.1 e.2.0.here).1 all_taken) e.2.1.1
none_enabled (Send seat) work e = let none = none_more e.1 (sole e.0 e.1 e.2.0.here).1 in let some = e.2.1.next in cc
none_enabled (Pop shard seat) work e =
    let same = sole e.0 e.1 e.2.0.here in
    let run = (all_run e.0 shard e.1 same.0 same.1).0 in
    let waits = e.2.2 in
    omega (arith, run, waits)
none_enabled (Give shard) work e =
    let same = sole e.0 e.1 e.2.0 in
    let run = (all_run e.0 shard e.1 same.0 same.1).1 in
    let waits = e.2.1 in
    omega (arith, run, waits)
none_enabled (Receive seat shard) work e =
    let same = (sole e.0 e.1 e.2.0.here).1 in
    let waits = subst (λ (x : Link). x.received shard < x.given shard) (sym same) e.2.1 in
    omega (arith, waits)
none_enabled (Hand seat) work e =
    let same = (sole e.0 e.1 e.2.0.here).1 in
    let open_ones = subst (λ (x : Link). x.handed < length x.taken) (sym same) e.2.1 in
    omega (arith, open_ones)
none_enabled (End seat) work e = work
none_enabled (Break seat) work e = work

happens_at : (n : ℕ) → Happens one_each (world_of n) (cycle n) (flow n) (world_of (n + 1))
happens_at zero = took
happens_at (suc zero) = sends
happens_at (suc (suc zero)) = popped
happens_at (suc (suc (suc zero))) = gave
happens_at (suc (suc (suc (suc zero)))) = got
happens_at (suc (suc (suc (suc (suc zero))))) = gone_out
happens_at (suc (suc (suc (suc (suc (suc n)))))) =
    let next : suc (suc (suc (suc (suc (suc n))))) + 1 ≡ suc (suc (suc (suc (suc (suc (suc n)))))) = omega arith in
    (inl (λ e. none_enabled (cycle n) (cycle_work n) e), ap world_of next)

abbrev run : EndlessRun one_each (alone [] fed)
run = record { events = cycle; replies = flow; worlds = world_of; begins = refl; happens = happens_at }

cycle_at : (n i : ℕ) → cycle (6 * n + i) ≡ cycle i
cycle_at zero i = let at : 6 * 0 + i ≡ i = omega arith in ap cycle at
cycle_at (suc n) i = let at : 6 * suc n + i ≡ suc (suc (suc (suc (suc (suc (6 * n + i)))))) =
    omega arith in ap cycle at ∙ cycle_at n i

no_input : HasNoInput run
no_input n = work_inside (cycle n) (cycle_work n)

-- the event at a place of some later round
tried_at : (n i : ℕ) (event : Event) → IsSameStep event (cycle (6 * n + i))
    → Eventually n (λ m. IsSameStep event (cycle m) × (flow m ≢ NoMemory))
tried_at n i event same = record { later = 6 * n + i; after = omega arith; holds = (same, has_memory (6 * n + i)) }

tries_all : TriesAll run
tries_all n (Open seat) there = absurd there
tries_all n (Feed seat bytes) there = absurd there
tries_all n (Take seat moment) there = let at : 0 ≡ seat =
    omega (arith, there) in tried_at n 0 (Take seat moment) (1000, cycle_at n 0 ∙ ap (λ s. Take s 1000) at)
tries_all n (Send seat) there = let at : 0 ≡ seat =
    omega (arith, there) in tried_at n 1 (Send seat) (cycle_at n 1 ∙ ap (λ s. Send s) at)
tries_all n (Pop shard seat) there =
    let on = there.0 in
    let of = there.1 in
    let at : 0 ≡ seat = omega (arith, of) in
    let by : 0 ≡ shard = omega (arith, on) in
    tried_at n 2 (Pop shard seat) (cycle_at n 2 ∙ (ap (λ s. Pop 0 s) at ∙ ap (λ s. Pop s seat) by))
tries_all n (Give shard) there = let by : 0 ≡ shard =
    omega (arith, there) in tried_at n 3 (Give shard) (cycle_at n 3 ∙ ap (λ s. Give s) by)
tries_all n (Receive seat shard) there =
    let of = there.0 in
    let on = there.1 in
    let at : 0 ≡ seat = omega (arith, of) in
    let by : 0 ≡ shard = omega (arith, on) in
    tried_at n 4 (Receive seat shard) (cycle_at n 4 ∙ (ap (λ s. Receive 0 s) by ∙ ap (λ s. Receive s shard) at))
tries_all n (Hand seat) there = let at : 0 ≡ seat =
    omega (arith, there) in tried_at n 5 (Hand seat) (cycle_at n 5 ∙ ap (λ s. Hand s) at)
tries_all n (End seat) there = absurd there
tries_all n (Break seat) there = absurd there

rests_from : (m : ℕ) → 6 ≤ m → world_of m ≡ resting
rests_from zero from = absurd (omega (arith, from))
rests_from (suc zero) from = absurd (omega (arith, from))
rests_from (suc (suc zero)) from = absurd (omega (arith, from))
rests_from (suc (suc (suc zero))) from = absurd (omega (arith, from))
rests_from (suc (suc (suc (suc zero)))) from = absurd (omega (arith, from))
rests_from (suc (suc (suc (suc (suc zero))))) from = absurd (omega (arith, from))
rests_from (suc (suc (suc (suc (suc (suc n)))))) from = refl

fair_to_seats : IsFairToSeats run
fair_to_seats n shard seat by of =
    inr (record {
      later = n + 6;
      after = omega arith;
      holds =
          λ m from e. none_enabled (Pop shard seat) tt
          (subst (λ v. Enabled one_each v (Pop shard seat)) (rests_from m (omega (arith, from))) e);
    })
