-- A worked row of two connections on two shards, in which answers come in another order than their pieces
-- were sent. The first connection has its reply once both of its answers have come; the second fails, comes
-- to rest and is replaced.
use Rattle.std.proofs.Common.{◌≡◌, ℕ, zero, suc, ◌+◌, ◌<◌, ◌≤◌, true, false, inl, inr, List, [], ◌∷◌, ◌++◌, length}
use Rattle.std.proofs.Common.{refl, sym, ap, ◌∙◌, subst, arith, codes, pos, lit<, lit≤}
use Rattle.std.proofs.lemmas.Bool.Decides.{eqb_tells}
use Rattle.mc_command.specs.declared.rules.Profile.TheVariants.{Own}
use Rattle.mc_sizes.specs.declared.sizes.Sizes.{Sizes}
use Rattle.mc_item.specs.declared.answer.Answer.TheVariants as answer
use Rattle.mc_item.specs.declared.op.Op.TheVariants as op
use Rattle.mc_item.specs.Expiry.{expiry_of}
use Rattle.mc_item.specs.Kind.{key_of, kind_of}
use Rattle.mc_split.specs.declared.plan.Piece.{Piece}
use Rattle.mc_split.specs.Pieces.{pieces_of}
use Rattle.mc_reply.specs.ReplyKind.{reply_kind_of}
use Rattle.mc_reply.specs.Text.{reply_kind_text}
use Rattle.mc_store.specs.State.{State, empty_state}
use Rattle.mc_store.specs.Step.{Answers, IsStep, noted_in, step_of}
use Rattle.mc_conn.specs.History.{Taken}
use Rattle.mc_conn.specs.Due.{due, ticket_at}
use Rattle.mc_conn.specs.Fits.{HasCome}
use Rattle.mc_model.specs.Log.{Entry}
use Rattle.mc_model.specs.World.{IsAt, IsLink, Link, World, empty_world, new_link, ran}
use Rattle.mc_model.specs.Rest.{AtRest, MayRenew}
use Rattle.mc_model.specs.Events.{Event, IsEmptyHand, IsUnusedSeat, RunsNext, one_more}
use Rattle.mc_model.specs.Events.Event.{Open, Feed, Take, Send, Pop, Give, Receive, Hand, Break}
use Rattle.mc_model.specs.Schedule.{Happens, Leads, Schedule}
use Rattle.mc_model.specs.declared.event.StepReply.TheVariants.{Done, Idle}
use Rattle.mc_model.specs.Headline.{handed_bytes}
use Rattle.mc_model.proofs.Rows.{alone, begins, flush, line, one}

abbrev two_each : Sizes
two_each =
    record {
      profile = Own;
      seats = 2;
      shards = 2;
      bytes = 1024;
      ring = 1;
      value = 1024;
      line = 65536;
      window = 1;
      shutdown = false;
    }

-- what the second connection takes, a second later
abbrev later : Taken
later = record one { moment = 1001 }

-- Each flush has a piece for each of the two shards.
abbrev piece : ℕ → ℕ → Piece
piece part moment = record { ticket = ticket_at 0; part = part; op = op.Flush (pos 0); moment = moment }

abbrev entry : ℕ → ℕ → ℕ → Entry
entry shard asker moment = record { shard = shard; asker = asker; piece = piece shard moment; answer = answer.Done }

-- the first connection
abbrev a_fed : Link
a_fed = record (new_link 0) { fed = line }

abbrev a_taken : Link
a_taken = record a_fed { taken = one ∷ [] }

abbrev a_sent : ℕ → Link
a_sent count = record a_taken { sent = count }

-- with the answer of shard 1, and not yet that of shard 0
abbrev a_given : Link
a_given = record (a_sent 2) { given = one_more (λ _. 0) 1 }

abbrev a_received : Link
a_received = record a_given { received = one_more (λ _. 0) 1 }

-- with both
abbrev a_all_given : Link
a_all_given = record a_received { given = one_more (one_more (λ _. 0) 1) 0 }

abbrev a_all_received : Link
a_all_received = record a_all_given { received = one_more (one_more (λ _. 0) 1) 0 }

abbrev a_handed : Link
a_handed = record a_all_received { handed = 1 }

-- the second connection
abbrev b_fed : Link
b_fed = record (new_link 1) { fed = line }

abbrev b_taken : Link
b_taken = record b_fed { taken = later ∷ [] }

abbrev b_sent : ℕ → Link
b_sent count = record b_taken { sent = count }

abbrev b_broken : Link
b_broken = record (b_sent 2) { broken = true }

abbrev b_given : Link
b_given = record b_broken { given = one_more (λ _. 0) 0 }

abbrev b_received : Link
b_received = record b_given { received = one_more (λ _. 0) 0 }

abbrev b_all_given : Link
b_all_given = record b_received { given = one_more (one_more (λ _. 0) 0) 1 }

abbrev b_all_received : Link
b_all_received = record b_all_given { received = one_more (one_more (λ _. 0) 0) 1 }

abbrev world : List Entry → Link → Link → World
world log a b = record { log = log; links = a ∷ b ∷ [] }

-- the log, entry by entry
abbrev log_1 : List Entry
log_1 = entry 1 0 1000 ∷ []

abbrev log_2 : List Entry
log_2 = entry 1 0 1000 ∷ entry 0 1 1001 ∷ []

abbrev log_3 : List Entry
log_3 = entry 1 0 1000 ∷ entry 0 1 1001 ∷ entry 0 0 1000 ∷ []

abbrev log_4 : List Entry
log_4 = entry 1 0 1000 ∷ entry 0 1 1001 ∷ entry 0 0 1000 ∷ entry 1 1 1001 ∷ []

-- the world in which a third connection has followed the second on its seat
abbrev renewed : World
renewed = record { log = log_4; links = a_handed ∷ b_all_received ∷ new_link 1 ∷ [] }

-- the events, in five parts
abbrev begun : List Event
begun =
    Open 0 ∷ Open 1 ∷ Feed 0 line ∷ Feed 1 line ∷ Take 0 1000 ∷ Take 1 1001 ∷ Send 0 ∷ Send 0 ∷ Send 1 ∷ Send 1 ∷ Break
    1 ∷ []

abbrev crossed : List Event
crossed = Pop 1 0 ∷ Give 1 ∷ Receive 0 1 ∷ Hand 0 ∷ []

abbrev waited : List Event
waited = Pop 0 1 ∷ Give 0 ∷ Receive 1 0 ∷ Open 1 ∷ []

abbrev finished : List Event
finished = Pop 0 0 ∷ Give 0 ∷ Receive 0 0 ∷ Hand 0 ∷ []

abbrev followed : List Event
followed = Pop 1 1 ∷ Give 1 ∷ Receive 1 1 ∷ Open 1 ∷ []

-- Each seat has its connection.
at_first : (log : List Entry) (a b : Link) → a.seat ≡ 0 → b.seat ≡ 1 → IsAt (world log a b) 0 0 a
at_first log a b seat other_seat = record { here = refl; seat_is = seat; last = last } where
  last : (j : ℕ) (other : Link) → 0 < j → IsLink (world log a b) j other → other.seat ≡ 0 → ⊥
  last zero other less here same = absurd (omega (arith, less))
  last (suc zero) other less here same =
      let is : b ≡ other = cc in
      let bad : 1 ≡ 0 = sym other_seat ∙ (ap (λ (l : Link). l.seat) is ∙ same) in
      absurd (omega (arith, bad))
  last (suc (suc j)) other less here same = absurd cc

at_second : (log : List Entry) (a b : Link) → b.seat ≡ 1 → IsAt (world log a b) 1 1 b
at_second log a b seat = record { here = refl; seat_is = seat; last = last } where
  last : (j : ℕ) (other : Link) → 1 < j → IsLink (world log a b) j other → other.seat ≡ 1 → ⊥
  last zero other less here same = absurd (omega (arith, less))
  last (suc zero) other less here same = absurd (omega (arith, less))
  last (suc (suc j)) other less here same = absurd cc

-- No other has.
first_is : (log : List Entry) (a b : Link) (k : ℕ) (link : Link) → b.seat ≡ 1 → IsAt (world log a b) 0 k link → link ≡ a
first_is log a b zero link seat at = let here = at.here in cc
first_is log a b (suc zero) link seat at =
    let here = at.here in
    let is : b ≡ link = cc in
    let bad : 1 ≡ 0 = sym seat ∙ (ap (λ (l : Link). l.seat) is ∙ at.seat_is) in
    absurd (omega (arith, bad))
first_is log a b (suc (suc k)) link seat at = let here = at.here in absurd cc

second_is : (log : List Entry) (a b : Link) (k : ℕ) (link : Link) → a.seat ≡ 0 → IsAt (world log a b) 1 k link → link
    ≡ b
second_is log a b zero link seat at =
    let here = at.here in
    let is : a ≡ link = cc in
    let bad : 0 ≡ 1 = sym seat ∙ (ap (λ (l : Link). l.seat) is ∙ at.seat_is) in
    absurd (omega (arith, bad))
second_is log a b (suc zero) link seat at = let here = at.here in cc
second_is log a b (suc (suc k)) link seat at = let here = at.here in absurd cc

second_is_unused : IsUnusedSeat (alone [] (new_link 0)) 1
second_is_unused zero link here same =
    let is : new_link 0 ≡ link = cc in
    let bad : 0 ≡ 1 = ap (λ (l : Link). l.seat) is ∙ same in
    absurd (omega (arith, bad))
second_is_unused (suc k) link here same = absurd cc

empty_hand : (log : List Entry) (a b : Link) (shard : ℕ) → ran (world log a b) 0 shard ≤ a.given shard
    → ran (world log a b) 1 shard ≤ b.given shard → IsEmptyHand (world log a b) shard
empty_hand log a b shard first second zero link here = let same : a ≡ link =
    cc in subst (λ (l : Link). ran (world log a b) 0 shard ≤ l.given shard) same first
empty_hand log a b shard first second (suc zero) link here = let same : b ≡ link =
    cc in subst (λ (l : Link). ran (world log a b) 1 shard ≤ l.given shard) same second
empty_hand log a b shard first second (suc (suc k)) link here = absurd cc

-- the shard of that number at that time, which has run nothing
abbrev shard_at : ℕ → ℕ → State
shard_at index moment = record (empty_state index 2 1024 0 1024) { time = moment }

-- and once it has flushed, which is counted
abbrev once : State → State
once state = noted_in state state (op.Flush (pos 0)) answer.Done

-- the shard of that number, which was flushed at that time
abbrev flushed_at : ℕ → ℕ → State
flushed_at index moment = once (shard_at index moment)

-- Each piece is run as the next that is due; a time before the shard's does not set it back.
runs_1 : RunsNext two_each (world [] (a_sent 2) b_broken) 1 0 (a_sent 2) (entry 1 0 1000)
unfolding IsStep Answers step_of pieces_of expiry_of kind_of key_of
runs_1 =
    record {
      shard_is = refl;
      asker_is = refl;
      next = refl;
      before = empty_state 1 2 1024 0 1024;
      after = flushed_at 1 1000;
      left = refl;
      step = (shard_at 1 1000, inr refl, refl);
    }

runs_2 : RunsNext two_each (world log_1 a_received b_broken) 0 1 b_broken (entry 0 1 1001)
unfolding IsStep Answers step_of pieces_of expiry_of kind_of key_of
runs_2 =
    record {
      shard_is = refl;
      asker_is = refl;
      next = refl;
      before = empty_state 0 2 1024 0 1024;
      after = flushed_at 0 1001;
      left = refl;
      step = (shard_at 0 1001, inr refl, refl);
    }

runs_3 : RunsNext two_each (world log_2 a_received b_received) 0 0 a_received (entry 0 0 1000)
unfolding IsStep Answers step_of pieces_of expiry_of kind_of key_of
runs_3 =
    record {
      shard_is = refl;
      asker_is = refl;
      next = refl;
      before = flushed_at 0 1001;
      after = once (flushed_at 0 1001);
      left = (flushed_at 0 1001, (shard_at 0 1001, inr refl, refl), refl);
      step = (flushed_at 0 1001, inr refl, refl);
    }

runs_4 : RunsNext two_each (world log_3 a_handed b_received) 1 1 b_received (entry 1 1 1001)
unfolding IsStep Answers step_of pieces_of expiry_of kind_of key_of
runs_4 =
    record {
      shard_is = refl;
      asker_is = refl;
      next = refl;
      before = flushed_at 1 1000;
      after = once (record (flushed_at 1 1000) { time = 1001 });
      left = (flushed_at 1 1000, (shard_at 1 1000, inr refl, refl), refl);
      step = (record (flushed_at 1 1000) { time = 1001 }, inr refl, refl);
    }

-- The reply waits for the answer of shard 0.
waits : Happens two_each (world log_1 a_received b_broken) (Hand 0) Idle (world log_1 a_received b_broken)
unfolding pieces_of
waits = (
  inl (λ may.
      let come = subst (λ (l : Link). HasCome 2 l.taken l.received (l.handed + 1))
      (first_is log_1 a_received b_broken may.0 may.1 refl may.2.0) may.2.2 in
      let bad : 1 ≤ 0 = come 0 in
      absurd (omega (arith, bad))),
  refl,
)

come : HasCome 2 (one ∷ []) a_all_received.received 1
unfolding pieces_of
come s = elim (eqb_tells 0 s) [
  | inl here ↦ subst (λ t. length (due 2 t (one ∷ [])) ≤ a_all_received.received t) here.1 (lit≤ tt)
  | inr other ↦ elim (eqb_tells 1 s) [
    | inl here ↦ subst (λ t. length (due 2 t (one ∷ [])) ≤ a_all_received.received t) here.1 (lit≤ tt)
    | inr neither ↦ rw (neither.0, other.0) (omega arith)
  ]
]

-- The second connection still waits for the answer of shard 1, though it is broken.
not_at_rest : Happens two_each (world log_2 a_received b_received) (Open 1) Idle (world log_2 a_received b_received)
unfolding pieces_of
not_at_rest = (
  inl (λ may. elim may.2.3 [
    | inl unused ↦ unused 1 b_received refl refl
    | inr free ↦
        let renews = subst (λ (l : Link). MayRenew two_each l)
        (second_is log_2 a_received b_received free.0 free.1 refl free.2) free.3 in
        let bad : 0 ≡ 1 = renews.0.1 1 in
        absurd (omega (arith, bad))
  ]),
  refl,
)

at_rest : AtRest two_each b_all_received
unfolding pieces_of
at_rest = (refl, received) where
  received : (shard : ℕ) → b_all_received.received shard ≡ length (due 2 shard (later ∷ []))
  received s = elim (eqb_tells 0 s) [
    | inl here ↦ subst (λ t. b_all_received.received t ≡ length (due 2 t (later ∷ []))) here.1 refl
    | inr other ↦ elim (eqb_tells 1 s) [
      | inl here ↦ subst (λ t. b_all_received.received t ≡ length (due 2 t (later ∷ []))) here.1 refl
      | inr neither ↦ elim (eqb_tells s 0) [
        | inl same ↦ absurd (other.1 (sym same.1))
        | inr first ↦ elim (eqb_tells s 1) [
          | inl same ↦ absurd (neither.1 (sym same.1))
          | inr second ↦ rw (second.0, first.0, neither.0, other.0) refl
        ]
      ]
    ]
  ]

-- Lists of events lead on, one behind another.
leads_on : (sizes : Sizes) (w mid w' : World) (front rest : List Event) → Leads sizes w front mid
    → Leads sizes mid rest w' → Leads sizes w (front ++ rest) w'
leads_on sizes w mid w' [] rest first second = subst (λ v. Leads sizes v rest w') first second
leads_on sizes w mid w' (event ∷ front) rest first second =
    (first.0, first.1, first.2, leads_on sizes first.1 mid w' front rest first.3 second)

-- Both connections send a piece to each shard, and the second breaks.
begins_all : Leads two_each empty_world begun (world [] (a_sent 2) b_broken)
unfolding pieces_of
begins_all = (
  Done,
  alone [] (new_link 0),
  (0, new_link 0, (refl, refl, lit< tt, inl (λ k link here same. absurd cc)), refl),
  (
    Done,
    world [] (new_link 0) (new_link 1),
    (1, new_link 1, (refl, refl, lit< tt, inl second_is_unused), refl),
    (
      Done,
      world [] a_fed (new_link 1),
      (
        0,
        new_link 0,
        (at_first [] (new_link 0) (new_link 1) refl refl, refl, refl, lit< tt),
        (11, record { within = lit≤ tt; whole = λ used short. refl; some = λ all room some. lit< tt }, lit< tt, refl),
      ),
      (
        Done,
        world [] a_fed b_fed,
        (
          1,
          new_link 1,
          (at_second [] a_fed (new_link 1) refl, refl, refl, lit< tt),
          (11, record { within = lit≤ tt; whole = λ used short. refl; some = λ all room some. lit< tt }, lit< tt, refl),
        ),
        (
          Done,
          world [] a_taken b_fed,
          (
            0,
            a_fed,
            (at_first [] a_fed b_fed refl refl, (flush, begins), lit< tt, refl),
            (one, record { next = begins; moment_is = refl; may = λ gone. absurd cc }, refl),
          ),
          (
            Done,
            world [] a_taken b_taken,
            (
              1,
              b_fed,
              (at_second [] a_taken b_fed refl, (flush, begins), lit< tt, refl),
              (later, record { next = begins; moment_is = refl; may = λ gone. absurd cc }, refl),
            ),
            (
              Done,
              world [] (a_sent 1) b_taken,
              (
                0,
                a_taken,
                (
                  at_first [] a_taken b_taken refl refl,
                  record { piece = (0, piece 0 1000); next = refl; room = lit< tt },
                ),
                refl,
              ),
              (
                Done,
                world [] (a_sent 2) b_taken,
                (
                  0,
                  a_sent 1,
                  (
                    at_first [] (a_sent 1) b_taken refl refl,
                    record { piece = (1, piece 1 1000); next = refl; room = lit< tt },
                  ),
                  refl,
                ),
                (
                  Done,
                  world [] (a_sent 2) (b_sent 1),
                  (
                    1,
                    b_taken,
                    (
                      at_second [] (a_sent 2) b_taken refl,
                      record { piece = (0, piece 0 1001); next = refl; room = lit< tt },
                    ),
                    refl,
                  ),
                  (
                    Done,
                    world [] (a_sent 2) (b_sent 2),
                    (
                      1,
                      b_sent 1,
                      (
                        at_second [] (a_sent 2) (b_sent 1) refl,
                        record { piece = (1, piece 1 1001); next = refl; room = lit< tt },
                      ),
                      refl,
                    ),
                    (
                      Done,
                      world [] (a_sent 2) b_broken,
                      (1, b_sent 2, (at_second [] (a_sent 2) (b_sent 2) refl, refl), refl),
                      refl,
                    ),
                  ),
                ),
              ),
            ),
          ),
        ),
      ),
    ),
  ),
)

-- Shard 1 answers the first connection, whose reply waits for the other answer.
crosses : Leads two_each (world [] (a_sent 2) b_broken) crossed (world log_1 a_received b_broken)
unfolding pieces_of
crosses = (
  Done,
  world log_1 (a_sent 2) b_broken,
  (
    0,
    a_sent 2,
    (
      at_first [] (a_sent 2) b_broken refl refl,
      empty_hand [] (a_sent 2) b_broken 1 (lit≤ tt) (lit≤ tt),
      lit< tt,
    ),
    (entry 1 0 1000, runs_1, refl),
  ),
  (
    Done,
    world log_1 a_given b_broken,
    (0, a_sent 2, (refl, lit< tt, lit< tt), refl),
    (
      Done,
      world log_1 a_received b_broken,
      (0, a_given, (at_first log_1 a_given b_broken refl refl, lit< tt), refl),
      (Idle, world log_1 a_received b_broken, waits, refl),
    ),
  ),
)

-- Shard 0 answers the second connection before the first, and no other follows it yet.
waits_on : Leads two_each (world log_1 a_received b_broken) waited (world log_2 a_received b_received)
unfolding pieces_of
waits_on = (
  Done,
  world log_2 a_received b_broken,
  (
    1,
    b_broken,
    (
      at_second log_1 a_received b_broken refl,
      empty_hand log_1 a_received b_broken 0 (lit≤ tt) (lit≤ tt),
      lit< tt,
    ),
    (entry 0 1 1001, runs_2, refl),
  ),
  (
    Done,
    world log_2 a_received b_given,
    (1, b_broken, (refl, lit< tt, lit< tt), refl),
    (
      Done,
      world log_2 a_received b_received,
      (1, b_given, (at_second log_2 a_received b_given refl, lit< tt), refl),
      (Idle, world log_2 a_received b_received, not_at_rest, refl),
    ),
  ),
)

-- It answers the first, which has its reply.
finishes : Leads two_each (world log_2 a_received b_received) finished (world log_3 a_handed b_received)
unfolding pieces_of
finishes = (
  Done,
  world log_3 a_received b_received,
  (
    0,
    a_received,
    (
      at_first log_2 a_received b_received refl refl,
      empty_hand log_2 a_received b_received 0 (lit≤ tt) (lit≤ tt),
      lit< tt,
    ),
    (entry 0 0 1000, runs_3, refl),
  ),
  (
    Done,
    world log_3 a_all_given b_received,
    (0, a_received, (refl, lit< tt, lit< tt), refl),
    (
      Done,
      world log_3 a_all_received b_received,
      (0, a_all_given, (at_first log_3 a_all_given b_received refl refl, lit< tt), refl),
      (
        Done,
        world log_3 a_handed b_received,
        (
          0,
          a_all_received,
          (at_first log_3 a_all_received b_received refl refl, lit< tt, come, refl),
          (1, record { within = lit≤ tt; come = come; most = λ count within has. within }, refl),
        ),
        refl,
      ),
    ),
  ),
)

-- Shard 1 answers the second, which another follows.
renews : Leads two_each (world log_3 a_handed b_received) followed renewed
unfolding pieces_of
renews = (
  Done,
  world log_4 a_handed b_received,
  (
    1,
    b_received,
    (
      at_second log_3 a_handed b_received refl,
      empty_hand log_3 a_handed b_received 1 (lit≤ tt) (lit≤ tt),
      lit< tt,
    ),
    (entry 1 1 1001, runs_4, refl),
  ),
  (
    Done,
    world log_4 a_handed b_all_given,
    (1, b_received, (refl, lit< tt, lit< tt), refl),
    (
      Done,
      world log_4 a_handed b_all_received,
      (1, b_all_given, (at_second log_4 a_handed b_all_given refl, lit< tt), refl),
      (
        Done,
        renewed,
        (
          2,
          new_link 1,
          (
            refl,
            refl,
            lit< tt,
            inr
                (1, b_all_received, at_second log_4 a_handed b_all_received refl, (at_rest, inr refl)),
          ),
          refl,
        ),
        refl,
      ),
    ),
  ),
)

goes : Schedule two_each (begun ++ (crossed ++ (waited ++ (finished ++ followed)))) renewed
goes =
    leads_on two_each empty_world (world [] (a_sent 2) b_broken) renewed begun
    (crossed ++ (waited ++ (finished ++ followed))) begins_all
    (leads_on two_each (world [] (a_sent 2) b_broken) (world log_1 a_received b_broken) renewed crossed
    (waited ++ (finished ++ followed)) crosses
    (leads_on two_each (world log_1 a_received b_broken) (world log_2 a_received b_received) renewed waited
    (finished ++ followed) waits_on
    (leads_on two_each (world log_2 a_received b_received) (world log_3 a_handed b_received) renewed finished followed
    finishes renews)))

-- The first connection has its reply; the second has none, since it broke before one was handed out.
record AreReplied : Type 0 where
  first : handed_bytes two_each renewed 0 a_handed ≡ codes "OK\r\n"
  second : handed_bytes two_each renewed 1 b_all_received ≡ []

are_replied : AreReplied
unfolding pieces_of reply_kind_of reply_kind_text kind_of
are_replied = record { first = refl; second = refl }
