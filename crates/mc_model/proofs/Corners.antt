-- Corners of the definitions, each computed: how each event may be answered.
use Rattle.std.proofs.Common.{◌≡◌, ℕ, zero, suc, ◌+◌, ◌<◌, ◌≤◌, ◌++◌, ◌⊎◌, true, false, IsTrue, inl, inr, List, [], ◌∷◌}
use Rattle.std.proofs.Common.{Some, refl, sym, subst, arith, codes, lit<, lit≤}
use Rattle.std.specs.List.{slice_get}
use Rattle.mc_sizes.specs.Sizes.{rules_of}
use Rattle.mc_sizes.specs.declared.sizes.Sizes.{Sizes}
use Rattle.mc_reader.specs.Spelling.{SpellsNothing}
use Rattle.mc_item.specs.Kind.{kind_of}
use Rattle.mc_split.specs.Pieces.{pieces_of}
use Rattle.mc_reply.specs.ReplyKind.{reply_kind_of}
use Rattle.mc_reply.specs.Text.{reply_kind_text}
use Rattle.mc_conn.specs.Fits.{HasCome}
use Rattle.mc_model.specs.Log.{Entry}
use Rattle.mc_model.specs.World.{IsAt, Link, World, empty_world, new_link, ran, sent_to}
use Rattle.mc_model.specs.Rest.{IsAllTaken, IsClosed, IsUsedUp, MayRenew}
use Rattle.mc_model.specs.Events.{Allows, Event, MayFeed}
use Rattle.mc_model.specs.Events.Event.{Open, Feed, Take, Send, Pop, Give, Receive, Hand, End, Break}
use Rattle.mc_model.specs.Schedule.{Happens, Spared}
use Rattle.mc_model.specs.declared.event.StepReply.TheVariants.{Done, Idle, NoMemory}
use Rattle.mc_model.specs.Headline.{handed_bytes}
use Rattle.mc_model.proofs.Rows.{alone, at_alone, begins, broken, come, ended, entry, fed, flush, given, handed, line}
use Rattle.mc_model.proofs.Rows.{one, one_each, piece, received, sent, spells_flush, taken}

-- What is idle

-- An event is idle where it is allowed for no connection.
idle : (sizes : Sizes) (w : World) (event : Event) → ((k : ℕ) (link : Link) → Allows sizes w event k link → ⊥)
    → Happens sizes w event Idle w
idle sizes w event never = (inl (λ enabled. never enabled.0 enabled.1 enabled.2), refl)

-- A closed connection is idle, if there is one connection.
idle_alone : (sizes : Sizes) (log : List Entry) (here : Link) (event : Event)
    → ((k : ℕ) (link : Link) → Allows sizes (alone log here) event k link → slice_get (here ∷ []) k ≡ Some link)
    → (Allows sizes (alone log here) event 0 here → ⊥) → Happens sizes (alone log here) event Idle (alone log here)
idle_alone sizes log here event at never = idle sizes (alone log here) event allowed where
  allowed : (k : ℕ) (link : Link) → Allows sizes (alone log here) event k link → ⊥
  allowed zero link may =
      let found = at zero link may in
      let same : link ≡ here = cc in
      never (subst (λ (l : Link). Allows sizes (alone log here) event 0 l) same may)
  allowed (suc k) link may = let found = at (suc k) link may in absurd cc

-- a connection whose window is full: it took as many commands as may be open
abbrev full : Link
full = record taken { fed = line ++ line }

-- two commands taken, of which the first was sent
abbrev two : Sizes
two = record one_each { window = 2 }

abbrev half_sent : Link
half_sent = record taken { fed = line ++ line; taken = one ∷ one ∷ []; sent = 1 }

record AreIdle : Type 0 where
  -- No event but Open concerns a seat that has had no connection.
  nothing_fed : Happens one_each empty_world (Feed 0 line) Idle empty_world
  nothing_to_end : Happens one_each empty_world (End 0) Idle empty_world
  -- There is one seat.
  no_such_seat : Happens one_each empty_world (Open 1) Idle empty_world
  -- The connection is neither closed nor broken.
  not_over : Happens one_each (alone [] (new_link 0)) (Open 0) Idle (alone [] (new_link 0))
  -- No bytes come after the end, nor to a connection that is broken, nor are no bytes fed.
  fed_after_the_end : Happens one_each (alone [] ended) (Feed 0 line) Idle (alone [] ended)
  fed_when_broken : Happens one_each (alone [] broken) (Feed 0 line) Idle (alone [] broken)
  fed_nothing : Happens one_each (alone [] fed) (Feed 0 []) Idle (alone [] fed)
  -- The window is full.
  window_full : Happens one_each (alone [] full) (Take 0 1000) Idle (alone [] full)
  -- Every piece was sent.
  all_sent : Happens one_each (alone [] sent) (Send 0) Idle (alone [] sent)
  -- The ring to the shard has one place, which a piece takes.
  ring_full : Happens two (alone [] half_sent) (Send 0) Idle (alone [] half_sent)
  -- Nothing was sent.
  ring_empty : Happens one_each (alone [] taken) (Pop 0 0) Idle (alone [] taken)
  -- The worker holds an answer that it has not given.
  hand_full : Happens one_each (alone (entry ∷ []) sent) (Pop 0 0) Idle (alone (entry ∷ []) sent)
  -- It holds none.
  hand_empty : Happens one_each (alone (entry ∷ []) given) (Give 0) Idle (alone (entry ∷ []) given)
  -- Nothing was given.
  nothing_given : Happens one_each (alone (entry ∷ []) sent) (Receive 0 0) Idle (alone (entry ∷ []) sent)
  -- The answer has not come.
  no_answer : Happens one_each (alone (entry ∷ []) given) (Hand 0) Idle (alone (entry ∷ []) given)
  -- All replies were handed out.
  all_handed : Happens one_each (alone (entry ∷ []) handed) (Hand 0) Idle (alone (entry ∷ []) handed)
  ended_twice : Happens one_each (alone (entry ∷ []) ended) (End 0) Idle (alone (entry ∷ []) ended)
  broken_twice : Happens one_each (alone [] broken) (Break 0) Idle (alone [] broken)

none : (k : ℕ) (link : Link) → slice_get empty_world.links k ≡ Some link → ⊥
none k link at = absurd cc

-- The only connection is neither closed nor broken.
open_still : (k : ℕ) (link : Link) → IsAt (alone [] (new_link 0)) 0 k link → MayRenew one_each link → ⊥
open_still zero link at may =
    let found = at.here in
    let same : link ≡ new_link 0 = cc in
    let over : IsClosed one_each (new_link 0) ⊎ IsTrue false =
    subst (λ (l : Link). IsClosed one_each l ⊎ IsTrue l.broken) same may.1 in
    elim over [
      | inl closed ↦ elim closed [
        | inl last ↦ absurd cc
        | inr after ↦ let bad = after.0 in absurd cc
      ]
      | inr gone ↦ absurd cc
    ]
open_still (suc k) link at may = let found = at.here in absurd cc

are_idle : AreIdle
unfolding pieces_of
are_idle = record {
  nothing_fed = idle one_each empty_world (Feed 0 line) (λ k link may. none k link may.0.here);
  nothing_to_end = idle one_each empty_world (End 0) (λ k link may. none k link may.0.here);
  no_such_seat =
      idle one_each empty_world (Open 1) (λ k link may. let bad : 1 < 1 = may.2 in absurd (omega (arith, bad)));
  not_over = idle one_each (alone [] (new_link 0)) (Open 0) (λ k link may. elim may.3 [
    | inl unused ↦ unused 0 (new_link 0) refl refl
    | inr free ↦ open_still free.0 free.1 free.2 free.3
  ]);
  fed_after_the_end =
      idle_alone one_each [] ended (Feed 0 line) (λ k link may. may.0.here)
      (λ may. let bad : true ≡ false = may.1 in absurd cc);
  fed_when_broken =
      idle_alone one_each [] broken (Feed 0 line) (λ k link may. may.0.here)
      (λ may. let bad : true ≡ false = may.2 in absurd cc);
  fed_nothing =
      idle_alone one_each [] fed (Feed 0 []) (λ k link may. may.0.here)
      (λ may. let bad : 0 < 0 = may.3 in absurd (omega (arith, bad)));
  window_full =
      idle_alone one_each [] full (Take 0 1000) (λ k link may. may.0.here)
      (λ may. let bad : 1 < 1 = may.2 in absurd (omega (arith, bad)));
  all_sent =
      idle_alone one_each [] sent (Send 0) (λ k link may. may.0.here) (λ may. let next = may.1.next in absurd cc);
  ring_full = idle_alone two [] half_sent (Send 0) (λ k link may. may.0.here) (λ may.
      let next = may.1.next in
      let to : may.1.piece.0 ≡ 0 = cc in
      let bad : 1 < 0 + 1 = subst (λ s. sent_to two s half_sent < ran (alone [] half_sent) 0 s + 1) to may.1.room in
      absurd (omega (arith, bad)));
  ring_empty =
      idle_alone one_each [] taken (Pop 0 0) (λ k link may. may.0.here)
      (λ may. let bad : 0 < 0 = may.2 in absurd (omega (arith, bad)));
  hand_full =
      idle_alone one_each (entry ∷ []) sent (Pop 0 0) (λ k link may. may.0.here)
      (λ may. let bad : 1 ≤ 0 = may.1 0 sent refl in absurd (omega (arith, bad)));
  hand_empty =
      idle_alone one_each (entry ∷ []) given (Give 0) (λ k link may. may.0)
      (λ may. let bad : 1 < 1 = may.1 in absurd (omega (arith, bad)));
  nothing_given =
      idle_alone one_each (entry ∷ []) sent (Receive 0 0) (λ k link may. may.0.here)
      (λ may. let bad : 0 < 0 = may.1 in absurd (omega (arith, bad)));
  no_answer =
      idle_alone one_each (entry ∷ []) given (Hand 0) (λ k link may. may.0.here)
      (λ may. let bad : 1 ≤ 0 = may.2 0 in absurd (omega (arith, bad)));
  all_handed =
      idle_alone one_each (entry ∷ []) handed (Hand 0) (λ k link may. may.0.here)
      (λ may. let bad : 1 < 1 = may.1 in absurd (omega (arith, bad)));
  ended_twice =
      idle_alone one_each (entry ∷ []) ended (End 0) (λ k link may. may.0.here)
      (λ may. let bad : true ≡ false = may.1 in absurd cc);
  broken_twice =
      idle_alone one_each [] broken (Break 0) (λ k link may. may.0.here)
      (λ may. let bad : true ≡ false = may.1 in absurd cc);
}

-- What is never idle

-- An event that is allowed for a connection, and isn't spared, is not idle.
not_idle : (sizes : Sizes) (w w' : World) (event : Event) (k : ℕ) (link : Link) → Allows sizes w event k link
    → (Spared sizes w event → ⊥) → ¬ Happens sizes w event Idle w'
not_idle sizes w w' event k link may unspared idles = elim idles.0 [
  | inl never ↦ never (k, link, may)
  | inr spared ↦ unspared spared
]

record AreNeverIdle : Type 0 where
  -- What the server does by itself is done where it can be.
  next_taken : ¬ Happens one_each (alone [] fed) (Take 0 1000) Idle (alone [] fed)
  piece_sent : ¬ Happens one_each (alone [] taken) (Send 0) Idle (alone [] taken)
  piece_run : ¬ Happens one_each (alone [] sent) (Pop 0 0) Idle (alone [] sent)
  answer_given : ¬ Happens one_each (alone (entry ∷ []) sent) (Give 0) Idle (alone (entry ∷ []) sent)
  answer_received : ¬ Happens one_each (alone (entry ∷ []) given) (Receive 0 0) Idle (alone (entry ∷ []) given)
  reply_handed : ¬ Happens one_each (alone (entry ∷ []) received) (Hand 0) Idle (alone (entry ∷ []) received)

are_never_idle : AreNeverIdle
unfolding pieces_of
are_never_idle = record {
  next_taken =
      not_idle one_each (alone [] fed) (alone [] fed) (Take 0 1000) 0 fed
      (at_alone [] fed refl, (flush, begins), lit< tt, refl) (λ spared. spared);
  piece_sent =
      not_idle one_each (alone [] taken) (alone [] taken) (Send 0) 0 taken
      (at_alone [] taken refl, record { piece = (0, piece); next = refl; room = lit< tt }) (λ spared. spared);
  piece_run =
      not_idle one_each (alone [] sent) (alone [] sent) (Pop 0 0) 0 sent
      (at_alone [] sent refl, λ k link here. omega arith, lit< tt) (λ spared. spared);
  answer_given =
      not_idle one_each (alone (entry ∷ []) sent) (alone (entry ∷ []) sent) (Give 0) 0 sent (refl, lit< tt, lit< tt)
      (λ spared. spared);
  answer_received =
      not_idle one_each (alone (entry ∷ []) given) (alone (entry ∷ []) given) (Receive 0 0) 0 given
      (at_alone (entry ∷ []) given refl, lit< tt) (λ spared. spared);
  reply_handed =
      not_idle one_each (alone (entry ∷ []) received) (alone (entry ∷ []) received) (Hand 0) 0 received
      (at_alone (entry ∷ []) received refl, lit< tt, come, refl) (λ spared. spared);
}

-- What lacks memory

record AreLacking : Type 0 where
  opened : Happens one_each empty_world (Open 0) NoMemory empty_world
  bytes_fed : Happens one_each (alone [] (new_link 0)) (Feed 0 line) NoMemory (alone [] (new_link 0))
  popped : Happens one_each (alone [] sent) (Pop 0 0) NoMemory (alone [] sent)
  handed_out : Happens one_each (alone (entry ∷ []) received) (Hand 0) NoMemory (alone (entry ∷ []) received)
  -- What is idle lacks none.
  never_idle : ¬ Happens one_each (alone [] (new_link 0)) (Feed 0 []) NoMemory (alone [] (new_link 0))
  -- The other events take none.
  never_of_take : (w w' : World) → ¬ Happens one_each w (Take 0 1000) NoMemory w'
  never_of_send : (w w' : World) → ¬ Happens one_each w (Send 0) NoMemory w'
  never_of_give : (w w' : World) → ¬ Happens one_each w (Give 0) NoMemory w'
  never_of_receive : (w w' : World) → ¬ Happens one_each w (Receive 0 0) NoMemory w'
  never_of_end : (w w' : World) → ¬ Happens one_each w (End 0) NoMemory w'
  never_of_break : (w w' : World) → ¬ Happens one_each w (Break 0) NoMemory w'

are_lacking : AreLacking
unfolding pieces_of
are_lacking = record {
  opened = ((tt, (0, new_link 0, (refl, refl, lit< tt, inl (λ k link here same. none k link here)))), refl);
  bytes_fed = ((tt, (0, new_link 0, (at_alone [] (new_link 0) refl, refl, refl, lit< tt))), refl);
  popped = ((tt, (0, sent, (at_alone [] sent refl, λ k link here. omega arith, lit< tt))), refl);
  handed_out = ((tt, (0, received, (at_alone (entry ∷ []) received refl, lit< tt, come, refl))), refl);
  never_idle = λ lacks. let bad : 0 < 0 = lacks.0.1.2.3 in absurd (omega (arith, bad));
  never_of_take = λ w w' lacks. lacks.0.0;
  never_of_send = λ w w' lacks. lacks.0.0;
  never_of_give = λ w w' lacks. lacks.0.0;
  never_of_receive = λ w w' lacks. lacks.0.0;
  never_of_end = λ w w' lacks. lacks.0.0;
  never_of_break = λ w w' lacks. lacks.0.0;
}

-- A Feed in part

abbrev more : List ℕ
more = codes "mn\r\n"

record FedInPart : Type 0 where
  -- Some bytes of a command that isn't taken are there: two more may come in, or none.
  some : Happens one_each (alone [] fed) (Feed 0 more) Done (alone [] (record fed { fed = line ++ codes "mn" }))
  none : Happens one_each (alone [] fed) (Feed 0 more) Idle (alone [] fed)
  -- If every byte belongs to a command that was parsed, all new bytes are taken.
  all : MayFeed one_each taken more 4
  not_some : ¬ MayFeed one_each taken more 2
  not_none : ¬ MayFeed one_each taken more 0

used_up : IsUsedUp one_each taken
used_up = (line, [], refl, spells_flush, refl)

-- A whole command is there, and isn't taken.
untaken : ¬ IsAllTaken one_each fed
untaken all = subst (λ bytes. SpellsNothing (rules_of one_each) bytes) (sym all.1) all.2 11 flush (lit≤ tt) spells_flush

fed_in_part : FedInPart
fed_in_part = record {
  some = (
    0,
    fed,
    (at_alone [] fed refl, refl, refl, lit< tt),
    (2, record { within = lit≤ tt; whole = λ used short. absurd cc; some = λ all room some. lit< tt }, lit< tt, refl),
  );
  none = (
    inr (
      0,
      fed,
      at_alone [] fed refl,
      record { within = lit≤ tt; whole = λ used short. absurd cc; some = λ all room some. absurd (untaken all) },
    ),
    refl,
  );
  all = record { within = lit≤ tt; whole = λ used short. refl; some = λ all room some. lit< tt };
  not_some = λ may. let bad : 2 ≡ 4 = may.whole used_up (lit≤ tt) in absurd (omega (arith, bad));
  not_none = λ may. let bad : 0 ≡ 4 = may.whole used_up (lit≤ tt) in absurd (omega (arith, bad));
}

-- A command given up

abbrev gave : Link
gave = record fed { taken = record one { given_up = true } ∷ [] }

abbrev gave_handed : Link
gave_handed = record gave { handed = 1 }

record GivenUp : Type 0 where
  -- A command that asks a shard may be given up, asks none then, and its reply is that memory has run out.
  took : Happens one_each (alone [] fed) (Take 0 1000) Done (alone [] gave)
  asks_none : Happens one_each (alone [] gave) (Send 0) Idle (alone [] gave)
  hands : Happens one_each (alone [] gave) (Hand 0) Done (alone [] gave_handed)
  replied : handed_bytes one_each (alone [] gave_handed) 0 gave_handed ≡ codes "SERVER_ERROR out of memory\r\n"

nothing_due : HasCome 1 gave.taken (λ _. 0) 1
unfolding pieces_of
nothing_due s = lit≤ tt

given_up : GivenUp
unfolding pieces_of reply_kind_of reply_kind_text kind_of
given_up = record {
  took = (
    0,
    fed,
    (at_alone [] fed refl, (flush, begins), lit< tt, refl),
    (record one { given_up = true }, record { next = begins; moment_is = refl; may = λ gone. refl }, refl),
  );
  asks_none =
      idle_alone one_each [] gave (Send 0) (λ k link may. may.0.here) (λ may. let next = may.1.next in absurd cc);
  hands = (
    0,
    gave,
    (at_alone [] gave refl, lit< tt, nothing_due, refl),
    (1, record { within = lit≤ tt; come = nothing_due; most = λ count within has. within }, refl),
  );
  replied = refl;
}
