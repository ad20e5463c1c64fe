-- If a connection is not at rest, some work can be done.
use Rattle.std.proofs.Common.{◌≡◌, ℕ, zero, suc, ◌+◌, ◌<◌, ◌≤◌, ◌⊎◌, inl, inr, true, false, List, [], ◌∷◌, ◌++◌, length}
use Rattle.std.proofs.Common.{take, drop, refl, sym, ap, ◌∙◌, subst, arith, append_assoc, append-nil, length-append}
use Rattle.std.specs.Prelude.{MatchBool}
use Rattle.std.proofs.lemmas.Bool.{cases_Bool, cases_lt}
use Rattle.std.proofs.lemmas.List.{take-append-drop, take_all}
use Rattle.mc_command.specs.declared.command.Command.{Command}
use Rattle.mc_sizes.specs.Sizes.{AreWithin, rules_of}
use Rattle.mc_sizes.specs.declared.sizes.Sizes.{Sizes}
use Rattle.mc_reader.specs.Spelling.{SpellsFront, is_last}
use Rattle.mc_reader.proofs.Fronts.{commands_begin, every_input}
use Rattle.mc_item.specs.Kind.{key_of}
use Rattle.mc_store.specs.State.{State, settle}
use Rattle.mc_store.specs.Step.{Answers, IsStep, step_of}
use Rattle.mc_split.specs.declared.plan.Piece.{Piece}
use Rattle.mc_conn.specs.History.{Taken}
use Rattle.mc_conn.specs.Due.{due, channel, pieces, pieces_from}
use Rattle.mc_conn.specs.Fits.{HasCome}
use Rattle.mc_conn.proofs.Counting.{due_beyond}
use Rattle.mc_conn.proofs.Fitting.{due-append}
use Rattle.mc_model.specs.Sized.{SpellAll, SpellFirst}
use Rattle.mc_model.specs.Log.{Entry, of_asker}
use Rattle.mc_model.specs.World.{IsAt, IsLink, Link, World, entries, ran, sent_to, with_entry, with_link}
use Rattle.mc_model.specs.Rest.{AtRest, HasWindow, IsAllReceived, IsAllSent, IsAllTaken, IsNextCommand}
use Rattle.mc_model.specs.Events.{IsEmptyHand, IsTurn, MaySend, RunsNext, TakesNext, one_more}
use Rattle.mc_model.specs.Events.Event.{Take, Send, Pop, Give, Receive, Hand}
use Rattle.mc_model.specs.Law.{Law}
use Rattle.mc_laws.specs.Progress.{AllAtRest, HasWork}
use Rattle.mc_model.specs.Alone.{outcome_at}
use Rattle.mc_model.proofs.Links.{ran_within}
use Rattle.mc_laws.proofs.Finding.{Below, Found, some_below, some_or_each}
use Rattle.mc_command.specs.declared.rules.Rules.{Rules}
use Rattle.mc_sim.proofs.Opening.{due_received, sent_within}
use Rattle.mc_sim.proofs.AtSeat.{not_one_more}
use Rattle.mc_ring.proofs.Lists.{get_below}
use Rattle.mc_reply.specs.Server.{no_server}

-- what a shard answers where no memory is refused is a step
step_there : (state : State) (piece : Piece)
    → IsStep state piece.op piece.moment (outcome_at state piece.op piece.moment).0
    (outcome_at state piece.op piece.moment).1
unfolding IsStep Answers
step_there state piece = ((step_of (settle state (key_of piece.op) piece.moment) piece.op).1, inr refl, refl)

-- what is due for the first commands is no more than for all
pub due_within : (shards s count : ℕ) (taken : List Taken)
    → length (due shards s (take count taken)) ≤ length (due shards s taken)
due_within shards s count taken =
    let whole = ap (λ ts. length (due shards s ts)) (sym (take-append-drop count taken)) in
    let parts = ap length (due-append shards s (take count taken) (drop count taken)) in
    omega (
      arith,
      whole,
      parts,
      length-append (due shards s (take count taken))
          (channel s (pieces_from shards (0 + length (take count taken)) (drop count taken))),
    )

-- A connection that is not at rest is the last of its seat.
pub last_at : (sizes : Sizes) (w : World) (k : ℕ) (link : Link) → Law sizes w → IsLink w k link
    → (AtRest sizes link → ⊥) → IsAt w link.seat k link
last_at sizes w k link l here busy =
    record {
      here = here;
      seat_is = refl;
      last = λ j other less at_j same. busy (l.rested k j link other less here at_j (sym same));
    }

-- A connection that has not received all answers that are due is the last that was opened on its seat.
pub at_waiting : (sizes : Sizes) (w : World) (k : ℕ) (link : Link) (s : ℕ) → Law sizes w → IsLink w k link
    → link.received s < length (due sizes.shards s link.taken) → IsAt w link.seat k link
at_waiting sizes w k link s l here waits =
    last_at sizes w k link l here
    (λ rest. let all = due_received sizes (of_asker k w.log) link (l.links k link here) rest s in
    omega (arith, all, waits))

receive_goes : (sizes : Sizes) (w : World) (k : ℕ) (link : Link) (s : ℕ) → Law sizes w → IsLink w k link
    → link.received s < link.given s → HasWork sizes w
receive_goes sizes w k link s l here some =
    let own = l.links k link here in
    let given = own.given s in
    let ran_of = ran_within sizes (of_asker k w.log) link own s in
    let at = at_waiting sizes w k link s l here (omega (arith, some, given, ran_of)) in
    record {
      event = Receive link.seat s;
      work = tt;
      next = with_link w k (record link { received = one_more link.received s });
      happens = (k, link, (at, some), refl);
      sure = λ spared. spared;
    }

-- A worker whose hand is full can give, or its seat can receive.
hand_goes : (sizes : Sizes) (w : World) (k : ℕ) (link : Link) (s : ℕ) → 0 < sizes.ring → Law sizes w → IsLink w k link
    → link.given s < ran w k s → HasWork sizes w
hand_goes sizes w k link s places l here ungiven = elim (cases_lt (link.given s) (link.received s + sizes.ring)) [
  | inl room ↦ record {
    event = Give s;
    work = tt;
    next = with_link w k (record link { given = one_more link.given s });
    happens = (k, link, (here, ungiven, room), refl);
    sure = λ spared. spared;
  }
  | inr full ↦ receive_goes sizes w k link s l here (omega (arith, full, places))
]

-- A shard's worker holds an answer for some connection, or its hand is empty.
pub hand_or_empty : (w : World) (s : ℕ) → Found (λ k (link : Link). link.given s < ran w k s) w.links ⊎ IsEmptyHand w s
hand_or_empty w s =
    some_or_each (λ k (link : Link). link.given s < ran w k s) (λ k (link : Link). ran w k s ≤ link.given s) w.links
    (λ k link here. cases_lt (link.given s) (ran w k s))

-- A piece is run.
pop_goes : (sizes : Sizes) (w : World) (k : ℕ) (link : Link) (s : ℕ) (entry : Entry) → IsAt w link.seat k link
    → IsEmptyHand w s → ran w k s < sent_to sizes s link → RunsNext sizes w s k link entry → HasWork sizes w
pop_goes sizes w k link s entry at empty some runs = record {
  event = Pop s link.seat;
  work = tt;
  next = with_entry w entry;
  happens = (k, link, (at, empty, some), (entry, runs, refl));
  sure = λ spared. spared;
}

-- A shard that was sent a piece can run it, or its worker's hand is full.
shard_goes : (sizes : Sizes) (w : World) (k : ℕ) (link : Link) (s : ℕ) → AreWithin sizes → Law sizes w → IsLink w k link
    → ran w k s < sent_to sizes s link → HasWork sizes w
shard_goes sizes w k link s within l here some = elim (hand_or_empty w s) [
  | inl held ↦ hand_goes sizes w held.place held.x s within.ring.0 l held.here held.holds
  | inr empty ↦
      let own = l.links k link here in
      let given = own.given s in
      let received = own.received s in
      let sent = sent_within sizes link s in
      let at = at_waiting sizes w k link s l here (omega (arith, some, given, received, sent)) in
      let next = get_below (due sizes.shards s link.taken) (ran w k s) (omega (arith, some, sent)) in
      let piece = next.0 in
      let there : s < sizes.shards = elim (cases_lt s sizes.shards) [
        | inl below ↦ below
        | inr beyond ↦ let none =
            ap length (due_beyond sizes.shards s link.taken within.shards.0 beyond) in
            absurd (omega (arith, none, some, sent))
      ] in
      let left = l.lawful s there in
      pop_goes sizes w k link s
      (record { shard = s; asker = k; piece = piece; answer = (outcome_at left.0 piece.op piece.moment).0 }) at empty
      some (record {
        shard_is = refl;
        asker_is = refl;
        next = next.1;
        before = left.0;
        after = (outcome_at left.0 piece.op piece.moment).1;
        left = left.1;
        step = step_there left.0 piece;
      })
]

-- If an answer to a piece that was sent is not received yet.
answer_goes : (sizes : Sizes) (w : World) (k : ℕ) (link : Link) (s : ℕ) → AreWithin sizes → Law sizes w
    → IsLink w k link → link.received s < sent_to sizes s link → HasWork sizes w
answer_goes sizes w k link s within l here waits = elim (cases_lt (link.received s) (link.given s)) [
  | inl some ↦ receive_goes sizes w k link s l here some
  | inr none ↦ elim (cases_lt (link.given s) (ran w k s)) [
    | inl held ↦ hand_goes sizes w k link s within.ring.0 l here held
    | inr given ↦ shard_goes sizes w k link s within l here (omega (arith, waits, none, given))
  ]
]

send_goes : (sizes : Sizes) (w : World) (k : ℕ) (link : Link) → AreWithin sizes → Law sizes w → IsLink w k link
    → link.sent < length (pieces sizes.shards link.taken) → HasWork sizes w
send_goes sizes w k link within l here unsent =
    let next = get_below (pieces sizes.shards link.taken) link.sent unsent in
    let s = next.0.0 in
    let at = last_at sizes w k link l here (λ rest.
    let all : IsAllSent sizes link =
    elim link.broken as (λ b. MatchBool b (IsAllSent sizes link × IsAllReceived sizes link)
    (IsAllTaken sizes link × IsAllSent sizes link × (link.handed ≡ length link.taken)) → IsAllSent sizes link) [
      | true ↦
          λ r. r.0
      | false ↦ λ r. r.1
    ] rest in
    omega (arith, all, unsent)) in
    elim (cases_lt (sent_to sizes s link) (ran w k s + sizes.ring)) [
      | inl room ↦
          let may : MaySend sizes w k link = record { piece = next.0; next = next.1; room = room } in
          record {
            event = Send link.seat;
            work = tt;
            next = with_link w k (record link { sent = link.sent + 1 });
            happens = (k, link, (at, may), refl);
            sure = λ spared. spared;
          }
      | inr full ↦ shard_goes sizes w k link s within l here
          (let places : 0 < sizes.ring = within.ring.0 in omega (arith, full, places))
    ]

-- All answers to the first commands were received, or one of a shard was not.
pub come_or_waits : (sizes : Sizes) (link : Link) (count : ℕ) → 0 < sizes.shards
    → Below (λ s. link.received s < length (due sizes.shards s (take count link.taken))) sizes.shards
    ⊎ HasCome sizes.shards link.taken link.received count
come_or_waits sizes link count some =
    elim (some_below (λ s. link.received s < length (due sizes.shards s (take count link.taken)))
    (λ s. length (due sizes.shards s (take count link.taken)) ≤ link.received s)
    (λ s. cases_lt (link.received s) (length (due sizes.shards s (take count link.taken)))) sizes.shards) [
      | inl waits ↦ inl waits
      | inr all ↦ inr (λ s. elim (cases_lt s sizes.shards) [
        | inl below ↦ all s below
        | inr beyond ↦ let none =
            ap length (due_beyond sizes.shards s (take count link.taken) some beyond) in omega (arith, none)
      ])
    ]

-- the most commands that need no further answer
longest : (sizes : Sizes) (link : Link) (n : ℕ) → 0 < sizes.shards → n ≤ length link.taken
    → ((more : ℕ) → more ≤ length link.taken → HasCome sizes.shards link.taken link.received more → more ≤ n)
    → (count : ℕ) × IsTurn sizes link count
longest sizes link zero some within most = (
  0,
  record {
    within = within;
    come = λ s. let none : length (due sizes.shards s (take 0 link.taken)) ≡ 0 = refl in omega (arith, none);
    most = most;
  },
)
longest sizes link (suc n) some within most = elim (come_or_waits sizes link (suc n) some) [
  | inr come ↦ (suc n, record { within = within; come = come; most = most })
  | inl waits ↦ longest sizes link n some (omega (arith, within)) (λ more below come. elim (cases_lt more (suc n)) [
    | inl less ↦ omega (arith, less)
    | inr enough ↦
        let bound = most more below come in
        let same : more ≡ suc n = omega (arith, enough, bound) in
        let come' = subst (λ m. length (due sizes.shards waits.place (take m link.taken)) ≤ link.received waits.place)
        same (come waits.place) in
        let less = waits.holds in
        absurd (omega (arith, come', less))
  ])
]

-- A prefix of some commands is a prefix too.
none_front : (first more : List Command) → first ++ more ≡ [] → first ≡ []
none_front [] more none = refl
none_front (command ∷ first) more none = absurd (cc)

front_begins : (rules : Rules) (first more : List Command) (before : ℕ) (input rest : List ℕ)
    → SpellsFront rules before input (first ++ more) rest → (left : List ℕ) × SpellsFront rules before input first left
front_begins rules [] more before input rest front = (input, refl)
front_begins rules (command ∷ first) more before input rest front = elim (cases_Bool (is_last before command)) [
  | inl last ↦ let h =
      rw last at front.4 in (rest, (front.0, front.1, front.2, front.3, rw last (none_front first more h.0, h.1)))
  | inr goes ↦ let later =
      front_begins rules first more (before + 1) front.1 rest (rw goes at front.4) in
      (later.0, (front.0, front.1, front.2, front.3, rw goes later.1))
]

-- All commands in the input are parsed, or there is a next one.
by_more : (sizes : Sizes) (link : Link) (all more : List Command) → SpellAll sizes link.fed all → entries link ++ more
    ≡ all → IsAllTaken sizes link ⊎ ((command : Command) × IsNextCommand sizes link command)
by_more sizes link all [] commands is =
    inl (subst (λ es. SpellAll sizes link.fed es) (sym is ∙ append-nil (entries link)) commands)
by_more sizes link all (command ∷ more) commands is =
    let split : (entries link ++ command ∷ []) ++ more ≡ all = append_assoc (entries link) (command ∷ []) more ∙ is in
    let front = front_begins (rules_of sizes) (entries link ++ command ∷ []) more 0 link.fed commands.0
    (subst (λ es. SpellsFront (rules_of sizes) 0 link.fed es commands.0) (sym split) commands.1) in
    inr (command, (front.0, front.1))

-- If the commands parsed are a prefix of those in the input, they are all of them, or there is a next one.
pub next_or_all : (sizes : Sizes) (link : Link) → SpellFirst sizes link.fed (entries link) → IsAllTaken sizes link
    ⊎ ((command : Command) × IsNextCommand sizes link command)
next_or_all sizes link some =
    let all = every_input (rules_of sizes) link.fed in
    let more = commands_begin (rules_of sizes) link.fed [] (entries link) all.0 some (rw append-nil all.1) in
    by_more sizes link all.0 more.0 all.1 more.1

-- of a broken connection whose pieces are all sent
broken_goes : (sizes : Sizes) (w : World) (k : ℕ) (link : Link) → AreWithin sizes → Law sizes w → IsLink w k link
    → IsAllSent sizes link → ((s : ℕ) → sent_to sizes s link ≡ length (due sizes.shards s link.taken)) → HasWork sizes w
    ⊎ IsAllReceived sizes link
broken_goes sizes w k link within l here sent to =
    let own = l.links k link here in
    elim (come_or_waits sizes link (length link.taken) within.shards.0) [
      | inl waits ↦
          let s = waits.place in
          let less = waits.holds in
          let all = due_within sizes.shards s (length link.taken) link.taken in
          let e = to s in
          inl (answer_goes sizes w k link s within l here (omega (arith, less, all, e)))
      | inr come ↦ inr (λ s.
          let all = ap (λ ts. length (due sizes.shards s ts)) (take_all (length link.taken) link.taken (omega arith)) in
          let enough = come s in
          let received = own.received s in
          let given = own.given s in
          let ran_of = ran_within sizes (of_asker k w.log) link own s in
          omega (arith, all, enough, received, given, ran_of))
    ]

-- of one that isn't broken
whole_goes : (sizes : Sizes) (w : World) (k : ℕ) (link : Link) → AreWithin sizes → Law sizes w → IsLink w k link
    → link.broken ≡ false → IsAllSent sizes link
    → ((s : ℕ) → sent_to sizes s link ≡ length (due sizes.shards s link.taken)) → HasWork sizes w
    ⊎ (IsAllTaken sizes link × IsAllSent sizes link × (link.handed ≡ length link.taken))
whole_goes sizes w k link within l here whole sent to =
    let own = l.links k link here in
    elim (cases_lt link.handed (length link.taken)) [
      | inl waiting ↦ elim (come_or_waits sizes link (link.handed + 1) within.shards.0) [
        | inl waits ↦
            let s = waits.place in
            let less = waits.holds in
            let all = due_within sizes.shards s (link.handed + 1) link.taken in
            let e = to s in
            inl (answer_goes sizes w k link s within l here (omega (arith, less, all, e)))
        | inr come ↦
            let turn = longest sizes link (length link.taken) within.shards.0 (omega arith) (λ more below _. below) in
            let at = last_at sizes w k link l here (λ rest.
            let r = subst (λ b. MatchBool b (IsAllSent sizes link × IsAllReceived sizes link)
            (IsAllTaken sizes link × IsAllSent sizes link × (link.handed ≡ length link.taken))) whole rest in
            let handed = r.2 in omega (arith, handed, waiting)) in
            inl (record {
              event = Hand link.seat;
              work = tt;
              next = with_link w k (record link { handed = turn.0 });
              happens = (k, link, (at, waiting, come, whole), (turn.0, turn.1, refl));
              sure = λ spared. spared;
            })
      ]
      | inr all_handed ↦
          let bound = own.handed in
          let handed : link.handed ≡ length link.taken = omega (arith, all_handed, bound) in
          elim (next_or_all sizes link own.begins) [
            | inl all ↦ inr (all, sent, handed)
            | inr next ↦
                let one : Taken = record { entry = next.0; moment = 0; server = no_server; given_up = false } in
                let window : HasWindow sizes link = let some : 0 < sizes.window = within.window.0 in
                omega (arith, handed, some) in
                let takes : TakesNext sizes link 0 one =
                record { next = next.1; moment_is = refl; may = λ never. absurd (cc) } in
                let at = last_at sizes w k link l here (λ rest.
                let r = subst (λ b. MatchBool b (IsAllSent sizes link × IsAllReceived sizes link)
                (IsAllTaken sizes link × IsAllSent sizes link × (link.handed ≡ length link.taken))) whole rest in
                not_one_more sizes link next.0 r.0 next.1) in
                inl (record {
                  event = Take link.seat 0;
                  work = tt;
                  next = with_link w k (record link { taken = link.taken ++ one ∷ [] });
                  happens = (k, link, (at, next, window, whole), (one, takes, refl));
                  sure = λ spared. spared;
                })
          ]
    ]

link_goes : (sizes : Sizes) (w : World) (k : ℕ) (link : Link) → AreWithin sizes → Law sizes w → IsLink w k link
    → HasWork sizes w ⊎ AtRest sizes link
link_goes sizes w k link within l here =
    let own = l.links k link here in
    elim (cases_lt link.sent (length (pieces sizes.shards link.taken))) [
      | inl unsent ↦ inl (send_goes sizes w k link within l here unsent)
      | inr all ↦
          let bound = own.sent in
          let sent : IsAllSent sizes link = omega (arith, all, bound) in
          let to : (s : ℕ) → sent_to sizes s link ≡ length (due sizes.shards s link.taken) = λ s.
          ap (λ ps. length (channel s ps)) (take_all link.sent (pieces sizes.shards link.taken) all) in
          elim (cases_Bool link.broken) [
            | inl broken ↦ elim (broken_goes sizes w k link within l here sent to) [
              | inl goes ↦ inl goes
              | inr received ↦ inr (rw broken (sent, received))
            ]
            | inr whole ↦ elim (whole_goes sizes w k link within l here whole sent to) [
              | inl goes ↦ inl goes
              | inr rest ↦ inr (rw whole rest)
            ]
          ]
    ]

-- Some work can be done, or all are at rest.
pub rests_or_goes : (sizes : Sizes) (w : World) → AreWithin sizes → Law sizes w → AllAtRest sizes w ⊎ HasWork sizes w
rests_or_goes sizes w within l =
    elim (some_or_each (λ k (link : Link). HasWork sizes w) (λ k (link : Link). AtRest sizes link) w.links
    (λ k link here. link_goes sizes w k link within l here)) [
      | inl some ↦ inr some.holds
      | inr all ↦ inl all
    ]
