-- Each connection makes progress, whatever the others do, if each kind of work that can be done again and
-- again is done again and again.
use Rattle.std.proofs.Common.{◌≡◌, ◌≢◌, ℕ, zero, suc, ◌+◌, ◌-◌, ◌<◌, ◌≤◌, ◌⊎◌, inl, inr, true, false, List, [], ◌∷◌}
use Rattle.std.proofs.Common.{◌++◌, length, take, drop, Some, refl, sym, ap, ◌∙◌, subst, arith, append_assoc}
use Rattle.std.proofs.Common.{append-nil, length-append}
use Rattle.std.specs.Prelude.{MatchBool}
use Rattle.std.specs.List.{slice_get}
use Rattle.std.proofs.lemmas.Bool.{cases_Bool, cases_eq, cases_lt}
use Rattle.std.proofs.lemmas.Bool.Decides.{eqb_tells}
use Rattle.std.proofs.lemmas.List.{length-map, take-append-drop, take-append-le, take_all}
use Rattle.std.proofs.lemmas.Option.{slice_get_within}
use Rattle.mc_command.specs.declared.command.Command.{Command}
use Rattle.mc_sizes.specs.Sizes.{AreWithin, rules_of}
use Rattle.mc_sizes.specs.declared.sizes.Sizes.{Sizes}
use Rattle.mc_reader.proofs.Fronts.{begin_more, commands_begin}
use Rattle.mc_split.specs.declared.plan.Piece.{Piece}
use Rattle.mc_conn.specs.History.{Taken}
use Rattle.mc_conn.specs.Due.{due, channel, pieces, pieces_from}
use Rattle.mc_conn.proofs.Fitting.{pieces_from-append}
use Rattle.mc_conn.specs.Fits.{HasCome}
use Rattle.mc_conn.proofs.Counting.{due_beyond}
use Rattle.mc_conn.proofs.Gets.{get_front}
use Rattle.mc_model.specs.Sized.{SpellFirst}
use Rattle.mc_model.specs.Log.{of_asker}
use Rattle.mc_model.specs.World.{IsAt, IsLink, Link, World, entries, ran, sent_to, with_link}
use Rattle.mc_model.specs.Rest.{AtRest, HasWindow, IsAllReceived, IsAllSent, IsAllTaken, IsNextCommand}
use Rattle.mc_model.specs.Events.{Event, IsEmptyHand, one_more}
use Rattle.mc_model.specs.Events.Event.{Open, Feed, Take, Send, Pop, Give, Receive, Hand, End, Break}
use Rattle.mc_model.specs.declared.event.StepReply.{StepReply}
use Rattle.mc_model.specs.Schedule.{Enabled, Happens}
use Rattle.mc_model.specs.declared.event.StepReply.TheVariants.{Done, Idle, NoMemory}
use Rattle.mc_model.specs.Law.{Law}
use Rattle.mc_laws.specs.Progress.{IsWork}
use Rattle.mc_laws.specs.Fair.{EndlessRun, IsSameStep, IsFairToSeats, IsWorkOf, IsWeaklyFair, GetsReply}
use Rattle.mc_laws.specs.Fair.{NoneWaitsForever}
use Rattle.mc_laws.proofs.After.{IsMore, Later, event_later, channel_grows, later_same, later_then, sent_grows}
use Rattle.mc_laws.proofs.After.{sent_stays}
use Rattle.mc_model.proofs.Links.{ran_within}
use Rattle.mc_model.proofs.Lists.{at_once, push_cases, set_cases}
use Rattle.mc_laws.proofs.Measure.{ran_here, there_is}
use Rattle.mc_laws.proofs.Fairness.{AreSeated, at_seat, enabled_in, law_along, one_place}
use Rattle.mc_laws.proofs.Working.{at_waiting, hand_or_empty, last_at, next_or_all}
use Rattle.mc_model.proofs.Growing.{set_here}
use Rattle.mc_sim.proofs.Opening.{sent_within}
use Rattle.mc_sim.proofs.AtSeat.{not_one_more}
use Rattle.mc_ring.proofs.Lists.{get_below}

-- a run, and what holds at each of its places
record Load (sizes : Sizes) (w : World) (run : EndlessRun sizes w) : Type 0 where
  within : AreWithin sizes
  law : (n : ℕ) → Law sizes (run.worlds n)
  seated : (n : ℕ) → AreSeated sizes (run.worlds n)
  fair : IsWeaklyFair run
  seats : IsFairToSeats run

-- a connection at a later place
later_by : (sizes : Sizes) (w : World) (run : EndlessRun sizes w) → Load sizes w run → (n count k : ℕ) (link : Link)
    → IsLink (run.worlds n) k link → Later (run.worlds n) k link (run.worlds (n + count))
later_by sizes w run c n zero k link here = let at : n ≡ n + 0 =
    omega arith in subst (λ m. Later (run.worlds n) k link (run.worlds m)) at (later_same (run.worlds n) k link here)
later_by sizes w run c n (suc count) k link here =
    let before = later_by sizes w run c n count k link here in
    let mid = n + count in
    let step = event_later sizes (run.worlds mid) (run.events mid) (run.replies mid) (run.worlds (mid + 1)) (c.law mid)
    (run.happens mid) k before.link' before.here in
    let at : n + count + 1 ≡ n + suc count = omega arith in
    subst (λ m. Later (run.worlds n) k link (run.worlds m))
    at (later_then (run.worlds n) (run.worlds mid) (run.worlds (mid + 1)) k link before step)

later_at : (sizes : Sizes) (w : World) (run : EndlessRun sizes w) → Load sizes w run → (n m k : ℕ) (link : Link) → n ≤ m
    → IsLink (run.worlds n) k link → Later (run.worlds n) k link (run.worlds m)
later_at sizes w run c n m k link after here =
    let at : n + (m - n) ≡ m = omega (arith, after) in
    subst (λ p. Later (run.worlds n) k link (run.worlds p)) at (later_by sizes w run c n (m - n) k link here)

-- A count of the connection is greater at a later place.
record Grown {sizes : Sizes} {w : World} (run : EndlessRun sizes w) (n k : ℕ) (count : World → Link → ℕ) (before : ℕ) :
    Type 0 where
  place : ℕ
  after : n ≤ place
  link : Link
  here : IsLink (run.worlds place) k link
  more : before < count (run.worlds place) link

-- Work is done, or at some place it isn't enabled.
by_fair : (sizes : Sizes) (w : World) (run : EndlessRun sizes w) → Load sizes w run
    → (G : Type 0) (n : ℕ) (event : Event) → IsWork event → IsWorkOf sizes event →
    ((m : ℕ) → n ≤ m → (Enabled sizes (run.worlds m) event → ⊥) → G) →
    ((m : ℕ) (other : Event) → n ≤ m → IsSameStep event other
    → Happens sizes (run.worlds m) other Done (run.worlds (m + 1)) → G) → G
by_fair sizes w run c G n event work there never done = elim (c.fair n event there) [
  | inl d ↦ done d.later (run.events d.later) d.after d.holds.0
      (subst (λ r. Happens sizes (run.worlds d.later) (run.events d.later) r (run.worlds (d.later + 1))) d.holds.1
      (run.happens d.later))
  | inr o ↦ never o.later o.after o.holds
]

-- A shard takes a piece of the seat, or from some place on it never may.
by_seats : (sizes : Sizes) (w : World) (run : EndlessRun sizes w) → Load sizes w run → (G : Type 0) (n s seat : ℕ)
    → s < sizes.shards → seat < sizes.seats →
    ((m : ℕ) → n ≤ m → ((i : ℕ) → m ≤ i → Enabled sizes (run.worlds i) (Pop s seat) → ⊥) → G) →
    ((m : ℕ) (other : Event) → n ≤ m → IsSameStep (Pop s seat) other
    → Happens sizes (run.worlds m) other Done (run.worlds (m + 1)) → G) → G
by_seats sizes w run c G n s seat there on never done = elim (c.seats n s seat there on) [
  | inl d ↦ done d.later (run.events d.later) d.after d.holds.0
      (subst (λ r. Happens sizes (run.worlds d.later) (run.events d.later) r (run.worlds (d.later + 1))) d.holds.1
      (run.happens d.later))
  | inr o ↦ never o.later o.after o.holds
]

one_more-here : (counts : ℕ → ℕ) (s : ℕ) → one_more counts s s ≡ counts s + 1
one_more-here counts s = elim (eqb_tells s s) [
  | inl here ↦ rw here.0 refl
  | inr other ↦ absurd (other.1 refl)
]

one_more-other : (counts : ℕ → ℕ) (shard s : ℕ) → shard ≢ s → one_more counts shard s ≡ counts s
one_more-other counts shard s apart = elim (eqb_tells s shard) [
  | inl here ↦ absurd (apart (sym here.1))
  | inr other ↦ rw other.0 refl
]

-- the connection of a seat where one connection changes
changed_here : (w : World) (seat k j : ℕ) (link other new : Link) (w' : World) → IsAt w seat k link
    → IsAt w seat j other → w' ≡ with_link w j new → IsLink w' k new
changed_here w seat k j link other new w' at at' is =
    let place = one_place w seat j k other link at' at in
    subst (λ v. IsLink v k new) (sym is)
    (subst (λ i. IsLink (with_link w j new) i new) place (set_here w.links j new other at'.here))

-- A reply that waits is received.
receive_later : (sizes : Sizes) (w : World) (run : EndlessRun sizes w) → Load sizes w run → (n k s : ℕ) (link : Link)
    → IsLink (run.worlds n) k link → link.received s < link.given s
    → Grown run n k (λ v x. x.received s) (link.received s)
receive_later sizes w run c n k s link here waits =
    let still : (m : ℕ) → n ≤ m → Grown run n k (λ v x. x.received s) (link.received s)
    ⊎ ((x : Link) × IsAt (run.worlds m) link.seat k x × (x.received s < x.given s) × (x.received s ≡ link.received s)) =
    λ m after.
    let x = later_at sizes w run c n m k link after here in
    let given = x.more.given s in
    let received = x.more.received s in
    elim (cases_lt (link.received s) (x.link'.received s)) [
      | inl more ↦ inl (record { place = m; after = after; link = x.link'; here = x.here; more = more })
      | inr same ↦
          let law = c.law m in
          let own = law.links k x.link' x.here in
          let within = own.given s in
          let ran_of = ran_within sizes (of_asker k (run.worlds m).log) x.link' own s in
          let at = at_waiting sizes (run.worlds m) k x.link' s law x.here
          (omega (arith, waits, given, same, within, ran_of)) in
          inr (
            x.link',
            subst (λ seat. IsAt (run.worlds m) seat k x.link') x.more.seat at,
            omega (arith, waits, given, same),
            omega (arith, received, same),
          )
    ] in
    elim (still n (omega arith)) [
      | inl grown ↦ grown
      | inr now ↦
          let enabled : Enabled sizes (run.worlds n) (Receive link.seat s) = (k, now.0, (now.1, now.2)) in
          by_fair sizes w run c (Grown run n k (λ v x. x.received s) (link.received s)) n (Receive link.seat s) tt
          (enabled_in sizes (run.worlds n) (Receive link.seat s) c.within.shards.0 (c.law n) (c.seated n) enabled tt)
          (λ m after never. elim (still m after) [
            | inl grown ↦ grown
            | inr x ↦ absurd (never (k, x.0, (x.1, x.2)))
          ])
          (λ m other after alike done. elim (still m after) [
            | inl grown ↦ grown
            | inr x ↦
                let h = subst (λ e. Happens sizes (run.worlds m) e Done (run.worlds (m + 1))) alike done in
                let same : h.1 ≡ x.0 = at_once (run.worlds m).links h.0 k h.1 x.0 h.2.0.here x.1.here
                (one_place (run.worlds m) link.seat h.0 k h.1 x.0 h.2.0 x.1) in
                let one = one_more-here h.1.received s in
                let was = ap (λ (y : Link). y.received s) same in
                let before = x.3 in
                record {
                  place = m + 1;
                  after = omega (arith, after);
                  link = record h.1 { received = one_more h.1.received s };
                  here =
                      changed_here (run.worlds m) link.seat k h.0 x.0 h.1
                      (record h.1 { received = one_more h.1.received s }) (run.worlds (m + 1)) x.1 h.2.0 h.3;
                  more = omega (arith, one, was, before);
                }
          ])
    ]

-- What a shard gave to a connection changes by its Give alone.
set_given : (w : World) (k : ℕ) (link new : Link) (w' : World) (s : ℕ) → IsLink w k link → new.given s ≡ link.given s
    → w' ≡ with_link w k new → (j : ℕ) (x y : Link) → IsLink w j x → IsLink w' j y → y.given s ≡ x.given s
set_given w k link new w' s here same is j x y at_x at_y =
    elim (set_cases w.links k new j y (subst (λ v. IsLink v j y) is at_y)) [
      | inl this ↦
          let old : link ≡ x = at_once w.links k j link x here at_x (sym this.0) in
          ap (λ (z : Link). z.given s) this.1 ∙ (same ∙ ap (λ (z : Link). z.given s) old)
      | inr other ↦ ap (λ (z : Link). z.given s) (at_once w.links j j y x other.1 at_x refl)
    ]

past : (links : List Link) (j : ℕ) (x : Link) → slice_get links j ≡ Some x → j ≡ length links → ⊥
past links j x here at = let within = slice_get_within links j x here in absurd (omega (arith, within, at))

-- The worker gave its reply, or no connection was given any more by the shard.
given_or : (sizes : Sizes) (w : World) (event : Event) (reply : StepReply) (w' : World) (s : ℕ)
    → Happens sizes w event reply w' → Happens sizes w (Give s) Done w'
    ⊎ ((j : ℕ) (x y : Link) → IsLink w j x → IsLink w' j y → y.given s ≡ x.given s)
given_or sizes w (Open seat) Done w' s h =
    inr (λ j x y at_x at_y. elim (push_cases w.links h.1 j y (subst (λ v. IsLink v j y) h.3 at_y)) [
      | inl old ↦ ap (λ (z : Link). z.given s) (at_once w.links j j y x old at_x refl)
      | inr new ↦ absurd (past w.links j x at_x new.0)
    ])
given_or sizes w (Feed seat bytes) Done w' s h =
    inr (λ j x y at_x at_y. set_given w h.0 h.1 (record h.1 { fed = h.1.fed ++ take h.3.0 bytes }) w' s h.2.0.here refl
    h.3.3 j x y at_x at_y)
given_or sizes w (Take seat moment) Done w' s h =
    inr (λ j x y at_x at_y. set_given w h.0 h.1 (record h.1 { taken = h.1.taken ++ h.3.0 ∷ [] }) w' s h.2.0.here refl
    h.3.2 j x y at_x at_y)
given_or sizes w (Send seat) Done w' s h =
    inr (λ j x y at_x at_y. set_given w h.0 h.1 (record h.1 { sent = h.1.sent + 1 }) w' s h.2.0.here refl h.3 j x y at_x
    at_y)
given_or sizes w (Pop shard seat) Done w' s h =
    inr (λ j x y at_x at_y. ap (λ (z : Link). z.given s)
    (at_once w.links j j y x (subst (λ v. IsLink v j y) h.3.2 at_y) at_x refl))
given_or sizes w (Give shard) Done w' s h = elim (cases_eq shard s) [
  | inl same ↦ inl (subst (λ t. Happens sizes w (Give t) Done w') same h)
  | inr apart ↦ inr (λ j x y at_x at_y. set_given w h.0 h.1 (record h.1 { given = one_more h.1.given shard }) w' s h.2.0
      (one_more-other h.1.given shard s apart) h.3 j x y at_x at_y)
]
given_or sizes w (Receive seat shard) Done w' s h =
    inr (λ j x y at_x at_y. set_given w h.0 h.1 (record h.1 { received = one_more h.1.received shard }) w' s h.2.0.here
    refl h.3 j x y at_x at_y)
given_or sizes w (Hand seat) Done w' s h =
    inr (λ j x y at_x at_y. set_given w h.0 h.1 (record h.1 { handed = h.3.0 }) w' s h.2.0.here refl h.3.2 j x y at_x
    at_y)
given_or sizes w (End seat) Done w' s h =
    inr (λ j x y at_x at_y. set_given w h.0 h.1 (record h.1 { ended = true }) w' s h.2.0.here refl h.3 j x y at_x at_y)
given_or sizes w (Break seat) Done w' s h =
    inr (λ j x y at_x at_y. set_given w h.0 h.1 (record h.1 { broken = true }) w' s h.2.0.here refl h.3 j x y at_x at_y)
given_or sizes w event Idle w' s h =
    inr (λ j x y at_x at_y. ap (λ (z : Link). z.given s)
    (at_once w.links j j y x (subst (λ v. IsLink v j y) h.1 at_y) at_x refl))
given_or sizes w event NoMemory w' s h =
    inr (λ j x y at_x at_y. ap (λ (z : Link). z.given s)
    (at_once w.links j j y x (subst (λ v. IsLink v j y) h.1 at_y) at_x refl))

-- The worker's hand is empty at a later place.
record Empties {sizes : Sizes} {w : World} (run : EndlessRun sizes w) (n s : ℕ) : Type 0 where
  place : ℕ
  after : n ≤ place
  empty : IsEmptyHand (run.worlds place) s

-- after a Give the hand is empty
give_empties : (sizes : Sizes) (w : World) (s : ℕ) (w' : World) → Law sizes w → Happens sizes w (Give s) Done w'
    → IsEmptyHand w' s
give_empties sizes w s w' l h =
    subst (λ v. IsEmptyHand v s) (sym h.3)
    (λ j one at. elim (set_cases w.links h.0 (record h.1 { given = one_more h.1.given s }) j one at) [
      | inl this ↦
          let bound = l.one_ungiven s h.0 h.1 h.2.0 in
          let more = one_more-here h.1.given s in
          let now = ap (λ (z : Link). z.given s) this.1 in
          let same = ap (λ i. ran w i s) this.0 in
          omega (arith, bound, more, now, same)
      | inr other ↦ elim (cases_lt (one.given s) (ran w j s)) [
        | inl held ↦ absurd (other.0 (sym (l.one_asker s h.0 j h.1 one h.2.0 other.1 h.2.1 held)))
        | inr given ↦ given
      ]
    ])

-- The connection was given no more by the shard up to a later place, or the hand was empty on the way.
given_by : (sizes : Sizes) (w : World) (run : EndlessRun sizes w) → Load sizes w run → (n s count k : ℕ) (x y : Link)
    → IsLink (run.worlds n) k x → IsLink (run.worlds (n + count)) k y → (y.given s ≡ x.given s) ⊎ Empties run n s
given_by sizes w run c n s zero k x y at_x at_y =
    let at : n + 0 ≡ n = omega arith in
    inl (ap (λ (z : Link). z.given s)
    (at_once (run.worlds n).links k k y x (subst (λ m. IsLink (run.worlds m) k y) at at_y) at_x refl))
given_by sizes w run c n s (suc count) k x y at_x at_y =
    let mid = n + count in
    let z = later_by sizes w run c n count k x at_x in
    let at : n + suc count ≡ mid + 1 = omega arith in
    elim (given_by sizes w run c n s count k x z.link' at_x z.here) [
      | inr empty ↦ inr empty
      | inl same ↦ elim (given_or sizes (run.worlds mid) (run.events mid) (run.replies mid) (run.worlds (mid + 1)) s
          (run.happens mid)) [
            | inl gave ↦ inr (record {
              place = mid + 1;
              after = omega arith;
              empty = give_empties sizes (run.worlds mid) s (run.worlds (mid + 1)) (c.law mid) gave;
            })
            | inr stays ↦ inl (stays k z.link' y z.here (subst (λ m. IsLink (run.worlds m) k y) at at_y) ∙ same)
          ]
    ]

-- A reply in the hand that finds room is given.
gives_with_room : (sizes : Sizes) (w : World) (run : EndlessRun sizes w) → Load sizes w run → (n s k : ℕ) (x : Link)
    → s < sizes.shards → IsLink (run.worlds n) k x → x.given s < ran (run.worlds n) k s
    → x.given s < x.received s + sizes.ring → Empties run n s
gives_with_room sizes w run c n s k x there here ungiven room =
    by_fair sizes w run c (Empties run n s) n (Give s) tt there
    (λ m after never.
    let y = later_at sizes w run c n m k x after here in
    let at : n + (m - n) ≡ m = omega (arith, after) in
    elim (given_by sizes w run c n s (m - n) k x y.link' here
    (subst (λ p. IsLink (run.worlds p) k y.link') (sym at) y.here)) [
      | inr empty ↦ empty
      | inl same ↦
          let ran_more = y.ran s in
          let got = y.more.received s in
          absurd (never (k, y.link', (y.here, omega (arith, same, ungiven, ran_more), omega (arith, same, room, got))))
    ])
    (λ m other after alike done.
    let h = subst (λ e. Happens sizes (run.worlds m) e Done (run.worlds (m + 1))) alike done in
    record {
      place = m + 1;
      after = omega (arith, after);
      empty = give_empties sizes (run.worlds m) s (run.worlds (m + 1)) (c.law m) h;
    })

empties : (sizes : Sizes) (w : World) (run : EndlessRun sizes w) → Load sizes w run → (n s : ℕ) → s < sizes.shards
    → Empties run n s
empties sizes w run c n s there = elim (hand_or_empty (run.worlds n) s) [
  | inr empty ↦ record { place = n; after = omega arith; empty = empty }
  | inl held ↦
      let k = held.place in
      let x = held.x in
      let ungiven = held.holds in
      elim (cases_lt (x.given s) (x.received s + sizes.ring)) [
        | inl room ↦ gives_with_room sizes w run c n s k x there held.here ungiven room
        | inr full ↦
            let places : 0 < sizes.ring = c.within.ring.0 in
            let grown = receive_later sizes w run c n k s x held.here (omega (arith, full, places)) in
            let y = grown.link in
            let past_n = grown.after in
            let at : n + (grown.place - n) ≡ grown.place = omega (arith, past_n) in
            elim (given_by sizes w run c n s (grown.place - n) k x y held.here
            (subst (λ p. IsLink (run.worlds p) k y) (sym at) grown.here)) [
              | inr empty ↦ empty
              | inl same ↦
                  let later = later_at sizes w run c n grown.place k x past_n held.here in
                  let ran_more = later.ran s in
                  let bound = ((c.law n).links k x held.here).answer_ring s in
                  let more = grown.more in
                  let e = gives_with_room sizes w run c grown.place s k y there grown.here
                  (omega (arith, same, ungiven, ran_more)) (omega (arith, same, bound, more)) in
                  let past_place = e.after in
                  record { place = e.place; after = omega (arith, past_n, past_place); empty = e.empty }
            ]
      ]
]

-- A piece that was sent is run.
run_later : (sizes : Sizes) (w : World) (run : EndlessRun sizes w) → Load sizes w run → (n k s : ℕ) (link : Link)
    → IsLink (run.worlds n) k link → ran (run.worlds n) k s < sent_to sizes s link
    → Grown run n k (λ v x. ran v k s) (ran (run.worlds n) k s)
run_later sizes w run c n k s link here waits =
    let G : Type 0 = Grown run n k (λ v x. ran v k s) (ran (run.worlds n) k s) in
    let still : (m : ℕ) → n ≤ m → G
    ⊎ ((x : Link) × IsAt (run.worlds m) link.seat k x × (ran (run.worlds m) k s < sent_to sizes s x)
    × (ran (run.worlds m) k s ≡ ran (run.worlds n) k s)) = λ m after.
    let x = later_at sizes w run c n m k link after here in
    let grows = x.ran s in
    elim (cases_lt (ran (run.worlds n) k s) (ran (run.worlds m) k s)) [
      | inl more ↦ inl (record { place = m; after = after; link = x.link'; here = x.here; more = more })
      | inr same ↦
          let own = (c.law m).links k x.link' x.here in
          let sent = sent_grows sizes link x.link' s ((c.law n).links k link here).sent x.more in
          let within = sent_within sizes x.link' s in
          let given = own.given s in
          let received = own.received s in
          let at = at_waiting sizes (run.worlds m) k x.link' s (c.law m) x.here
          (omega (arith, waits, same, sent, within, given, received)) in
          inr (
            x.link',
            subst (λ seat. IsAt (run.worlds m) seat k x.link') x.more.seat at,
            omega (arith, waits, same, sent),
            omega (arith, grows, same),
          )
    ] in
    elim (still n (omega arith)) [
      | inl grown ↦ grown
      | inr now ↦
          let due_there = sent_within sizes now.0 s in
          let some = now.2 in
          let there = there_is sizes now.0 s c.within.shards.0 (omega (arith, due_there, some)) in
          by_seats sizes w run c G n s link.seat there
          (at_seat sizes (run.worlds n) link.seat k now.0 (c.seated n) now.1)
          (λ m after never. elim (still m after) [
            | inl grown ↦ grown
            | inr x ↦
                let free = empties sizes w run c m s there in
                let past_m = free.after in
                elim (still free.place (omega (arith, after, past_m))) [
                  | inl grown ↦ grown
                  | inr y ↦ absurd (never free.place past_m (k, y.0, (y.1, free.empty, y.2)))
                ]
          ])
          (λ m other after alike done. elim (still m after) [
            | inl grown ↦ grown
            | inr x ↦
                let h = subst (λ e. Happens sizes (run.worlds m) e Done (run.worlds (m + 1))) alike done in
                let place = one_place (run.worlds m) link.seat h.0 k h.1 x.0 h.2.0 x.1 in
                let entry = h.3.0 in
                let runs = h.3.1 in
                let one = ap (λ v. ran v k s) h.3.2
                ∙ ran_here (run.worlds m).log entry k s (runs.asker_is ∙ place) runs.shard_is in
                let before = x.3 in
                record {
                  place = m + 1;
                  after = omega (arith, after);
                  link = x.0;
                  here = subst (λ v. IsLink v k x.0) (sym h.3.2) x.1.here;
                  more = omega (arith, one, before);
                }
          ])
    ]

-- A connection with pieces that aren't sent, or commands that aren't handed out, isn't at rest.
unsent_busy : (sizes : Sizes) (link : Link) → link.sent < length (pieces sizes.shards link.taken) → AtRest sizes link
    → ⊥
unsent_busy sizes link unsent rest =
    let all : IsAllSent sizes link =
    elim link.broken as (λ b. MatchBool b (IsAllSent sizes link × IsAllReceived sizes link)
    (IsAllTaken sizes link × IsAllSent sizes link × (link.handed ≡ length link.taken)) → IsAllSent sizes link) [
      | true ↦
          λ r. r.0
      | false ↦ λ r. r.1
    ] rest in
    absurd (omega (arith, all, unsent))

whole_rest : (sizes : Sizes) (link : Link) → link.broken ≡ false → AtRest sizes link → IsAllTaken sizes link
    × IsAllSent sizes link × (link.handed ≡ length link.taken)
whole_rest sizes link whole rest =
    subst (λ b. MatchBool b (IsAllSent sizes link × IsAllReceived sizes link)
    (IsAllTaken sizes link × IsAllSent sizes link × (link.handed ≡ length link.taken))) whole rest

-- The pieces of more commands are more.
pieces_grow : (sizes : Sizes) (link new : Link) → IsMore link new → (extra : List (ℕ × Piece))
    × (pieces sizes.shards new.taken ≡ pieces sizes.shards link.taken ++ extra)
pieces_grow sizes link new more = (
  pieces_from sizes.shards (0 + length link.taken) more.taken.0,
  ap (λ ts. pieces sizes.shards ts) more.taken.1 ∙ pieces_from-append sizes.shards 0 link.taken more.taken.0,
)

-- what holds of a connection with a piece that isn't sent, at a later place, where no more was sent
abbrev Unsent : (sizes : Sizes) (w : World) (run : EndlessRun sizes w) → (k : ℕ) (link : Link) → ℕ → Type 0
Unsent sizes w run k link m =
    (x : Link) × IsAt (run.worlds m) link.seat k x × (x.sent < length (pieces sizes.shards x.taken))
    × (x.sent ≡ link.sent)

unsent_still : (sizes : Sizes) (w : World) (run : EndlessRun sizes w) → Load sizes w run → (n k : ℕ) (link : Link)
    → IsLink (run.worlds n) k link → link.sent < length (pieces sizes.shards link.taken) → (m : ℕ) → n ≤ m
    → Grown run n k (λ v x. x.sent) link.sent ⊎ Unsent sizes w run k link m
unsent_still sizes w run c n k link here unsent m after =
    let x = later_at sizes w run c n m k link after here in
    let grows = x.more.sent in
    elim (cases_lt link.sent x.link'.sent) [
      | inl more ↦ inl (record { place = m; after = after; link = x.link'; here = x.here; more = more })
      | inr same ↦
          let extra = pieces_grow sizes link x.link' x.more in
          let count = ap length extra.1 in
          let long = length-append (pieces sizes.shards link.taken) extra.0 in
          let less : x.link'.sent < length (pieces sizes.shards x.link'.taken) =
          omega (arith, unsent, same, count, long) in
          let at = last_at sizes (run.worlds m) k x.link' (c.law m) x.here (unsent_busy sizes x.link' less) in
          inr (
            x.link',
            subst (λ seat. IsAt (run.worlds m) seat k x.link') x.more.seat at,
            less,
            omega (arith, grows, same),
          )
    ]

-- The oldest unsent piece is unchanged, and no more are sent to its shard, if none is sent.
next_stays : (sizes : Sizes) (x z : Link) (next : ℕ × Piece) → x.sent ≤ length (pieces sizes.shards x.taken)
    → IsMore x z → z.sent ≡ x.sent → slice_get (pieces sizes.shards x.taken) x.sent ≡ Some next
    → (slice_get (pieces sizes.shards z.taken) z.sent ≡ Some next) × (sent_to sizes next.0 z ≡ sent_to sizes next.0 x)
next_stays sizes x z next within more as_before at =
    let extra = pieces_grow sizes x z more in (
      ap (λ i. slice_get (pieces sizes.shards z.taken) i) as_before
          ∙ (ap (λ ps. slice_get ps x.sent) extra.1 ∙ get_front (pieces sizes.shards x.taken) extra.0 x.sent next at),
      sent_stays sizes x z next.0 within more as_before,
    )

-- A piece that finds room is sent.
send_with_room : (sizes : Sizes) (w : World) (run : EndlessRun sizes w) → Load sizes w run
    → (n k : ℕ) (link : Link) (next : ℕ × Piece) → IsLink (run.worlds n) k link
    → link.sent < length (pieces sizes.shards link.taken) → slice_get (pieces sizes.shards link.taken) link.sent
    ≡ Some next → sent_to sizes next.0 link < ran (run.worlds n) k next.0 + sizes.ring
    → Grown run n k (λ v x. x.sent) link.sent
send_with_room sizes w run c n k link next here unsent at room =
    let G : Type 0 = Grown run n k (λ v x. x.sent) link.sent in
    let still = unsent_still sizes w run c n k link here unsent in
    elim (still n (omega arith)) [
      | inl grown ↦ grown
      | inr now ↦
          by_fair sizes w run c G n (Send link.seat) tt
          (at_seat sizes (run.worlds n) link.seat k now.0 (c.seated n) now.1)
          (λ m after never. elim (still m after) [
            | inl grown ↦ grown
            | inr z ↦
                let later = later_at sizes w run c n m k link after here in
                let this : later.link' ≡ z.0 =
                at_once (run.worlds m).links k k later.link' z.0 later.here z.1.here refl in
                let more = subst (λ y. IsMore link y) this later.more in
                let both = next_stays sizes link z.0 next ((c.law n).links k link here).sent more z.3 at in
                let stays = both.1 in
                let ran_more = later.ran next.0 in
                absurd (never (
                  k,
                  z.0,
                  (
                    z.1,
                    record { piece = next; next = both.0; room = omega (arith, stays, room, ran_more) },
                  ),
                ))
          ])
          (λ m other after alike done. elim (still m after) [
            | inl grown ↦ grown
            | inr x ↦
                let h = subst (λ e. Happens sizes (run.worlds m) e Done (run.worlds (m + 1))) alike done in
                let same : h.1 ≡ x.0 = at_once (run.worlds m).links h.0 k h.1 x.0 h.2.0.here x.1.here
                (one_place (run.worlds m) link.seat h.0 k h.1 x.0 h.2.0 x.1) in
                let was = ap (λ (y : Link). y.sent) same in
                let before = x.3 in
                record {
                  place = m + 1;
                  after = omega (arith, after);
                  link = record h.1 { sent = h.1.sent + 1 };
                  here =
                      changed_here (run.worlds m) link.seat k h.0 x.0 h.1 (record h.1 { sent = h.1.sent + 1 })
                      (run.worlds (m + 1)) x.1 h.2.0 h.3;
                  more = omega (arith, was, before);
                }
          ])
    ]

-- A piece that isn't sent is sent.
send_later : (sizes : Sizes) (w : World) (run : EndlessRun sizes w) → Load sizes w run → (n k : ℕ) (link : Link)
    → IsLink (run.worlds n) k link → link.sent < length (pieces sizes.shards link.taken)
    → Grown run n k (λ v x. x.sent) link.sent
send_later sizes w run c n k link here unsent =
    let next = get_below (pieces sizes.shards link.taken) link.sent unsent in
    let s = next.0.0 in
    let own = (c.law n).links k link here in
    elim (cases_lt (sent_to sizes s link) (ran (run.worlds n) k s + sizes.ring)) [
      | inl room ↦ send_with_room sizes w run c n k link next.0 here unsent next.1 room
      | inr full ↦
          let places : 0 < sizes.ring = c.within.ring.0 in
          let grown = run_later sizes w run c n k s link here (omega (arith, full, places)) in
          let past_n = grown.after in
          elim (unsent_still sizes w run c n k link here unsent grown.place past_n) [
            | inl sent ↦ sent
            | inr z ↦
                let later = later_at sizes w run c n grown.place k link past_n here in
                let this : later.link' ≡ z.0 =
                at_once (run.worlds grown.place).links k k later.link' z.0 later.here z.1.here refl in
                let more = subst (λ y. IsMore link y) this later.more in
                let both = next_stays sizes link z.0 next.0 own.sent more z.3 next.1 in
                let stays = both.1 in
                let bound = own.piece_ring s in
                let ran_more = grown.more in
                let as_before = z.3 in
                let g = send_with_room sizes w run c grown.place k z.0 next.0 z.1.here z.2 both.0
                (omega (arith, stays, bound, ran_more)) in
                let past_place = g.after in
                let more_sent = g.more in
                record {
                  place = g.place;
                  after = omega (arith, past_n, past_place);
                  link = g.link;
                  here = g.here;
                  more = omega (arith, more_sent, as_before);
                }
          ]
    ]

-- What grew from a later place on has grown.
grown_on : (sizes : Sizes) (w : World) (run : EndlessRun sizes w) (n m k s before less : ℕ) → n ≤ m → less ≤ before
    → Grown run m k (λ v x. x.received s) before → Grown run n k (λ v x. x.received s) less
grown_on sizes w run n m k s before less after within grown =
    let past_m = grown.after in
    let more = grown.more in
    record {
      place = grown.place;
      after = omega (arith, after, past_m);
      link = grown.link;
      here = grown.here;
      more = omega (arith, more, within);
    }

-- A reply in a worker's hand is received.
held_later : (sizes : Sizes) (w : World) (run : EndlessRun sizes w) → Load sizes w run → (n k s : ℕ) (link : Link)
    → s < sizes.shards → IsLink (run.worlds n) k link → link.given s < ran (run.worlds n) k s
    → Grown run n k (λ v x. x.received s) (link.received s)
held_later sizes w run c n k s link there here held =
    let free = empties sizes w run c n s there in
    let x = later_at sizes w run c n free.place k link free.after here in
    let all_given = free.empty k x.link' x.here in
    let ran_more = x.ran s in
    let received = ((c.law n).links k link here).received s in
    elim (cases_lt (link.received s) (x.link'.received s)) [
      | inl more ↦ record { place = free.place; after = free.after; link = x.link'; here = x.here; more = more }
      | inr same ↦
          let grows = x.more.received s in
          grown_on sizes w run n free.place k s (x.link'.received s) (link.received s) free.after grows
          (receive_later sizes w run c free.place k s x.link' x.here
          (omega (arith, all_given, ran_more, held, received, same)))
    ]

-- The answer to a piece that was sent is received.
answer_later : (sizes : Sizes) (w : World) (run : EndlessRun sizes w) → Load sizes w run → (n k s : ℕ) (link : Link)
    → s < sizes.shards → IsLink (run.worlds n) k link → link.received s < sent_to sizes s link
    → Grown run n k (λ v x. x.received s) (link.received s)
answer_later sizes w run c n k s link there here waits =
    let own = (c.law n).links k link here in
    elim (cases_lt (link.given s) (ran (run.worlds n) k s)) [
      | inl held ↦ held_later sizes w run c n k s link there here held
      | inr all_given ↦ elim (cases_lt (link.received s) (link.given s)) [
        | inl some ↦ receive_later sizes w run c n k s link here some
        | inr none ↦
            let grown = run_later sizes w run c n k s link here (omega (arith, all_given, none, waits)) in
            let x = later_at sizes w run c n grown.place k link grown.after here in
            let grows = x.more.received s in
            let more = grown.more in
            let given = own.given s in
            let received = own.received s in
            elim (cases_lt (link.received s) (x.link'.received s)) [
              | inl came ↦ record {
                place = grown.place;
                after = grown.after;
                link = x.link';
                here = x.here;
                more = came;
              }
              | inr same ↦ grown_on sizes w run n grown.place k s (x.link'.received s) (link.received s) grown.after
                  grows (elim (cases_lt (x.link'.given s) (ran (run.worlds grown.place) k s)) [
                    | inl held ↦ held_later sizes w run c grown.place k s x.link' there x.here held
                    | inr enough ↦ receive_later sizes w run c grown.place k s x.link' x.here
                        (omega (arith, same, received, given, more, enough))
                  ])
            ]
      ]
    ]

-- The commands are spelled by what is fed later too.
spelled_later : (sizes : Sizes) (link new : Link) (commands : List Command) → IsMore link new
    → SpellFirst sizes link.fed commands → SpellFirst sizes new.fed commands
spelled_later sizes link new commands more spelled =
    subst (λ bytes. SpellFirst sizes bytes commands) (sym more.fed.1)
    (begin_more (rules_of sizes) link.fed more.fed.0 commands spelled)

-- If all commands are taken, there are as many.
all_are : (sizes : Sizes) (link : Link) (commands : List Command) → IsAllTaken sizes link
    → SpellFirst sizes link.fed commands → length commands ≤ length link.taken
all_are sizes link commands all spelled =
    let more = commands_begin (rules_of sizes) link.fed [] commands (entries link) spelled (rw append-nil all) in
    let long = ap length more.1 in
    omega (arith, long, length-append commands more.0, length-map link.taken (λ (t : Taken). t.entry))

-- it is broken
broke : (sizes : Sizes) (w : World) (run : EndlessRun sizes w) (n k number m : ℕ) (x : Link) → n ≤ m
    → IsLink (run.worlds m) k x → x.broken ≡ true → GetsReply run n k number
broke sizes w run n k number m x after here broken = record { later = m; after = after; holds = (x, here, inl broken) }

-- The next command is taken, where all that were taken are handed out.
take_later : (sizes : Sizes) (w : World) (run : EndlessRun sizes w) → Load sizes w run
    → (n k number : ℕ) (link : Link) (commands : List Command) → IsLink (run.worlds n) k link
    → SpellFirst sizes link.fed commands → length link.taken < length commands → link.handed ≡ length link.taken
    → Grown run n k (λ v x. length x.taken) (length link.taken) ⊎ GetsReply run n k number
take_later sizes w run c n k number link commands here spelled less handed =
    let G : Type 0 = Grown run n k (λ v x. length x.taken) (length link.taken) ⊎ GetsReply run n k number in
    let still : (m : ℕ) → n ≤ m → G
    ⊎ ((x : Link) × IsAt (run.worlds m) link.seat k x
    × (((command : Command) × IsNextCommand sizes x command) × HasWindow sizes x × (x.broken ≡ false))
    × (length link.taken ≤ length x.taken)) = λ m after.
    let x = later_at sizes w run c n m k link after here in
    let own = (c.law m).links k x.link' x.here in
    let long = ap length x.more.taken.1 in
    let longer = length-append link.taken x.more.taken.0 in
    let grows = x.more.handed in
    let bound = own.handed in
    elim (cases_Bool x.link'.broken) [
      | inl broken ↦ inl (inr (broke sizes w run n k number m x.link' after x.here broken))
      | inr whole ↦ elim (cases_lt (length link.taken) (length x.link'.taken)) [
        | inl more ↦ inl (inl (record { place = m; after = after; link = x.link'; here = x.here; more = more }))
        | inr same ↦ elim (next_or_all sizes x.link' own.begins) [
          | inl all ↦
              let count = all_are sizes x.link' commands all (spelled_later sizes link x.link' commands x.more spelled)
              in
              absurd (omega (arith, count, same, less))
          | inr next ↦
              let places : 0 < sizes.window = c.within.window.0 in
              let window : HasWindow sizes x.link' = omega (arith, same, grows, handed, places) in
              let at = last_at sizes (run.worlds m) k x.link' (c.law m) x.here
              (λ rest. not_one_more sizes x.link' next.0 (whole_rest sizes x.link' whole rest).0 next.1) in
              inr (
                x.link',
                subst (λ seat. IsAt (run.worlds m) seat k x.link') x.more.seat at,
                (next, window, whole),
                omega (arith, long, longer),
              )
        ]
      ]
    ] in
    elim (still n (omega arith)) [
      | inl grown ↦ grown
      | inr now ↦
          by_fair sizes w run c G n (Take link.seat 0) tt
          (at_seat sizes (run.worlds n) link.seat k now.0 (c.seated n) now.1)
          (λ m after never. elim (still m after) [
            | inl grown ↦ grown
            | inr x ↦ absurd (never (k, x.0, (x.1, x.2.0, x.2.1, x.2.2)))
          ])
          (λ m other after alike done. elim (still m after) [
            | inl grown ↦ grown
            | inr x ↦
                let h = subst (λ e. Happens sizes (run.worlds m) e Done (run.worlds (m + 1))) alike.1 done in
                let same : h.1 ≡ x.0 = at_once (run.worlds m).links h.0 k h.1 x.0 h.2.0.here x.1.here
                (one_place (run.worlds m) link.seat h.0 k h.1 x.0 h.2.0 x.1) in
                let was = ap (λ (y : Link). length y.taken) same in
                let longer = length-append h.1.taken (h.3.0 ∷ []) in
                let enough = x.3 in
                inl (record {
                  place = m + 1;
                  after = omega (arith, after);
                  link = record h.1 { taken = h.1.taken ++ h.3.0 ∷ [] };
                  here =
                      changed_here (run.worlds m) link.seat k h.0 x.0 h.1
                      (record h.1 { taken = h.1.taken ++ h.3.0 ∷ [] }) (run.worlds (m + 1)) x.1 h.2.0 h.3.2;
                  more = omega (arith, was, longer, enough);
                })
          ])
    ]

-- The first commands stay.
first_taken : (link new : Link) (count : ℕ) → IsMore link new → count ≤ length link.taken → take count new.taken
    ≡ take count link.taken
first_taken link new count more within =
    ap (λ ts. take count ts) more.taken.1 ∙ take-append-le count link.taken more.taken.0 within

-- The next reply is handed out, where all its answers were received.
hand_later : (sizes : Sizes) (w : World) (run : EndlessRun sizes w) → Load sizes w run → (n k number : ℕ) (link : Link)
    → IsLink (run.worlds n) k link → link.handed < length link.taken
    → HasCome sizes.shards link.taken link.received (link.handed + 1) → Grown run n k (λ v x. x.handed) link.handed
    ⊎ GetsReply run n k number
hand_later sizes w run c n k number link here waits come =
    let G : Type 0 = Grown run n k (λ v x. x.handed) link.handed ⊎ GetsReply run n k number in
    let still : (m : ℕ) → n ≤ m → G
    ⊎ ((x : Link) × IsAt (run.worlds m) link.seat k x
    × ((x.handed < length x.taken) × HasCome sizes.shards x.taken x.received (x.handed + 1) × (x.broken ≡ false))
    × (x.handed ≡ link.handed)) = λ m after.
    let x = later_at sizes w run c n m k link after here in
    let long = ap length x.more.taken.1 in
    let longer = length-append link.taken x.more.taken.0 in
    let grows = x.more.handed in
    elim (cases_Bool x.link'.broken) [
      | inl broken ↦ inl (inr (broke sizes w run n k number m x.link' after x.here broken))
      | inr whole ↦ elim (cases_lt link.handed x.link'.handed) [
        | inl more ↦ inl (inl (record { place = m; after = after; link = x.link'; here = x.here; more = more }))
        | inr same ↦
            let as_before : x.link'.handed ≡ link.handed = omega (arith, grows, same) in
            let still_waits : x.link'.handed < length x.link'.taken = omega (arith, as_before, long, longer, waits) in
            let came : HasCome sizes.shards x.link'.taken x.link'.received (x.link'.handed + 1) = λ s.
            let first = ap (λ ts. length (due sizes.shards s ts))
            (ap (λ i. take (i + 1) x.link'.taken) as_before
            ∙ first_taken link x.link' (link.handed + 1) x.more (omega (arith, waits))) in
            let before = come s in
            let received = x.more.received s in
            omega (arith, first, before, received) in
            let at = last_at sizes (run.worlds m) k x.link' (c.law m) x.here
            (λ rest. let all = (whole_rest sizes x.link' whole rest).2 in absurd (omega (arith, all, still_waits))) in
            inr (
              x.link',
              subst (λ seat. IsAt (run.worlds m) seat k x.link') x.more.seat at,
              (still_waits, came, whole),
              as_before,
            )
      ]
    ] in
    elim (still n (omega arith)) [
      | inl grown ↦ grown
      | inr now ↦
          by_fair sizes w run c G n (Hand link.seat) tt
          (at_seat sizes (run.worlds n) link.seat k now.0 (c.seated n) now.1)
          (λ m after never. elim (still m after) [
            | inl grown ↦ grown
            | inr x ↦ absurd (never (k, x.0, (x.1, x.2.0, x.2.1, x.2.2)))
          ])
          (λ m other after alike done. elim (still m after) [
            | inl grown ↦ grown
            | inr x ↦
                let h = subst (λ e. Happens sizes (run.worlds m) e Done (run.worlds (m + 1))) alike done in
                let same : h.1 ≡ x.0 = at_once (run.worlds m).links h.0 k h.1 x.0 h.2.0.here x.1.here
                (one_place (run.worlds m) link.seat h.0 k h.1 x.0 h.2.0 x.1) in
                let was = ap (λ (y : Link). y.handed) same in
                let before = x.3 in
                let some = h.2.1 in
                let most = h.3.1.most (h.1.handed + 1) (omega (arith, some)) h.2.2 in
                inl (record {
                  place = m + 1;
                  after = omega (arith, after);
                  link = record h.1 { handed = h.3.0 };
                  here =
                      changed_here (run.worlds m) link.seat k h.0 x.0 h.1 (record h.1 { handed = h.3.0 })
                      (run.worlds (m + 1)) x.1 h.2.0 h.3.2;
                  more = omega (arith, was, before, most);
                })
          ])
    ]

-- A count of the connection reaches a number.
record Reaches {sizes : Sizes} {w : World} (run : EndlessRun sizes w) (n k : ℕ) (count : Link → ℕ) (target : ℕ) : Type 0
  where
    place : ℕ
    after : n ≤ place
    link : Link
    here : IsLink (run.worlds place) k link
    enough : target ≤ count link

-- A count that grows while it is less reaches it.
reach : (sizes : Sizes) (w : World) (run : EndlessRun sizes w) → (fuel n k : ℕ) (count : Link → ℕ) (target : ℕ)
    → ((m : ℕ) (x : Link) → n ≤ m → IsLink (run.worlds m) k x → count x < target
    → Grown run m k (λ v y. count y) (count x)) →
    (m : ℕ) (x : Link) → n ≤ m → IsLink (run.worlds m) k x → target ≤ count x + fuel → Reaches run n k count target
reach sizes w run zero n k count target grows m x after here few =
    record { place = m; after = after; link = x; here = here; enough = omega (arith, few) }
reach sizes w run (suc fuel) n k count target grows m x after here few = elim (cases_lt (count x) target) [
  | inr enough ↦ record { place = m; after = after; link = x; here = here; enough = enough }
  | inl less ↦
      let grown = grows m x after here less in
      let past_m = grown.after in
      let more = grown.more in
      reach sizes w run fuel n k count target grows grown.place grown.link (omega (arith, after, past_m)) grown.here
      (omega (arith, few, more))
]

-- The connection at a later place, with the answers of the first shards.
record Comes {sizes : Sizes} {w : World} (run : EndlessRun sizes w) (n k : ℕ) (need : ℕ → ℕ) (shards : ℕ) : Type 0 where
  place : ℕ
  after : n ≤ place
  link : Link
  here : IsLink (run.worlds place) k link
  enough : (s : ℕ) → s < shards → need s ≤ link.received s

all_come : (sizes : Sizes) (w : World) (run : EndlessRun sizes w) → Load sizes w run
    → (n k : ℕ) (link : Link) (need : ℕ → ℕ) → IsLink (run.worlds n) k link
    → ((s m : ℕ) (x : Link) → n ≤ m → IsLink (run.worlds m) k x → need s ≤ sent_to sizes s x) → (shards : ℕ)
    → shards ≤ sizes.shards → Comes run n k need shards
all_come sizes w run c n k link need here sent zero within =
    record {
      place = n;
      after = omega arith;
      link = link;
      here = here;
      enough = λ s below. absurd (omega (arith, below));
    }
all_come sizes w run c n k link need here sent (suc shards) within =
    let before = all_come sizes w run c n k link need here sent shards (omega (arith, within)) in
    let from = before.after in
    let last = reach sizes w run (need shards) before.place k (λ x. x.received shards) (need shards)
    (λ m x after here_m less.
    let all = sent shards m x (omega (arith, from, after)) here_m in
    answer_later sizes w run c m k shards x (omega (arith, within)) here_m (omega (arith, less, all))) before.place
    before.link (omega arith) before.here (omega arith) in
    let past_m = last.after in
    let x = later_at sizes w run c before.place last.place k before.link past_m before.here in
    let this : x.link' ≡ last.link =
    at_once (run.worlds last.place).links k k x.link' last.link x.here last.here refl in
    record {
      place = last.place;
      after = omega (arith, from, past_m);
      link = last.link;
      here = last.here;
      enough = λ s below. elim (cases_eq s shards) [
        | inl same ↦ subst (λ t. need t ≤ last.link.received t) (sym same) last.enough
        | inr other ↦
            let had = before.enough s (omega (arith, below, other)) in
            let grows = x.more.received s in
            let is = ap (λ (y : Link). y.received s) this in
            omega (arith, had, grows, is)
      ];
    }

-- What comes of a later place comes of this one.
replied_on : (sizes : Sizes) (w : World) (run : EndlessRun sizes w) (n m k number : ℕ) → n ≤ m
    → GetsReply run m k number → GetsReply run n k number
replied_on sizes w run n m k number after replied = let past_m =
    replied.after in record { later = replied.later; after = omega (arith, after, past_m); holds = replied.holds }

handed_on : (sizes : Sizes) (w : World) (run : EndlessRun sizes w) (n m k number before less : ℕ) → n ≤ m
    → less ≤ before → Grown run m k (λ v x. x.handed) before ⊎ GetsReply run m k number
    → Grown run n k (λ v x. x.handed) less ⊎ GetsReply run n k number
handed_on sizes w run n m k number before less after within either = elim either [
  | inr replied ↦ inr (replied_on sizes w run n m k number after replied)
  | inl grown ↦
      let past_m = grown.after in
      let more = grown.more in
      inl (record {
        place = grown.place;
        after = omega (arith, after, past_m);
        link = grown.link;
        here = grown.here;
        more = omega (arith, more, within);
      })
]

-- as many of the first pieces as were due for them were sent to each shard, once all of those were sent
first_sent : (sizes : Sizes) (first rest : List Taken) (x : Link) (s : ℕ) → x.taken ≡ first ++ rest
    → length (pieces sizes.shards first) ≤ x.sent → length (due sizes.shards s first) ≤ sent_to sizes s x
first_sent sizes first rest x s is enough =
    let all = pieces sizes.shards first in
    let wide : pieces sizes.shards x.taken ≡ all ++ pieces_from sizes.shards (0 + length first) rest =
    ap (λ ts. pieces sizes.shards ts) is ∙ pieces_from-append sizes.shards 0 first rest in
    let grows = channel_grows s (length all) x.sent all (pieces_from sizes.shards (0 + length first) rest)
    (pieces sizes.shards x.taken) wide enough (omega arith) in
    let whole = ap (λ ps. length (channel s ps)) (take_all (length all) all (omega arith)) in
    omega (arith, grows, whole)

-- The first commands and the rest, later.
split_later : (link new : Link) (count : ℕ) → IsMore link new → (rest : List Taken)
    × (new.taken ≡ take count link.taken ++ rest)
split_later link new count more = (
  drop count link.taken ++ more.taken.0,
  more.taken.1 ∙ (ap (λ ts. ts ++ more.taken.0) (sym (take-append-drop count link.taken))
      ∙ append_assoc (take count link.taken) (drop count link.taken) more.taken.0),
)

-- what the connection has more at a later place
more_at : (sizes : Sizes) (w : World) (run : EndlessRun sizes w) → Load sizes w run → (n m k : ℕ) (link x : Link)
    → n ≤ m → IsLink (run.worlds n) k link → IsLink (run.worlds m) k x → IsMore link x
more_at sizes w run c n m k link x after here there =
    let later = later_at sizes w run c n m k link after here in
    subst (λ y. IsMore link y) (at_once (run.worlds m).links k k later.link' x later.here there refl) later.more

-- The pieces of the first commands are sent.
sent_first : (sizes : Sizes) (w : World) (run : EndlessRun sizes w) → Load sizes w run → (n k count : ℕ) (link : Link)
    → IsLink (run.worlds n) k link
    → Reaches run n k (λ x. x.sent) (length (pieces sizes.shards (take count link.taken)))
sent_first sizes w run c n k count link here =
    reach sizes w run (length (pieces sizes.shards (take count link.taken))) n k (λ x. x.sent)
    (length (pieces sizes.shards (take count link.taken))) (λ m x after here_m less.
    let split = split_later link x count (more_at sizes w run c n m k link x after here here_m) in
    let wide = ap length (ap (λ ts. pieces sizes.shards ts) split.1
    ∙ pieces_from-append sizes.shards 0 (take count link.taken) split.0) in
    let long = length-append (pieces sizes.shards (take count link.taken))
    (pieces_from sizes.shards (0 + length (take count link.taken)) split.0) in
    send_later sizes w run c m k x here_m (omega (arith, less, wide, long))) n link (omega arith) here (omega arith)

-- And all their answers are received.
come_first : (sizes : Sizes) (w : World) (run : EndlessRun sizes w) → Load sizes w run → (n k count : ℕ) (link : Link)
    → IsLink (run.worlds n) k link
    → (sent : Reaches run n k (λ x. x.sent) (length (pieces sizes.shards (take count link.taken))))
    → Comes run sent.place k (λ s. length (due sizes.shards s (take count link.taken))) sizes.shards
come_first sizes w run c n k count link here sent =
    all_come sizes w run c sent.place k sent.link (λ s. length (due sizes.shards s (take count link.taken))) sent.here
    (λ s m x after here_m.
    let sent_after = sent.after in
    let split = split_later link x count
    (more_at sizes w run c n m k link x (omega (arith, after, sent_after)) here here_m) in
    let more = (more_at sizes w run c sent.place m k sent.link x after sent.here here_m).sent in
    let enough = sent.enough in
    first_sent sizes (take count link.taken) split.0 x s split.1 (omega (arith, more, enough))) sizes.shards (omega
    arith)

come_of : (sizes : Sizes) (first now : List Taken) (received : ℕ → ℕ) (s : ℕ) → 0 < sizes.shards → now ≡ first
    → ((t : ℕ) → t < sizes.shards → length (due sizes.shards t first) ≤ received t)
    → length (due sizes.shards s now) ≤ received s
come_of sizes first now received s some is enough =
    subst (λ ts. length (due sizes.shards s ts) ≤ received s) (sym is) (elim (cases_lt s sizes.shards) [
      | inl below ↦ enough s below
      | inr beyond ↦ let none = ap length (due_beyond sizes.shards s first some beyond) in omega (arith, none)
    ])

still_taken : (link new : Link) → IsMore link new → new.handed ≡ link.handed → link.handed < length link.taken
    → new.handed < length new.taken
still_taken link new more same waits =
    let long = ap length more.taken.1 in
    let longer = length-append link.taken more.taken.0 in
    omega (arith, same, long, longer, waits)

-- If they are received, the reply is handed out.
hand_first : (sizes : Sizes) (w : World) (run : EndlessRun sizes w) → Load sizes w run
    → (n m k number : ℕ) (link y : Link) → n ≤ m → IsLink (run.worlds n) k link → IsLink (run.worlds m) k y
    → link.handed < length link.taken
    → ((s : ℕ) → s < sizes.shards → length (due sizes.shards s (take (link.handed + 1) link.taken)) ≤ y.received s)
    → Grown run n k (λ v x. x.handed) link.handed ⊎ GetsReply run n k number
hand_first sizes w run c n m k number link y after here there waits enough =
    let more = more_at sizes w run c n m k link y after here there in
    let grows = more.handed in
    elim (cases_lt link.handed y.handed) [
      | inl out ↦ inl (record { place = m; after = after; link = y; here = there; more = out })
      | inr same ↦
          let as_before : y.handed ≡ link.handed = omega (arith, grows, same) in
          let are_first : take (y.handed + 1) y.taken ≡ take (link.handed + 1) link.taken =
          ap (λ i. take (i + 1) y.taken) as_before ∙ first_taken link y (link.handed + 1) more (omega (arith, waits)) in
          let came : HasCome sizes.shards y.taken y.received (y.handed + 1) =
          λ s. come_of sizes (take (link.handed + 1) link.taken) (take (y.handed + 1) y.taken) y.received s
          c.within.shards.0 are_first enough in
          handed_on sizes w run n m k number y.handed link.handed after (omega (arith, same))
          (hand_later sizes w run c m k number y there (still_taken link y more as_before waits) came)
    ]

-- A command that is taken, and whose turn it is, is handed out.
from_taken : (sizes : Sizes) (w : World) (run : EndlessRun sizes w) → Load sizes w run → (n k number : ℕ) (link : Link)
    → IsLink (run.worlds n) k link → link.handed < length link.taken → Grown run n k (λ v x. x.handed) link.handed
    ⊎ GetsReply run n k number
from_taken sizes w run c n k number link here waits =
    let sent = sent_first sizes w run c n k (link.handed + 1) link here in
    let come = come_first sizes w run c n k (link.handed + 1) link here sent in
    let sent_after = sent.after in
    let come_after = come.after in
    hand_first sizes w run c n come.place k number link come.link (omega (arith, sent_after, come_after)) here come.here
    waits come.enough

-- One more command is handed out.
one_reply : (sizes : Sizes) (w : World) (run : EndlessRun sizes w) → Load sizes w run
    → (n k number : ℕ) (link : Link) (commands : List Command) → IsLink (run.worlds n) k link
    → SpellFirst sizes link.fed commands → link.handed < length commands → Grown run n k (λ v x. x.handed) link.handed
    ⊎ GetsReply run n k number
one_reply sizes w run c n k number link commands here spelled less = elim (cases_lt link.handed (length link.taken)) [
  | inl waits ↦ from_taken sizes w run c n k number link here waits
  | inr all ↦
      let bound = ((c.law n).links k link here).handed in
      elim (take_later sizes w run c n k number link commands here spelled (omega (arith, all, less, bound))
      (omega (arith, all, bound))) [
        | inr replied ↦ inr replied
        | inl grown ↦
            let y = grown.link in
            let after = grown.after in
            let taken = grown.more in
            let later = later_at sizes w run c n grown.place k link after here in
            let more = subst (λ x. IsMore link x)
            (at_once (run.worlds grown.place).links k k later.link' y later.here grown.here refl) later.more in
            let grows = more.handed in
            elim (cases_lt link.handed y.handed) [
              | inl out ↦ inl (record { place = grown.place; after = after; link = y; here = grown.here; more = out })
              | inr same ↦ handed_on sizes w run n grown.place k number y.handed link.handed after grows
                  (from_taken sizes w run c grown.place k number y grown.here (omega (arith, same, bound, taken)))
            ]
      ]
]

replied_in : (fuel : ℕ) (sizes : Sizes) (w : World) (run : EndlessRun sizes w) → Load sizes w run
    → (n k number : ℕ) (link : Link) (commands : List Command) → IsLink (run.worlds n) k link
    → SpellFirst sizes link.fed commands → number < length commands → number < link.handed + fuel
    → GetsReply run n k number
replied_in zero sizes w run c n k number link commands here spelled less few =
    record { later = n; after = omega arith; holds = (link, here, inr (omega (arith, few))) }
replied_in (suc fuel) sizes w run c n k number link commands here spelled less few =
    elim (cases_lt number link.handed) [
      | inl out ↦ record { later = n; after = omega arith; holds = (link, here, inr out) }
      | inr waits ↦ elim (one_reply sizes w run c n k number link commands here spelled (omega (arith, waits, less))) [
        | inr replied ↦ replied
        | inl grown ↦
            let y = grown.link in
            let after = grown.after in
            let more_handed = grown.more in
            let later = later_at sizes w run c n grown.place k link after here in
            let more = subst (λ x. IsMore link x)
            (at_once (run.worlds grown.place).links k k later.link' y later.here grown.here refl) later.more in
            replied_on sizes w run n grown.place k number after
            (replied_in fuel sizes w run c grown.place k number y commands grown.here
            (spelled_later sizes link y commands more spelled) less (omega (arith, few, more_handed)))
      ]
    ]

-- Each command that is spelled gets its reply.
pub none_waits : (sizes : Sizes) (w : World) (run : EndlessRun sizes w) → AreWithin sizes → Law sizes w
    → AreSeated sizes w → IsWeaklyFair run → IsFairToSeats run → NoneWaitsForever run
none_waits sizes w run within l seated fair seats n k number link commands here spelled less =
    let along = law_along sizes w run within.shards.0 l seated in
    let c : Load sizes w run =
    record { within = within; law = λ m. (along m).0; seated = λ m. (along m).1; fair = fair; seats = seats } in
    replied_in (number + 1) sizes w run c n k number link commands here spelled less (omega arith)
