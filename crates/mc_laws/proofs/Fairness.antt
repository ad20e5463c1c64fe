-- A weakly fair run into which nothing comes comes to rest; and at rest bytes are taken.
use Rattle.std.proofs.Common.{◌≡◌, ◌≢◌, ℕ, zero, suc, ◌+◌, ◌-◌, ◌<◌, ◌≤◌, ◌⊎◌, inl, inr, true, List, [], ◌∷◌, ◌++◌}
use Rattle.std.proofs.Common.{length, take, refl, sym, ap, ◌∙◌, subst, arith}
use Rattle.std.specs.Prelude.{MatchBool}
use Rattle.std.proofs.lemmas.Bool.{cases_eq, cases_lt}
use Rattle.mc_sizes.specs.Sizes.{AreWithin}
use Rattle.mc_sizes.specs.declared.sizes.Sizes.{Sizes}
use Rattle.mc_model.specs.Log.{of_asker}
use Rattle.mc_model.specs.World.{IsAt, IsLink, Link, World, empty_world, with_link}
use Rattle.mc_model.specs.Rest.{IsAllReceived, IsAllSent, IsAllTaken}
use Rattle.mc_model.specs.Events.{Event, one_more}
use Rattle.mc_model.specs.Events.Event.{Open, Feed, Take, Send, Pop, Give, Receive, Hand, End, Break}
use Rattle.mc_model.specs.declared.event.StepReply.{StepReply}
use Rattle.mc_model.specs.Schedule.{Enabled, Happens, Leads, Spared}
use Rattle.mc_model.specs.declared.event.StepReply.TheVariants.{Done, Idle, NoMemory}
use Rattle.mc_model.specs.Law.{Law}
use Rattle.mc_laws.specs.Progress.{HasWork, IsWork}
use Rattle.mc_laws.specs.Fair.{ComesToRest, EndlessRun, HasNoInput, IsWorkOf, IsSameStep, IsWeaklyFair}
use Rattle.mc_laws.specs.Fair.{TakesBytesAtRest, TriesAll}
use Rattle.mc_model.proofs.Every.{event_kept}
use Rattle.mc_model.proofs.Links.{ran_within}
use Rattle.mc_model.proofs.Lists.{at_once, push_cases, set_cases}
use Rattle.mc_laws.proofs.Measure.{all_replied, inside_lowers, left, there_is}
use Rattle.mc_laws.proofs.Working.{rests_or_goes}
use Rattle.mc_sim.proofs.Opening.{sent_within}

-- Each connection's seat is there.
abbrev pub AreSeated : Sizes → World → Type 0
AreSeated sizes w = (k : ℕ) (link : Link) → IsLink w k link → link.seat < sizes.seats

-- In the empty world no connection has a seat that is not there.
pub seated_at_begin : (sizes : Sizes) → AreSeated sizes empty_world
seated_at_begin sizes k link here = absurd (cc)

seated_link : (sizes : Sizes) (w : World) (k : ℕ) (link new : Link) (w' : World) → AreSeated sizes w → IsLink w k link
    → new.seat ≡ link.seat → w' ≡ with_link w k new → AreSeated sizes w'
seated_link sizes w k link new w' seated here seat is =
    subst (λ v. AreSeated sizes v) (sym is) (λ j one at. elim (set_cases w.links k new j one at) [
      | inl this ↦
          let below = seated k link here in
          let e = ap (λ (x : Link). x.seat) this.1 in
          omega (arith, below, e, seat)
      | inr other ↦ seated j one other.1
    ])

done_seated : (sizes : Sizes) (w : World) (event : Event) (w' : World) → Happens sizes w event Done w'
    → AreSeated sizes w → AreSeated sizes w'
done_seated sizes w (Open seat) w' h seated =
    subst (λ v. AreSeated sizes v) (sym h.3) (λ j one at. elim (push_cases w.links h.1 j one at) [
      | inl old ↦ seated j one old
      | inr new ↦
          let e = ap (λ (x : Link). x.seat) (new.1 ∙ h.2.1) in
          let below = h.2.2 in
          omega (arith, e, below)
    ])
done_seated sizes w (Feed seat bytes) w' h seated =
    seated_link sizes w h.0 h.1 (record h.1 { fed = h.1.fed ++ take h.3.0 bytes }) w' seated h.2.0.here refl h.3.3
done_seated sizes w (Take seat moment) w' h seated =
    seated_link sizes w h.0 h.1 (record h.1 { taken = h.1.taken ++ h.3.0 ∷ [] }) w' seated h.2.0.here refl h.3.2
done_seated sizes w (Send seat) w' h seated =
    seated_link sizes w h.0 h.1 (record h.1 { sent = h.1.sent + 1 }) w' seated h.2.0.here refl h.3
done_seated sizes w (Pop shard seat) w' h seated = subst (λ v. AreSeated sizes v) (sym h.3.2) seated
done_seated sizes w (Give shard) w' h seated =
    seated_link sizes w h.0 h.1 (record h.1 { given = one_more h.1.given shard }) w' seated h.2.0 refl h.3
done_seated sizes w (Receive seat shard) w' h seated =
    seated_link sizes w h.0 h.1 (record h.1 { received = one_more h.1.received shard }) w' seated h.2.0.here refl h.3
done_seated sizes w (Hand seat) w' h seated =
    seated_link sizes w h.0 h.1 (record h.1 { handed = h.3.0 }) w' seated h.2.0.here refl h.3.2
done_seated sizes w (End seat) w' h seated =
    seated_link sizes w h.0 h.1 (record h.1 { ended = true }) w' seated h.2.0.here refl h.3
done_seated sizes w (Break seat) w' h seated =
    seated_link sizes w h.0 h.1 (record h.1 { broken = true }) w' seated h.2.0.here refl h.3

pub event_seated : (sizes : Sizes) (w : World) (event : Event) (reply : StepReply) (w' : World)
    → Happens sizes w event reply w' → AreSeated sizes w → AreSeated sizes w'
event_seated sizes w event Done w' h seated = done_seated sizes w event w' h seated
event_seated sizes w event Idle w' h seated = subst (λ v. AreSeated sizes v) (sym h.1) seated
event_seated sizes w event NoMemory w' h seated = subst (λ v. AreSeated sizes v) (sym h.1) seated

-- If the seat of each connection is there, so it is after any events.
pub all_seated : (sizes : Sizes) (w : World) (events : List Event) (w' : World) → Leads sizes w events w'
    → AreSeated sizes w → AreSeated sizes w'
all_seated sizes w [] w' led seated = subst (λ v. AreSeated sizes v) (sym led) seated
all_seated sizes w (event ∷ events) w' led seated =
    all_seated sizes led.1 events w' led.3 (event_seated sizes w event led.0 led.1 led.2 seated)

-- the seat of a connection
pub at_seat : (sizes : Sizes) (w : World) (seat k : ℕ) (link : Link) → AreSeated sizes w → IsAt w seat k link
    → seat < sizes.seats
at_seat sizes w seat k link seated at =
    let below = seated k link at.here in
    let e = at.seat_is in
    omega (arith, below, e)

-- Work that can be done names a seat and a shard that are there.
pub enabled_in : (sizes : Sizes) (w : World) (event : Event) → 0 < sizes.shards → Law sizes w → AreSeated sizes w
    → Enabled sizes w event → IsWork event → IsWorkOf sizes event
enabled_in sizes w (Open seat) some l seated e work = absurd work
enabled_in sizes w (Feed seat bytes) some l seated e work = absurd work
enabled_in sizes w (Take seat moment) some l seated e work = at_seat sizes w seat e.0 e.1 seated e.2.0
enabled_in sizes w (Send seat) some l seated e work = at_seat sizes w seat e.0 e.1 seated e.2.0
enabled_in sizes w (Pop shard seat) some l seated e work =
    let waits = e.2.2 in
    let sent = sent_within sizes e.1 shard in
    (there_is sizes e.1 shard some (omega (arith, waits, sent)), at_seat sizes w seat e.0 e.1 seated e.2.0)
enabled_in sizes w (Give shard) some l seated e work =
    let ungiven = e.2.1 in
    let within = ran_within sizes (of_asker e.0 w.log) e.1 (l.links e.0 e.1 e.2.0) shard in
    there_is sizes e.1 shard some (omega (arith, ungiven, within))
enabled_in sizes w (Receive seat shard) some l seated e work =
    let own = l.links e.0 e.1 e.2.0.here in
    let waits = e.2.1 in
    let given = own.given shard in
    let within = ran_within sizes (of_asker e.0 w.log) e.1 own shard in
    (at_seat sizes w seat e.0 e.1 seated e.2.0, there_is sizes e.1 shard some (omega (arith, waits, given, within)))
enabled_in sizes w (Hand seat) some l seated e work = at_seat sizes w seat e.0 e.1 seated e.2.0
enabled_in sizes w (End seat) some l seated e work = absurd work
enabled_in sizes w (Break seat) some l seated e work = absurd work

-- An event that can be done can be done at any time, and is not spared.
work_alike : (sizes : Sizes) (w : World) (event other : Event) → IsWork event → IsSameStep event other
    → Enabled sizes w event → Enabled sizes w other × (Spared sizes w other → ⊥)
work_alike sizes w (Open seat) other work alike e = absurd work
work_alike sizes w (Feed seat bytes) other work alike e = absurd work
work_alike sizes w (Take seat moment) other work alike e =
    subst (λ x. Enabled sizes w x × (Spared sizes w x → ⊥)) (sym alike.1) ((e.0, e.1, e.2), λ spared. spared)
work_alike sizes w (Send seat) other work alike e =
    subst (λ x. Enabled sizes w x × (Spared sizes w x → ⊥)) (sym alike) (e, λ spared. spared)
work_alike sizes w (Pop shard seat) other work alike e =
    subst (λ x. Enabled sizes w x × (Spared sizes w x → ⊥)) (sym alike) (e, λ spared. spared)
work_alike sizes w (Give shard) other work alike e =
    subst (λ x. Enabled sizes w x × (Spared sizes w x → ⊥)) (sym alike) (e, λ spared. spared)
work_alike sizes w (Receive seat shard) other work alike e =
    subst (λ x. Enabled sizes w x × (Spared sizes w x → ⊥)) (sym alike) (e, λ spared. spared)
work_alike sizes w (Hand seat) other work alike e =
    subst (λ x. Enabled sizes w x × (Spared sizes w x → ⊥)) (sym alike) (e, λ spared. spared)
work_alike sizes w (End seat) other work alike e = absurd work
work_alike sizes w (Break seat) other work alike e = absurd work

-- A try that finds memory is done, or the event was not enabled.
try_tells : (sizes : Sizes) (w : World) (event other : Event) (reply : StepReply) (w' : World) → IsWork event
    → IsSameStep event other → Happens sizes w other reply w' → reply ≢ NoMemory → (reply ≡ Done)
    ⊎ (Enabled sizes w event → ⊥)
try_tells sizes w event other Done w' work same h memory = inl refl
try_tells sizes w event other Idle w' work same h memory = inr (λ enabled. elim h.0 [
  | inl not ↦ not (work_alike sizes w event other work same enabled).0
  | inr spared ↦ (work_alike sizes w event other work same enabled).1 spared
])
try_tells sizes w event other NoMemory w' work same h memory = absurd (memory refl)

-- Work of a server is work.
is_work : (sizes : Sizes) (event : Event) → IsWorkOf sizes event → IsWork event
is_work sizes (Open seat) there = there
is_work sizes (Feed seat bytes) there = there
is_work sizes (Take seat moment) there = tt
is_work sizes (Send seat) there = tt
is_work sizes (Pop shard seat) there = tt
is_work sizes (Give shard) there = tt
is_work sizes (Receive seat shard) there = tt
is_work sizes (Hand seat) there = tt
is_work sizes (End seat) there = there
is_work sizes (Break seat) there = there

-- A run that tries all work again and again is weakly fair.
pub tries_fairly : (sizes : Sizes) (w : World) (run : EndlessRun sizes w) → TriesAll run → IsWeaklyFair run
tries_fairly sizes w run tries n event there =
    let tried = tries n event there in
    let m = tried.later in
    elim (try_tells sizes (run.worlds m) event (run.events m) (run.replies m) (run.worlds (m + 1))
    (is_work sizes event there) tried.holds.0 (run.happens m) tried.holds.1) [
      | inl done ↦ inl (record { later = m; after = tried.after; holds = (tried.holds.0, done) })
      | inr never ↦ inr (record { later = m; after = tried.after; holds = never })
    ]

-- Whether a step is done, or changes nothing.
done_or_same : (sizes : Sizes) (w : World) (event : Event) (reply : StepReply) (w' : World)
    → Happens sizes w event reply w' → (reply ≡ Done) ⊎ (w' ≡ w)
done_or_same sizes w event Done w' h = inl refl
done_or_same sizes w event Idle w' h = inr h.1
done_or_same sizes w event NoMemory w' h = inr h.1

-- the law and the seats at each place of a run
pub law_along : (sizes : Sizes) (w : World) (run : EndlessRun sizes w) → 0 < sizes.shards → Law sizes w
    → AreSeated sizes w → (n : ℕ) → Law sizes (run.worlds n) × AreSeated sizes (run.worlds n)
law_along sizes w run some l seated zero =
    (subst (λ v. Law sizes v) (sym run.begins) l, subst (λ v. AreSeated sizes v) (sym run.begins) seated)
law_along sizes w run some l seated (suc n) =
    let before = law_along sizes w run some l seated n in
    let at : n + 1 ≡ suc n = omega arith in
    subst (λ m. Law sizes (run.worlds m) × AreSeated sizes (run.worlds m)) at (
      event_kept sizes (run.worlds n) (run.events n) (run.replies n) (run.worlds (n + 1)) some (run.happens n) before.0,
      event_seated sizes (run.worlds n) (run.events n) (run.replies n) (run.worlds (n + 1)) (run.happens n) before.1,
    )

-- The first of some steps that is done, before which the world is unchanged; or none is.
record FirstDone {sizes : Sizes} {w : World} (run : EndlessRun sizes w) (n : ℕ) : Type 0 where
  place : ℕ
  same : run.worlds place ≡ run.worlds n
  done : run.replies place ≡ Done

first_done : (sizes : Sizes) (w : World) (run : EndlessRun sizes w) (n count : ℕ) → FirstDone run n
    ⊎ (run.worlds (n + count) ≡ run.worlds n)
first_done sizes w run n zero = let at : n + 0 ≡ n = omega arith in inr (ap run.worlds at)
first_done sizes w run n (suc count) = elim (first_done sizes w run n count) [
  | inl done ↦ inl done
  | inr same ↦ elim (done_or_same sizes (run.worlds (n + count)) (run.events (n + count)) (run.replies (n + count))
      (run.worlds (n + count + 1)) (run.happens (n + count))) [
        | inl done ↦ inl (record { place = n + count; same = same; done = done })
        | inr stays ↦ let at : n + suc count ≡ n + count + 1 = omega arith in inr (ap run.worlds at ∙ (stays ∙ same))
      ]
]

-- Something is done up to some step, or the world is unchanged there.
by_then : (sizes : Sizes) (w : World) (run : EndlessRun sizes w) (n m : ℕ) → n ≤ m
    → (run.worlds m ≡ run.worlds n → FirstDone run n) → FirstDone run n
by_then sizes w run n m after otherwise =
    let at : n + (m - n) ≡ m = omega (arith, after) in
    elim (first_done sizes w run n (m - n)) [
      | inl done ↦ done
      | inr same ↦ otherwise (ap run.worlds (sym at) ∙ same)
    ]

-- If some work can be done, some is.
goes_done : (sizes : Sizes) (w : World) (run : EndlessRun sizes w) (n : ℕ) → 0 < sizes.shards → Law sizes (run.worlds n)
    → AreSeated sizes (run.worlds n) → IsWeaklyFair run → HasWork sizes (run.worlds n) → FirstDone run n
goes_done sizes w run n some l seated fair goes =
    let h = goes.happens in
    let enabled : Enabled sizes (run.worlds n) goes.event = (h.0, h.1, h.2) in
    elim (fair n goes.event (enabled_in sizes (run.worlds n) goes.event some l seated enabled goes.work)) [
      | inl d ↦ by_then sizes w run n d.later d.after
          (λ same. record { place = d.later; same = same; done = d.holds.1 })
      | inr off ↦ by_then sizes w run n off.later off.after
          (λ same. absurd (off.holds (subst (λ v. Enabled sizes v goes.event) (sym same) enabled)))
    ]

-- At each place of a run it rests, or less is left at another.
record LowersTo {sizes : Sizes} {w : World} (run : EndlessRun sizes w) (n : ℕ) : Type 0 where
  place : ℕ
  less : left sizes (run.worlds place) < left sizes (run.worlds n)

rests_or_lowers : (sizes : Sizes) (w : World) (run : EndlessRun sizes w) (n : ℕ) → AreWithin sizes → Law sizes w
    → AreSeated sizes w → HasNoInput run → IsWeaklyFair run → ComesToRest run ⊎ LowersTo run n
rests_or_lowers sizes w run n within l seated quiet fair =
    let here = law_along sizes w run within.shards.0 l seated n in
    elim (rests_or_goes sizes (run.worlds n) within here.0) [
      | inl rest ↦ inl (record {
        later = n;
        after = omega arith;
        holds = (rest, all_replied sizes (run.worlds n) here.0 rest);
      })
      | inr goes ↦
          let done = goes_done sizes w run n within.shards.0 here.0 here.1 fair goes in
          let happens = subst (λ r. Happens sizes (run.worlds done.place) (run.events done.place) r
          (run.worlds (done.place + 1))) done.done (run.happens done.place) in
          let law_there = (law_along sizes w run within.shards.0 l seated done.place).0 in
          let less = inside_lowers sizes (run.worlds done.place) (run.events done.place) (run.worlds (done.place + 1))
          within.shards.0 law_there (quiet done.place) happens in
          let same = ap (λ v. left sizes v) done.same in
          inr (record { place = done.place + 1; less = omega (arith, less, same) })
    ]

-- If at most fuel steps are left at place n of a run, it comes to rest.
rests_in : (fuel : ℕ) (sizes : Sizes) (w : World) (run : EndlessRun sizes w) (n : ℕ) → AreWithin sizes → Law sizes w
    → AreSeated sizes w → HasNoInput run → IsWeaklyFair run → left sizes (run.worlds n) ≤ fuel → ComesToRest run
rests_in zero sizes w run n within l seated quiet fair few =
    elim (rests_or_lowers sizes w run n within l seated quiet fair) [
      | inl rest ↦ rest
      | inr lower ↦ let less = lower.less in absurd (omega (arith, few, less))
    ]
rests_in (suc fuel) sizes w run n within l seated quiet fair few =
    elim (rests_or_lowers sizes w run n within l seated quiet fair) [
      | inl rest ↦ rest
      | inr lower ↦ let less =
          lower.less in rests_in fuel sizes w run lower.place within l seated quiet fair (omega (arith, few, less))
    ]

-- From a lawful world whose seats are there, a weakly fair run into which nothing comes comes to rest, all
-- replies out.
pub rests : (sizes : Sizes) (w : World) (run : EndlessRun sizes w) → AreWithin sizes → Law sizes w → AreSeated sizes w
    → HasNoInput run → IsWeaklyFair run → ComesToRest run
rests sizes w run within l seated quiet fair =
    rests_in (left sizes (run.worlds 0)) sizes w run 0 within l seated quiet fair (omega arith)

-- a seat has one connection
pub one_place : (w : World) (c k j : ℕ) (link one : Link) → IsAt w c k link → IsAt w c j one → k ≡ j
one_place w c k j link one a b = elim (cases_eq k j) [
  | inl same ↦ same
  | inr apart ↦ elim (cases_lt k j) [
    | inl less ↦ absurd (a.last j one less b.here b.seat_is)
    | inr enough ↦ absurd (b.last k link (omega (arith, enough, apart)) a.here a.seat_is)
  ]
]

one_at : (w : World) (c k j : ℕ) (link one : Link) → IsAt w c k link → IsAt w c j one → link ≡ one
one_at w c k j link one a b = at_once w.links k j link one a.here b.here (one_place w c k j link one a b)

-- On a server whose sizes are within limits, a connection at rest that has neither ended nor broken takes
-- bytes.
pub takes_bytes : (sizes : Sizes) (w : World) → AreWithin sizes → TakesBytesAtRest sizes w
takes_bytes sizes w within seat k link bytes at rest goes_on whole some = (
  (k, link, (at, goes_on, whole, some)),
  λ spared.
      let same : link ≡ spared.1 = one_at w seat k spared.0 link spared.1 at spared.2 in
      let r = subst (λ b. MatchBool b (IsAllSent sizes link × IsAllReceived sizes link)
      (IsAllTaken sizes link × IsAllSent sizes link × (link.handed ≡ length link.taken))) whole rest in
      let handed = r.2 in
      let places : 0 < sizes.window = within.window.0 in
      let window : length link.taken < link.handed + sizes.window = omega (arith, handed, places) in
      let taken = subst (λ x. IsAllTaken sizes x) same r.0 in
      let room = subst (λ (x : Link). length x.taken < x.handed + sizes.window) same window in
      let more = spared.3.some taken room some in
      absurd (omega (arith, more)),
)
