-- Settling comes to rest: where a whole round does nothing, nothing can be done; and no more is done than
-- there are steps.
use Rattle.std.proofs.Common.{◌≡◌, ◌≢◌, ℕ, zero, suc, ◌+◌, ◌-◌, ◌*◌, ◌<◌, ◌≤◌, ◌^◌, ◌⊎◌, inl, inr, true, false, Result}
use Rattle.std.proofs.Common.{Ok, Err, List, [], ◌∷◌, ◌++◌, length, refl, sym, ap, ◌∙◌, subst, arith, append-nil}
use Rattle.std.proofs.Common.{append_assoc}
use Rattle.std.specs.Prelude.{OnErr}
use Rattle.std.specs.List.{AllByRecursion}
use Rattle.std.proofs.lemmas.Bool.{cases_lt}
use Rattle.std.proofs.lemmas.Option.{slice_get_within}
use Rattle.mc_sizes.specs.Sizes.{AreWithin}
use Rattle.mc_sizes.specs.declared.sizes.Sizes.{Sizes}
use Rattle.mc_sim.specs.declared.sim.Sim.{Sim}
use Rattle.mc_model.specs.World.{World}
use Rattle.mc_model.specs.Events.{Event}
use Rattle.mc_model.specs.Events.Event.{Open, Feed, Take, Send, Pop, Give, Receive, Hand, End, Break}
use Rattle.mc_model.specs.declared.event.StepReply.{StepReply}
use Rattle.mc_model.specs.Schedule.{Enabled, Happens, Leads, Spared}
use Rattle.mc_model.specs.declared.event.StepReply.TheVariants.{Done, Idle, NoMemory}
use Rattle.mc_sim.specs.Runs.{FoundMemory, Runs, StandsAfter, Stops, done_in, is_done}
use Rattle.mc_sim.specs.Stands.{Stands}
use Rattle.mc_model.specs.Law.{Law}
use Rattle.mc_laws.specs.Progress.{AllAtRest, AllReplied, IsNoInput, IsWork}
use Rattle.mc_laws.specs.Fair.{IsWorkOf}
use Rattle.mc_laws.specs.Settling.{Settles, Works, channel_round, channels_round, repeated, round, seat_round}
use Rattle.mc_laws.specs.internal.Rounds.{HasRepeated, IsQuiet, Repeats, Tried}
use Rattle.mc_laws.proofs.Fairness.{AreSeated, enabled_in}
use Rattle.mc_laws.proofs.Few.{all_few}
use Rattle.mc_laws.proofs.Measure.{all_replied, at_most, left_within, work_inside}
use Rattle.mc_laws.proofs.Working.{rests_or_goes}

-- Lists of which all holds.

all_left : (P : Event → Type 0) (xs ys : List Event) → AllByRecursion P (xs ++ ys) → AllByRecursion P xs
all_left P [] ys all = tt
all_left P (x ∷ xs) ys all = (all.0, all_left P xs ys all.1)

all_right : (P : Event → Type 0) (xs ys : List Event) → AllByRecursion P (xs ++ ys) → AllByRecursion P ys
all_right P [] ys all = all
all_right P (x ∷ xs) ys all = all_right P xs ys all.1

all_both : (P : Event → Type 0) (xs ys : List Event) → AllByRecursion P xs → AllByRecursion P ys
    → AllByRecursion P (xs ++ ys)
all_both P [] ys first second = second
all_both P (x ∷ xs) ys first second = (first.0, all_both P xs ys first.1 second)

all_repeated : (P : Event → Type 0) (times : ℕ) (events : List Event) → AllByRecursion P events
    → AllByRecursion P (repeated times events)
all_repeated P zero events all = tt
all_repeated P (suc times) events all = all_both P (repeated times events) events (all_repeated P times events all) all

all_inside : (events : List Event) → AllByRecursion IsWork events → AllByRecursion IsNoInput events
all_inside [] all = tt
all_inside (event ∷ events) all = (work_inside event all.0, all_inside events all.1)

channels_work : (seat shards : ℕ) → AllByRecursion IsWork (channels_round seat shards)
channels_work seat zero = tt
channels_work seat (suc shard) =
    all_both IsWork (channels_round seat shard) (channel_round seat shard) (channels_work seat shard)
    (tt, (tt, (tt, tt)))

seat_work : (shards moment seat : ℕ) → AllByRecursion IsWork (seat_round shards moment seat)
seat_work shards moment seat =
    all_both IsWork ((Take seat moment ∷ Send seat ∷ []) ++ channels_round seat shards) (Hand seat ∷ [])
    (tt, (tt, channels_work seat shards)) (tt, tt)

-- A round is work alone: each of its events is one that the server does by itself.
pub round_work : (seats shards moment : ℕ) → AllByRecursion IsWork (round seats shards moment)
round_work zero shards moment = tt
round_work (suc seat) shards moment =
    all_both IsWork (round seat shards moment) (seat_round shards moment seat) (round_work seat shards moment)
    (seat_work shards moment seat)

-- What holds of a round holds of each seat and shard.

last_or_before : (n m : ℕ) → n < suc m → (n < m) ⊎ (m ≡ n)
last_or_before n m below = elim (cases_lt n m) [
  | inl less ↦ inl less
  | inr enough ↦ inr (omega (arith, below, enough))
]

of_seat : (P : Event → Type 0) (seats shards moment seat : ℕ) → seat < seats
    → AllByRecursion P (round seats shards moment) → AllByRecursion P (seat_round shards moment seat)
of_seat P zero shards moment seat below all = absurd (omega (arith, below))
of_seat P (suc last) shards moment seat below all = elim (last_or_before seat last below) [
  | inl before ↦ of_seat P last shards moment seat before
      (all_left P (round last shards moment) (seat_round shards moment last) all)
  | inr same ↦ subst (λ n. AllByRecursion P (seat_round shards moment n)) same
      (all_right P (round last shards moment) (seat_round shards moment last) all)
]

of_channel : (P : Event → Type 0) (seat shards shard : ℕ) → shard < shards
    → AllByRecursion P (channels_round seat shards) → AllByRecursion P (channel_round seat shard)
of_channel P seat zero shard below all = absurd (omega (arith, below))
of_channel P seat (suc last) shard below all = elim (last_or_before shard last below) [
  | inl before ↦ of_channel P seat last shard before
      (all_left P (channels_round seat last) (channel_round seat last) all)
  | inr same ↦ subst (λ n. AllByRecursion P (channel_round seat n)) same
      (all_right P (channels_round seat last) (channel_round seat last) all)
]

channels_of : (P : Event → Type 0) (shards moment seat : ℕ) → AllByRecursion P (seat_round shards moment seat)
    → AllByRecursion P ((Take seat moment ∷ Send seat ∷ []) ++ channels_round seat shards)
channels_of P shards moment seat all =
    all_left P ((Take seat moment ∷ Send seat ∷ []) ++ channels_round seat shards) (Hand seat ∷ []) all

hand_of : (P : Event → Type 0) (shards moment seat : ℕ) → AllByRecursion P (seat_round shards moment seat)
    → P (Hand seat)
hand_of P shards moment seat all =
    (all_right P ((Take seat moment ∷ Send seat ∷ []) ++ channels_round seat shards) (Hand seat ∷ []) all).0

-- The event can't be done, or may be idle.
abbrev Cannot : Sizes → World → Event → Type 0
Cannot sizes w event = Enabled sizes w event → Spared sizes w event

-- If a whole round can't be done nothing can.
none_left : (sizes : Sizes) (w : World) (moment : ℕ) (event : Event) → AreWithin sizes → IsWork event
    → IsWorkOf sizes event → AllByRecursion (Cannot sizes w) (round sizes.seats sizes.shards moment)
    → Cannot sizes w event
none_left sizes w moment (Open seat) within work there all = absurd work
none_left sizes w moment (Feed seat bytes) within work there all = absurd work
none_left sizes w moment (Take seat when) within work there all =
    (channels_of (Cannot sizes w) sizes.shards moment
    seat (of_seat (Cannot sizes w) sizes.seats sizes.shards moment seat there all)).0
none_left sizes w moment (Send seat) within work there all =
    (channels_of (Cannot sizes w) sizes.shards moment
    seat (of_seat (Cannot sizes w) sizes.seats sizes.shards moment seat there all)).1.0
none_left sizes w moment (Pop shard seat) within work there all =
    (of_channel (Cannot sizes w) seat sizes.shards shard there.0
    (channels_of (Cannot sizes w) sizes.shards moment
    seat (of_seat (Cannot sizes w) sizes.seats sizes.shards moment seat there.1 all)).1.1).0
none_left sizes w moment (Give shard) within work there all =
    (of_channel (Cannot sizes w) 0 sizes.shards shard there
    (channels_of (Cannot sizes w) sizes.shards moment 0
    (of_seat (Cannot sizes w) sizes.seats sizes.shards moment 0 within.seats.0 all)).1.1).1.0
none_left sizes w moment (Receive seat shard) within work there all =
    (of_channel (Cannot sizes w) seat sizes.shards shard there.1
    (channels_of (Cannot sizes w) sizes.shards moment
    seat (of_seat (Cannot sizes w) sizes.seats sizes.shards moment seat there.0 all)).1.1).1.1.0
none_left sizes w moment (Hand seat) within work there all =
    hand_of (Cannot sizes w) sizes.shards moment
    seat (of_seat (Cannot sizes w) sizes.seats sizes.shards moment seat there all)
none_left sizes w moment (End seat) within work there all = absurd work
none_left sizes w moment (Break seat) within work there all = absurd work

-- Events none of which was done, though each found its memory.

idle_step : (sizes : Sizes) (w : World) (event : Event) (events : List Event) (w' : World) (reply : StepReply)
    (mid : World) → Happens sizes w event reply mid → (led : Leads sizes mid events w') → reply ≢ NoMemory
    → is_done reply + done_in sizes mid events w' led ≡ 0 →
    (done_in sizes mid events w' led ≡ 0 → (w' ≡ mid) × AllByRecursion (Cannot sizes mid) events) → (w' ≡ w)
    × AllByRecursion (Cannot sizes w) (event ∷ events)
idle_step sizes w event events w' Done mid h led memory none later = absurd (omega (arith, none))
idle_step sizes w event events w' Idle mid h led memory none later =
    let rest = later (omega (arith, none)) in (
      rest.0 ∙ h.1,
      (
        λ (e : Enabled sizes w event). elim h.0 [
          | inl never ↦ absurd (never e)
          | inr spared ↦ spared
        ],
        subst (λ v. AllByRecursion (Cannot sizes v) events) h.1 rest.1,
      ),
    )
idle_step sizes w event events w' NoMemory mid h led memory none later = absurd (memory refl)

all_idle : (sizes : Sizes) (w : World) (events : List Event) (w' : World) (led : Leads sizes w events w')
    → FoundMemory sizes w events w' led → done_in sizes w events w' led ≡ 0 → (w' ≡ w)
    × AllByRecursion (Cannot sizes w) events
all_idle sizes w [] w' led found none = (led, tt)
all_idle sizes w (event ∷ events) w' led found none =
    idle_step sizes w event events w' led.0 led.1 led.2 led.3 found.0 none
    (λ (few : done_in sizes led.1 events w' led.3 ≡ 0). all_idle sizes led.1 events w' led.3 found.1 few)

quiet_rests : (sizes : Sizes) (w : World) (moment : ℕ) → AreWithin sizes → Law sizes w → AreSeated sizes w
    → IsQuiet sizes w (round sizes.seats sizes.shards moment) → AllAtRest sizes w
quiet_rests sizes w moment within l seated quiet = elim (rests_or_goes sizes w within l) [
  | inl rest ↦ rest
  | inr goes ↦
      let h = goes.happens in
      let enabled : Enabled sizes w goes.event = (h.0, h.1, h.2) in
      let there = enabled_in sizes w goes.event within.shards.0 l seated enabled goes.work in
      let all = (all_idle sizes w (round sizes.seats sizes.shards moment) w quiet.led quiet.memory quiet.none).1 in
      absurd (goes.sure (none_left sizes w moment goes.event within goes.work there all enabled))
]

-- One list of events after another.

leads_join : (sizes : Sizes) (w mid w' : World) (first more : List Event) (one : Leads sizes w first mid)
    → FoundMemory sizes w first mid one → (two : Leads sizes mid more w') → FoundMemory sizes mid more w' two →
    (led : Leads sizes w (first ++ more) w') × FoundMemory sizes w (first ++ more) w' led
    × (done_in sizes w (first ++ more) w' led ≡ done_in sizes w first mid one + done_in sizes mid more w' two)
leads_join sizes w mid w' [] more one found two memory =
    subst (λ v. (led : Leads sizes v more w') × FoundMemory sizes v more w' led
    × (done_in sizes v more w' led ≡ 0 + done_in sizes mid more w' two)) one (two, memory, omega arith)
leads_join sizes w mid w' (event ∷ first) more one found two memory =
    let rest = leads_join sizes one.1 mid w' first more one.3 found.1 two memory in
    ((one.0, one.1, one.2, rest.0), (found.0, rest.1), let count = rest.2 in omega (arith, count))

repeated_both : (n m : ℕ) (events : List Event) → repeated (m + n) events ≡ repeated n events ++ repeated m events
repeated_both n zero events = let e : zero + n ≡ n =
    omega arith in ap (λ k. repeated k events) e ∙ sym (append-nil (repeated n events))
repeated_both n (suc m) events =
    let e : suc m + n ≡ suc (m + n) = omega arith in
    ap (λ k. repeated k events) e
    ∙ (ap (λ es. es ++ events) (repeated_both n m events) ∙ append_assoc (repeated n events) (repeated m events) events)

-- The events were tried another time.
pub tried_more : (old mid new : Sim) (events : List Event) (least more done : ℕ) → Tried old events least mid
    → Runs mid events done new → more ≤ least + done → Tried old events more new
tried_more old mid new events least more done tried runs enough sizes w stands =
    let was = tried sizes w stands in
    let ran = runs sizes was.later was.stands in
    let both = leads_join sizes w was.later ran.0.later (repeated was.times events) events was.led was.memory ran.0.led
    ran.0.memory in
    let before = was.enough in
    let count = both.2 in
    let one = ran.1 in
    record {
      times = suc was.times;
      later = ran.0.later;
      led = both.0;
      memory = both.1;
      enough = omega (arith, before, count, one, enough);
      stands = ran.0.stands;
    }

-- They were tried another time, and none was done.
pub tried_quiet : (old mid new : Sim) (events : List Event) (least : ℕ) → Tried old events least mid
    → Runs mid events 0 new → Repeats old events true new
tried_quiet old mid new events least tried runs sizes w stands =
    let was = tried sizes w stands in
    let ran = runs sizes was.later was.stands in
    let none = sym ran.1 in
    let same = (all_idle sizes was.later events ran.0.later ran.0.led ran.0.memory none).0 in
    let again = subst (λ v. (led : Leads sizes was.later events v) × FoundMemory sizes was.later events v led
    × (done_in sizes was.later events v led ≡ 0)) same (ran.0.led, ran.0.memory, none) in (
      record {
        times = was.times;
        later = was.later;
        led = was.led;
        memory = was.memory;
        enough = omega arith;
        stands = subst (λ v. Stands sizes new v) same ran.0.stands;
      },
      record { led = again.0; memory = again.1; none = again.2 },
    )

-- They were tried again and again.
pub tried_again : (old mid new : Sim) (events : List Event) (least more : ℕ) → Tried old events least mid
    → Repeats mid events false new → more ≤ least + (2 ^ 128 - 1) → Tried old events more new
tried_again old mid new events least more tried repeats enough sizes w stands =
    let was = tried sizes w stands in
    let then = repeats sizes was.later was.stands in
    let both = leads_join sizes w was.later then.later (repeated was.times events) (repeated then.times events) was.led
    was.memory then.led then.memory in
    let one = was.enough in
    let two = then.enough in
    let count = both.2 in
    let all = subst (λ es. (led : Leads sizes w es then.later) × FoundMemory sizes w es then.later led
    × (more ≤ done_in sizes w es then.later led)) (sym (repeated_both was.times then.times events)) (
      both.0,
      both.1,
      omega (arith, one, two, count, enough),
    ) in
    record {
      times = then.times + was.times;
      later = then.later;
      led = all.0;
      memory = all.1;
      enough = all.2;
      stands = then.stands;
    }

-- Memory ran out while they were tried.
pub tried_stops : (old mid new : Sim) (events : List Event) (least : ℕ) → Tried old events least mid
    → Stops mid events new → AllByRecursion IsWork events → Works old new
tried_stops old mid new events least tried stops work sizes w stands =
    let was = tried sizes w stands in
    let ran = stops sizes was.later was.stands in
    let after = ran.4 in
    let both = leads_join sizes w was.later after.later (repeated was.times events) ran.0 was.led was.memory after.led
    after.memory in
    let front = all_left IsWork ran.0 (ran.1 ∷ ran.2) (subst (AllByRecursion IsWork) ran.3 work) in (
      repeated was.times events ++ ran.0,
      all_both IsWork (repeated was.times events) ran.0 (all_repeated IsWork was.times events work) front,
      record { later = after.later; led = both.0; memory = both.1; stands = after.stands },
    )

-- Work after the events were tried.
pub tried_works : (old mid new : Sim) (events : List Event) (least : ℕ) → Tried old events least mid → Works mid new
    → AllByRecursion IsWork events → Works old new
tried_works old mid new events least tried works work sizes w stands =
    let was = tried sizes w stands in
    let ran = works sizes was.later was.stands in
    let after = ran.2 in
    let both = leads_join sizes w was.later after.later (repeated was.times events) ran.0 was.led was.memory after.led
    after.memory in (
      repeated was.times events ++ ran.0,
      all_both IsWork (repeated was.times events) ran.0 (all_repeated IsWork was.times events work) ran.1,
      record { later = after.later; led = both.0; memory = both.1; stands = after.stands },
    )

-- The world of a simulator.

record Standing (sizes : Sizes) (w : World) : Type 0 where
  within : AreWithin sizes
  law : Law sizes w
  seated : AreSeated sizes w

standing : (sizes : Sizes) (sim : Sim) (w : World) → Stands sizes sim w → Standing sizes w
unfolding Stands
standing sizes sim w world = record { within = world.within; law = world.law; seated = world.seated }

-- The round was tried, and all connections are at rest.
abbrev IsSettled : Sizes → World → ℕ → Sim → Type 0
IsSettled sizes w moment new =
    (times : ℕ) × (ran : StandsAfter sizes w (repeated times (round sizes.seats sizes.shards moment)) new)
    × AllAtRest sizes ran.later × AllReplied sizes ran.later

settled : (sizes : Sizes) (w : World) (moment : ℕ) (new : Sim)
    (was : HasRepeated sizes w (round sizes.seats sizes.shards moment) 0 new) → AllAtRest sizes was.later
    → IsSettled sizes w moment new
settled sizes w moment new was rest =
    let there = standing sizes new was.later was.stands in (
      was.times,
      record { later = was.later; led = was.led; memory = was.memory; stands = was.stands },
      rest,
      all_replied sizes was.later there.law rest,
    )

-- At last none of the round was done.
pub quiet_settles : (old mid new : Sim) (events : List Event) (least seats shards moment : ℕ) → events
    ≡ round seats shards moment →
    ((sizes : Sizes) (w : World) → Stands sizes old w → seats ≡ sizes.seats)
    → ((sizes : Sizes) (w : World) → Stands sizes old w → shards ≡ sizes.shards) →
    Tried old events least mid → Repeats mid events true new → Settles old moment new
quiet_settles old mid new events least seats shards moment are as_seats as_shards tried repeats sizes w stands =
    let was = tried sizes w stands in
    let then = repeats sizes was.later was.stands in
    let one = then.0 in
    let both = leads_join sizes w was.later one.later (repeated was.times events) (repeated one.times events) was.led
    was.memory one.led one.memory in
    let all = subst (λ es. (led : Leads sizes w es one.later) × FoundMemory sizes w es one.later led)
    (sym (repeated_both was.times one.times events)) (both.0, both.1) in
    let done : HasRepeated sizes w events 0 new =
    record {
      times = one.times + was.times;
      later = one.later;
      led = all.0;
      memory = all.1;
      enough = omega arith;
      stands = one.stands;
    } in
    let is : events ≡ round sizes.seats sizes.shards moment = are
    ∙ (ap (λ n. round n shards moment) (as_seats sizes w stands)
    ∙ ap (λ n. round sizes.seats n moment) (as_shards sizes w stands)) in
    settle_by sizes w moment new events is done then.1
  where
    settle_by : (sizes : Sizes) (w : World) (moment : ℕ) (new : Sim) (events : List Event) → events
        ≡ round sizes.seats sizes.shards moment → (done : HasRepeated sizes w events 0 new)
        → IsQuiet sizes done.later events → IsSettled sizes w moment new
    settle_by sizes w moment new events is done quiet =
        let both = subst (λ es. (was : HasRepeated sizes w es 0 new) × IsQuiet sizes was.later es) is (done, quiet) in
        let there = standing sizes new both.0.later both.0.stands in
        settled sizes w moment new both.0
        (quiet_rests sizes both.0.later moment there.within there.law there.seated both.1)

-- No connection has as much to do as that: there is none.
pub none_settles : (old new : Sim) (events : List Event) (count seats shards moment : ℕ) → events
    ≡ round seats shards moment →
    ((sizes : Sizes) (w : World) → Stands sizes old w → seats ≡ sizes.seats)
    → ((sizes : Sizes) (w : World) → Stands sizes old w → shards ≡ sizes.shards) →
    ((sizes : Sizes) (w : World) → Stands sizes old w → length w.links ≤ count) →
    Tried old events (count * (2 ^ 128 - 1)) new → Settles old moment new
none_settles old new events count seats shards moment are as_seats as_shards counted tried sizes w stands =
    let was = tried sizes w stands in
    let is : events ≡ round sizes.seats sizes.shards moment = are
    ∙ (ap (λ n. round n shards moment) (as_seats sizes w stands)
    ∙ ap (λ n. round sizes.seats n moment) (as_shards sizes w stands)) in
    let there = standing sizes old w stands in
    let work = subst (AllByRecursion IsWork) (sym is) (round_work sizes.seats sizes.shards moment) in
    let inside = all_inside (repeated was.times events) (all_repeated IsWork was.times events work) in
    let most = at_most sizes w (repeated was.times events) was.later there.within.shards.0 there.law was.led inside in
    let few = left_within sizes w there.law in
    let steps = all_few sizes w.links there.within.shards.1 there.within.line.1 in
    let number = counted sizes w stands in
    let least = was.enough in
    let no_link : length w.links ≡ 0 = omega (arith, most, few, steps, number, least) in
    let no_step : done_in sizes w (repeated was.times events) was.later was.led ≡ 0 =
    omega (arith, most, few, steps, no_link) in
    let same = (all_idle sizes w (repeated was.times events) was.later was.led was.memory no_step).0 in
    let rest : AllAtRest sizes was.later =
    subst (AllAtRest sizes) (sym same)
    (λ k link here. absurd (let below = slice_get_within w.links k link here in omega (arith, below, no_link))) in
    let both = subst (λ es. (one : HasRepeated sizes w es 0 new) × AllAtRest sizes one.later) is (
      record {
        times = was.times;
        later = was.later;
        led = was.led;
        memory = was.memory;
        enough = omega arith;
        stands = was.stands;
      },
      rest,
    ) in
    settled sizes w moment new both.0 both.1

-- The lists of events as they are made.

pub channels_next : (seat shard : ℕ) → channels_round seat (shard + 1) ≡ channels_round seat shard
    ++ channel_round seat shard
channels_next seat shard = let e : shard + 1 ≡ suc shard = omega arith in ap (λ n. channels_round seat n) e

-- What holds in any case holds where a result is an error.
pub on_err : {A E : Type 0} (result : Result A E) (P : Type 0) → P → OnErr result P
on_err (Ok value) P holds = tt
on_err (Err error) P holds = holds
