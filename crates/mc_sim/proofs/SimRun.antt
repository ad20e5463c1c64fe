-- A list of events that a core runs: one more of them, the first that finds no memory, and the end of the list.
use Rattle.std.proofs.Common.{◌≡◌, ◌≢◌, ℕ, suc, ◌+◌, ◌<◌, ◌≤◌, List, [], ◌∷◌, ◌++◌, length, map, take, drop, get_or}
use Rattle.std.proofs.Common.{refl, sym, ap, ◌∙◌, subst, arith}
use Rattle.std.proofs.Math.Seq.{drop-cons}
use Rattle.std.proofs.lemmas.List.{map-append, take-append-drop, take_all, take_more}
use Rattle.mc_sizes.specs.declared.sizes.Sizes.{Sizes}
use Rattle.mc_model.specs.declared.event.Event.{Event as Asked}
use Rattle.mc_model.specs.declared.event.StepReply.{StepReply}
use Rattle.mc_model.specs.declared.event.StepReply.TheVariants as replied
use Rattle.mc_sim.specs.declared.sim.Sim.{Sim}
use Rattle.mc_sim.specs.Asked.{event_of}
use Rattle.mc_model.specs.World.{World}
use Rattle.mc_model.specs.Events.{Event}
use Rattle.mc_model.specs.Schedule.{Happens, Leads}
use Rattle.mc_model.specs.declared.event.StepReply.TheVariants.{NoMemory}
use Rattle.mc_sim.specs.Stands.{Stands, StepsByEvent}
use Rattle.mc_sim.specs.Runs.{FoundMemory, Runs, Stops, done_in, is_done}

leads_more : (sizes : Sizes) (w mid w' : World) (front : List Event) (last : Event) (reply : StepReply)
    (led : Leads sizes w front mid) → FoundMemory sizes w front mid led → Happens sizes mid last reply w'
    → reply ≢ NoMemory →
    (more : Leads sizes w (front ++ last ∷ []) w') × FoundMemory sizes w (front ++ last ∷ []) w' more
    × (done_in sizes w (front ++ last ∷ []) w' more ≡ done_in sizes w front mid led + is_done reply)
leads_more sizes w mid w' [] last reply led found happens memory =
    ((reply, w', subst (λ m. Happens sizes m last reply w') led happens, refl), (memory, tt), omega arith)
leads_more sizes w mid w' (event ∷ front) last reply led found happens memory =
    let more = leads_more sizes led.1 mid w' front last reply led.3 found.1 happens memory in
    ((led.0, led.1, led.2, more.0), (found.0, more.1), omega (arith, more.2))

-- A core that stays as it is ran no events, of which none were done.
pub runs_none : (sim : Sim) → Runs sim [] 0 sim
runs_none sim sizes w stands = (record { later = w; led = refl; memory = tt; stands = stands }, refl)

runs_more : (old mid new : Sim) (front : List Event) (last : Event) (reply : StepReply) (done : ℕ)
    → Runs old front done mid → StepsByEvent mid last reply new → reply ≢ NoMemory
    → Runs old (front ++ last ∷ []) (done + is_done reply) new
runs_more old mid new front last reply done runs steps memory sizes w stands =
    let ran = runs sizes w stands in
    let step = steps sizes ran.0.later ran.0.stands in
    let more = leads_more sizes w ran.0.later step.0 front last reply ran.0.led ran.0.memory step.1 memory in (
      record { later = step.0; led = more.0; memory = more.1; stands = step.2 },
      ap (λ n. n + is_done reply) ran.1 ∙ sym more.2,
    )

runs_stop : (old mid new : Sim) (front : List Event) (last : Event) (rest : List Event) (done : ℕ)
    → Runs old front done mid → StepsByEvent mid last replied.NoMemory new → Stops old (front ++ last ∷ rest) new
runs_stop old mid new front last rest done runs steps sizes w stands =
    let ran = (runs sizes w stands).0 in
    let step = steps sizes ran.later ran.stands in
    let now = subst (λ v. Stands sizes new v) step.1.1 step.2 in (
      front,
      last,
      rest,
      refl,
      record { later = ran.later; led = ran.led; memory = ran.memory; stands = now },
      subst (λ v. Happens sizes ran.later last NoMemory v) step.1.1 step.1,
    )

map_next : (events : List Asked) (i : ℕ) (event : Asked) → i < length events → event ≡ get_or events i event
    → map event_of (take (i + 1) events) ≡ map event_of (take i events) ++ event_of event ∷ []
map_next events i event within here =
    ap (λ some. map event_of some) (take_more events i event within ∙ ap (λ e. take i events ++ e ∷ []) (sym here))
    ∙ map-append event_of (take i events) (event ∷ [])

map_around : (events : List Asked) (i : ℕ) (event : Asked) → i < length events → event ≡ get_or events i event
    → map event_of events ≡ map event_of (take i events) ++ event_of event ∷ map event_of (drop (i + 1) events)
map_around events i event within here =
    let next : suc i ≡ i + 1 = omega arith in
    let rest : drop i events ≡ event ∷ drop (i + 1) events = drop-cons events i event within
    ∙ (ap (λ e. e ∷ drop (suc i) events) (sym here) ∙ ap (λ k. event ∷ drop k events) next) in
    ap (λ some. map event_of some) (sym (take-append-drop i events) ∙ ap (λ some. take i events ++ some) rest)
    ∙ map-append event_of (take i events) (event ∷ drop (i + 1) events)

-- The step was answered so: it counts where it was done.
pub runs_next : (old mid new : Sim) (events : List Asked) (i : ℕ) (event : Asked) (reply : StepReply) (done more : ℕ)
    → i < length events → event ≡ get_or events i event →
    Runs old (map event_of (take i events)) done mid → StepsByEvent mid (event_of event) reply new → reply ≢ NoMemory
    → more ≡ done + is_done reply → Runs old (map event_of (take (i + 1) events)) more new
runs_next old mid new events i event reply done more within here runs steps memory count =
    let one = runs_more old mid new (map event_of (take i events)) (event_of event) reply done runs steps memory in
    subst (λ some. Runs old some more new) (sym (map_next events i event within here))
    (subst (λ n. Runs old (map event_of (take i events) ++ event_of event ∷ []) n new) (sym count) one)

-- A core that ran the first events, each with the memory that it took, and found none for the next stopped
-- there.
pub runs_until : (old mid new : Sim) (events : List Asked) (i : ℕ) (event : Asked) (done : ℕ) → i < length events
    → event ≡ get_or events i event →
    Runs old (map event_of (take i events)) done mid → StepsByEvent mid (event_of event) replied.NoMemory new
    → Stops old (map event_of events) new
runs_until old mid new events i event done within here runs steps =
    let one = runs_stop old mid new (map event_of (take i events)) (event_of event) (map event_of (drop (i + 1) events))
    done runs steps in
    subst (λ some. Stops old some new) (sym (map_around events i event within here)) one

-- A core that ran the first events of a list, no fewer than there are, ran all of them.
pub runs_all : (old new : Sim) (events : List Asked) (i done : ℕ) → length events ≤ i
    → Runs old (map event_of (take i events)) done new → Runs old (map event_of events) done new
runs_all old new events i done past runs =
    subst (λ some. Runs old (map event_of some) done new) (take_all i events past) runs
