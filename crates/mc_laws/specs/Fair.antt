-- Fairness: endless runs in which no work is postponed forever, and their consequences.
use Rattle.std.specs.Prelude.{ℕ, ◌≡◌, ◌≢◌, ◌+◌, ◌<◌, ◌≤◌, ◌⊎◌, IsTrue, false, List, length}
use Rattle.mc_command.specs.declared.command.Command.{Command}
use Rattle.mc_sizes.specs.declared.sizes.Sizes.{Sizes}
use Rattle.mc_model.specs.Sized.{SpellFirst}
use Rattle.mc_model.specs.World.{IsAt, IsLink, Link, World}
use Rattle.mc_model.specs.Rest.{AtRest}
use Rattle.mc_model.specs.Events.{Event}
use Rattle.mc_model.specs.Events.Event.{Feed, Take, Send, Pop, Give, Receive, Hand}
use Rattle.mc_model.specs.declared.event.StepReply.{StepReply}
use Rattle.mc_model.specs.Schedule.{Enabled, Happens, Spared}
use Rattle.mc_model.specs.declared.event.StepReply.TheVariants.{Done, NoMemory}
use Rattle.mc_laws.specs.Progress.{AllAtRest, AllReplied, IsNoInput}

-- The server does it by itself, and the seat and shard that it names exist.
abbrev pub IsWorkOf : Sizes → Event → Type 0
IsWorkOf sizes (Take seat moment) = seat < sizes.seats
IsWorkOf sizes (Send seat) = seat < sizes.seats
IsWorkOf sizes (Pop shard seat) = (shard < sizes.shards) × (seat < sizes.seats)
IsWorkOf sizes (Give shard) = shard < sizes.shards
IsWorkOf sizes (Receive seat shard) = (seat < sizes.seats) × (shard < sizes.shards)
IsWorkOf sizes (Hand seat) = seat < sizes.seats
IsWorkOf sizes event = ⊥

-- It is the same event, except for the time of a Take.
abbrev pub IsSameStep : Event → Event → Type 0
IsSameStep (Take seat moment) other = (when : ℕ) × (other ≡ Take seat when)
IsSameStep event other = other ≡ event

-- Events, one after another without end, from a world on.
pub record EndlessRun (sizes : Sizes) (w : World) : Type 0 where
  pub events : ℕ → Event
  pub replies : ℕ → StepReply
  pub worlds : ℕ → World
  pub begins : worlds 0 ≡ w
  pub happens : (n : ℕ) → Happens sizes (worlds n) (events n) (replies n) (worlds (n + 1))

-- Nothing comes in.
abbrev pub HasNoInput : {sizes : Sizes} {w : World} → EndlessRun sizes w → Type 0
HasNoInput run = (n : ℕ) → IsNoInput (run.events n)

-- It holds at this step of a run, or at a later one.
pub record Eventually (n : ℕ) (P : ℕ → Type 0) : Type 0 where
  pub later : ℕ
  pub after : n ≤ later
  pub holds : P later

-- The event is done, there or later.
abbrev pub IsDoneLater : {sizes : Sizes} {w : World} → EndlessRun sizes w → ℕ → Event → Type 0
IsDoneLater run n event = Eventually n (λ m. IsSameStep event (run.events m) × (run.replies m ≡ Done))

-- Work is done, or at some later step it isn't enabled.
abbrev pub IsWeaklyFair : {sizes : Sizes} {w : World} → EndlessRun sizes w → Type 0
IsWeaklyFair {sizes} run =
    (n : ℕ) (event : Event) → IsWorkOf sizes event → IsDoneLater run n event
    ⊎ Eventually n (λ m. ¬ Enabled sizes (run.worlds m) event)

-- No shard ignores a seat forever: it takes a piece of the seat, or from some later step on it never may.
abbrev pub IsFairToSeats : {sizes : Sizes} {w : World} → EndlessRun sizes w → Type 0
IsFairToSeats {sizes} run =
    (n shard seat : ℕ) → shard < sizes.shards → seat < sizes.seats →
    IsDoneLater run n (Pop shard seat)
    ⊎ Eventually n (λ later. (m : ℕ) → later ≤ m → ¬ Enabled sizes (run.worlds m) (Pop shard seat))

-- All work is tried again and again, and gets its memory.
abbrev pub TriesAll : {sizes : Sizes} {w : World} → EndlessRun sizes w → Type 0
TriesAll {sizes} run =
    (n : ℕ) (event : Event) → IsWorkOf sizes event
    → Eventually n (λ m. IsSameStep event (run.events m) × (run.replies m ≢ NoMemory))

-- The run reaches a world where all connections are at rest, and all replies are written.
abbrev pub ComesToRest : {sizes : Sizes} {w : World} → EndlessRun sizes w → Type 0
ComesToRest {sizes} run = Eventually 0 (λ m. AllAtRest sizes (run.worlds m) × AllReplied sizes (run.worlds m))

-- A connection at rest that has neither ended nor failed takes bytes.
abbrev pub TakesBytesAtRest : Sizes → World → Type 0
TakesBytesAtRest sizes w =
    (seat k : ℕ) (link : Link) (bytes : List ℕ) → IsAt w seat k link → AtRest sizes link → link.ended ≡ false
    → link.broken ≡ false → 0 < length bytes → Enabled sizes w (Feed seat bytes)
    × (Spared sizes w (Feed seat bytes) → ⊥)

-- The reply to the connection's command of this number is written, or the connection fails.
abbrev pub GetsReply : {sizes : Sizes} {w : World} → EndlessRun sizes w → ℕ → ℕ → ℕ → Type 0
GetsReply run n k number =
    Eventually n (λ m. (link : Link) × IsLink (run.worlds m) k link × (IsTrue link.broken ⊎ (number < link.handed)))

-- This holds for each command in a connection's input.
abbrev pub NoneWaitsForever : {sizes : Sizes} {w : World} → EndlessRun sizes w → Type 0
NoneWaitsForever {sizes} run =
    (n k number : ℕ) (link : Link) (commands : List Command) → IsLink (run.worlds n) k link
    → SpellFirst sizes link.fed commands → number < length commands → GetsReply run n k number
