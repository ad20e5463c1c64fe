-- The idle timer, with a clock of which only the returned values are known.
use Rattle.std.specs.Prelude.{ℕ, ◌≡◌, ◌-◌, ◌<◌, ◌↔◌, Bool, false, Option, Some, None, IsTrue, ⊤}
use Rattle.std.specs.Arc.{arc_value}
use Rattle.mc_telemetry.specs.declared.idle_timer.IdleTimer.{IdleTimer}
use Rattle.mc_telemetry.specs.declared.idle_timer.CoarseClock.{CoarseClock}
use Rattle.mc_telemetry.specs.declared.telemetry.IdleLimit.{IdleLimit}

-- the counter of the seconds
abbrev pub clock_of : {C : Type 0} → CoarseClock C → C
clock_of seconds = arc_value seconds.passed

-- the idle timeout in seconds and its clock, if there is one
abbrev pub idle_limit_of : {C : Type 0} → Option (IdleLimit C) → Option (C × ℕ)
idle_limit_of None = None
idle_limit_of (Some idle_limit) = Some (clock_of idle_limit.seconds, idle_limit.limit)

-- the idle timeout of a connection in seconds, and its clock, if it has one
abbrev pub idle_timer_of : {C : Type 0} → Option (IdleTimer C) → Option (C × ℕ)
idle_timer_of None = None
idle_timer_of (Some idle_timer) = Some (clock_of idle_timer.seconds, idle_timer.limit)

module _ {C : Type 0} (told : C → ℕ → Type 0) where
  -- the last byte was moved when the clock returned new.last seconds; the timeout is unchanged
  pub record Beats (old new : IdleTimer C) : Type 0 where
    pub limit : new.limit ≡ old.limit
    pub clock : clock_of new.seconds ≡ clock_of old.seconds
    pub last : told (clock_of old.seconds) new.last

  -- whether more seconds than the timeout passed from the last byte to the value that the clock returned
  pub record IsIdle (idle_timer : IdleTimer C) (answer : Bool) : Type 0 where
    pub now : ℕ
    pub is_told : told (clock_of idle_timer.seconds) now
    pub past : IsTrue answer ↔ (idle_timer.limit < now - idle_timer.last)

  -- the timer is reset, if the connection has one
  abbrev pub MayBeat : Option (IdleTimer C) → Option (IdleTimer C) → Type 0
  MayBeat None None = ⊤
  MayBeat None (Some new) = ⊥
  MayBeat (Some old) None = ⊥
  MayBeat (Some old) (Some new) = Beats old new

  -- a connection without a timeout is never idle
  abbrev pub MayBeIdle : Option (IdleTimer C) → Bool → Type 0
  MayBeIdle None answer = answer ≡ false
  MayBeIdle (Some idle_timer) answer = IsIdle idle_timer answer
