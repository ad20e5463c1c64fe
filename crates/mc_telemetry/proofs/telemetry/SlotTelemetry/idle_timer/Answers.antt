-- An idle timer has the configured clock and timeout; there is none without a configured one, or if sharing
-- the clock failed.
use Rattle.std.proofs.Common.{◌≡◌, Option, Some, Result, Ok, Err, sym, ◌∙◌}
use Rattle.std.specs.Result.{IfOk, result_ok}
use Rattle.std.proofs.lemmas.Option.{MatchOption-from_none, none-some}
use Rattle.mc_telemetry.specs.IdleTimer.{clock_of, idle_limit_of}
use Rattle.mc_telemetry.specs.declared.idle_timer.IdleTimer.{IdleTimer}
use Rattle.mc_telemetry.specs.declared.idle_timer.CoarseClock.{CoarseClock}
use Rattle.mc_telemetry.specs.declared.telemetry.IdleLimit.{IdleLimit}
use Rattle.mc_telemetry.proofs.telemetry.SlotTelemetry.idle_timer.Goals as goal

-- An idle timer that started with a shared clock has the configured clock and timeout.
as_said : {C E : Type 0} (idle_timer : IdleTimer C) (seconds : CoarseClock C) (shared : Result (CoarseClock C) E)
    (said : IdleLimit C) (limit : Option (IdleLimit C)) → Some said ≡ limit
    → Some seconds ≡ result_ok shared → IfOk shared (λ one. clock_of one ≡ clock_of said.seconds)
    → clock_of idle_timer.seconds ≡ clock_of seconds → idle_timer.limit ≡ said.limit
    → Some (clock_of idle_timer.seconds, idle_timer.limit) ≡ idle_limit_of limit
as_said idle_timer seconds (Ok one) said limit is made same clock most = rw (← is) (cc)
as_said idle_timer seconds (Err error) said limit is made same clock most = absurd (none-some seconds (sym made))

pub returns-in_err-idle_limit-clause-timeless : goal.returns-in_err-idle_limit-clause-timeless
returns-in_err-idle_limit-clause-timeless g c = λ _. c.from_residual.ensures

pub returns-in_err-idle_limit-clause-limit : goal.returns-in_err-idle_limit-clause-limit
returns-in_err-idle_limit-clause-limit g c = MatchOption-from_none c.from_residual.result _ c.from_residual.ensures

pub returns-in_err-ok-clause-timeless : goal.returns-in_err-ok-clause-timeless
returns-in_err-ok-clause-timeless g c = λ _. c.from_residual-in_err-ok.ensures

pub returns-in_err-ok-clause-limit : goal.returns-in_err-ok-clause-limit
returns-in_err-ok-clause-limit g c =
    MatchOption-from_none c.from_residual-in_err-ok.result _ c.from_residual-in_err-ok.ensures

pub returns-clause-timeless : goal.returns-clause-timeless
returns-clause-timeless g c =
    λ none. absurd (none-some c.in_ok-idle_limit.idle_limit.now (sym none ∙ sym c.in_ok-idle_limit.ensures.value))

pub returns-clause-limit : goal.returns-clause-limit
returns-clause-limit g c =
    as_said c.begin.result c.in_ok-ok.field-0 c.share.result c.in_ok-idle_limit.idle_limit.now
    c.args.self.now.idle_limit
    c.in_ok-idle_limit.ensures.value c.in_ok-ok.ensures.value c.share.ensures c.begin.ensures.clock
    c.begin.ensures.limit
