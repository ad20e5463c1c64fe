use Rattle.std.proofs.Common.{◌≡◌, true, not, ◌∙◌, ap}
use Rattle.std.specs.List.{list_any}
use mathlib.Core.Bool.{beq}
use Rattle.mc_worker.proofs.WorkerStates.{all_ended, none_held, on_true}
use Rattle.mc_worker.proofs.worker.Worker.ended.Goals as goal

pub returns-clause-ended : goal.returns-clause-ended
returns-clause-ended g c =
    let found : c.contains.result ≡ list_any (λ mark. beq mark true) c.self.inside.live.items = c.contains.ensures.value
    ∙ ap (list_any (λ mark. beq mark true)) c.deref.ensures.value in
    rw (← c.self.view_is) (rw found (all_ended c.self.inside.live.items))

pub returns-clause-given : goal.returns-clause-given
returns-clause-given g c =
    let found : c.contains.result ≡ list_any (λ mark. beq mark true) c.self.inside.live.items = c.contains.ensures.value
    ∙ ap (list_any (λ mark. beq mark true)) c.deref.ensures.value in
    rw (← c.self.view_is) (on_true (not c.contains.result) _
    (λ test. none_held _ c.self.inside.live.items c.self.invariant.0.holder
    ((all_ended c.self.inside.live.items).0 (rw (← found) test))))
