-- One clerk more is shown what the witness has seen.
use Rattle.std.proofs.Common.{List, rules, get_or, ap, ◌∙◌, subst}
use Rattle.mc_history.specs.declared.event.Event.{Event}
use Rattle.mc_history.specs.Tokens.{Acting, Sees, Sight as Shows}
use Rattle.mc_record.proofs.Joining.{shown_all, shows_one}
use Rattle.mc_record.proofs.closing.show_clerks.Goals as goal

pub loop-clerk-preserved : goal.loop-clerk-preserved
loop-clerk-preserved c =
    let same = c.loop-clerk.invariant.0 in
    let shown_is = ap (λ (s : Shows). s.events) c.show.ensures.shown ∙ ap (λ (a : Acting). a.events) same in (
      c.show.ensures.kept ∙ same,
      shows_one _ _ _ c.loop-clerk.clerk-items c.clerk-item.result _ (search rules) c.requires.seen
          (subst (λ (h : List Event). Sees h (get_or c.loop-clerk.clerk-items c.loop-clerk.clerk-index
          c.clerk-item.result) c.see.new.self) shown_is c.see.ensures)
          c.loop-clerk.invariant.1,
    )

pub returns-clause-whole : goal.returns-clause-whole
returns-clause-whole c = shown_all _ _ _ _ (search rules) c.loop-clerk.invariant.1
