-- The evidence given back is of what all clerks were shown.
use Rattle.std.proofs.Common.{◌≡◌, List, sym, ap, ◌∙◌, subst}
use Rattle.std.specs.List.{AllByRecursion}
use Rattle.mc_history.specs.declared.event.Event.{Event}
use Rattle.mc_history.specs.Tokens.{Acting, Sight as Shows}
use Rattle.mc_record.specs.Closing.{IsWholeIn}
use Rattle.mc_record.proofs.closing.close.Goals as goal

pub returns-clause-whole : goal.returns-clause-whole
returns-clause-whole c =
    let joined = c.hear_clerks.new.witness.events in
    let shown_is : c.show.result.events ≡ joined = ap (λ (s : Shows). s.events) c.show.ensures.shown
    ∙ ap (λ (a : Acting). a.events) c.show_clerks.ensures.kept in
    subst (λ (h : List Event). AllByRecursion (IsWholeIn h) c.args.clerks.items) (sym shown_is)
    (subst (λ (cs : List Acting). AllByRecursion (IsWholeIn joined) cs) c.hear_clerks.ensures.kept
    c.show_clerks.ensures.whole)
