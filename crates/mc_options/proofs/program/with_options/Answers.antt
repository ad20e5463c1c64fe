-- The next option leaves the list of those that are to come, and is one of the program's.
use Rattle.std.proofs.Common.{◌+◌, map, drop, ap, sym, ◌∙◌}
use Rattle.std.proofs.lemmas.List.{at_drop_more}
use Rattle.clap.specs.Words.{App, app_of}
use Rattle.mc_options.specs.Program.{with_rules}
use Rattle.mc_options.specs.internal.Told.{told_rule}
use Rattle.mc_options.proofs.program.with_options.Goals as goal

pub loop-option-preserved : goal.loop-option-preserved
loop-option-preserved c =
    let behind = map (λ told. told_rule told.0.now told.1 told.2.now)
    (drop (c.loop-option.option-index + 1) c.args.options.now) in
    ap (λ (app : App). with_rules app behind) c.in_ok-more.ensures
    ∙ (sym (at_drop_more (λ rest. with_rules (app_of c.loop-option.more)
    (map (λ told. told_rule told.0.now told.1 told.2.now) rest)) c.args.options.now c.loop-option.option-index _
    c.loop-option-test.true) ∙ c.loop-option.invariant)
