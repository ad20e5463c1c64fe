-- The program has the options so far, and lacks the others.
use Rattle.std.proofs.Common.{◌≡◌, drop, map}
use Rattle.clap.specs.Words.{app_of}
use Rattle.mc_options.specs.Program.{with_rules}
use Rattle.mc_options.specs.internal.Told.{told_rule}
use Rattle.mc_options.proofs.program.with_options.Given as goal

abbrev pub invariant-loop-option : goal.invariant-loop-option
invariant-loop-option l =
    with_rules (app_of l.more) (map (λ told. told_rule told.0.now told.1 told.2.now) (drop l.option-index l.options))
    ≡ with_rules (app_of l.fn.program) (map (λ told. told_rule told.0.now told.1 told.2.now) l.options)
