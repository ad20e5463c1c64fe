use Rattle.std.proofs.Common.{Ok, ap, option_map, sym, ◌∙◌}
use Rattle.mc_options.specs.Wrong.{NotOfReplay}
use Rattle.mc_options.specs.Calls.{RunsSchedule, unless_foreign}
use Rattle.mc_options.proofs.options.replay_in.Goals as goal

pub returns-in-Some-clause-refused : goal.returns-in-Some-clause-refused
returns-in-Some-clause-refused c = (
  tt,
  ap (λ first. unless_foreign first NotOfReplay (Ok (RunsSchedule c.args.file.now)))
      (sym c.first_given.ensures ∙ ap (option_map (λ name. name.now)) c.in-Some.is),
)

pub returns-clause-given : goal.returns-clause-given
returns-clause-given c =
    ap (λ first. unless_foreign first NotOfReplay (Ok (RunsSchedule c.args.file.now)))
    (sym c.first_given.ensures ∙ ap (option_map (λ name. name.now)) c.in_default.is)
