use Rattle.mc_store.proofs.StepLaws.{answers_are_lawful, steps_agree, others_stay, uniques_rise, uniques_differ}
use Rattle.mc_store.proofs.StepLaws.{uniques_tell, tokens_are_taken, time_rises, winners_are_first, sent_stays}
use Rattle.mc_store.proofs.DeadItems.{dead_go}
use Rattle.mc_store.proofs.laws.every_step.Goals as goal

pub returns : goal.returns
returns c = assumption (
  answers_are_lawful,
  steps_agree,
  others_stay,
  dead_go,
  uniques_rise,
  uniques_differ,
  uniques_tell,
  tokens_are_taken,
  time_rises,
  winners_are_first,
  sent_stays,
)
