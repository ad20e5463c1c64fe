use Rattle.mc_store.proofs.RunLaws.{runs_are_orderly, runs_share_no_unique, runs_leave_others, new_is_given}
use Rattle.mc_store.proofs.RunLaws.{same_unique_same_item, told_alone}
use Rattle.mc_store.proofs.laws.every_run.Goals as goal

pub returns : goal.returns
returns c =
    assumption (
      runs_are_orderly,
      runs_share_no_unique,
      runs_leave_others,
      new_is_given,
      same_unique_same_item,
      told_alone,
    )
