use Rattle.mc_record.proofs.Owing.{owed_may}
use Rattle.mc_record.proofs.laws.what_was_handed_out_may_be_written.Goals as goal

pub returns : goal.returns
returns c = owed_may
