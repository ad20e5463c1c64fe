use Rattle.mc_history.specs.declared.event.Event.TheVariants.{Ran}
use Rattle.mc_record.specs.Recorder.{next_asker, shard_of}
use Rattle.mc_record.proofs.recorder.RecorderScribeEvidence.runs.Given as goal

-- that the shard ran the piece, for the connection whose piece is the next on the channel
abbrev pub ghost-add : goal.ghost-add
ghost-add a =
    Ran (shard_of a.self.now.role) (next_asker a.about.now.0 a.self.now) a.about.now.1.value a.about.now.2.value
