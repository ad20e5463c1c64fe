use Rattle.mc_transport.proofs.Clerking.{kept_begins, kept_recorded, kept_taken, sends_next}
use Rattle.mc_transport.proofs.laws.recorded_pieces_are_next_on_their_channels.Goals as goal

pub returns-clause-begins : goal.returns-clause-begins
returns-clause-begins c = kept_begins

pub returns-clause-takes : goal.returns-clause-takes
returns-clause-takes c = kept_taken

pub returns-clause-records : goal.returns-clause-records
returns-clause-records c = kept_recorded

pub returns-clause-sends : goal.returns-clause-sends
returns-clause-sends c = sends_next
