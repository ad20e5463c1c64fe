use Rattle.mc_reader.proofs.Readers.{reader_begins}
use Rattle.mc_reader.proofs.laws.readers_give_commands.Goals as goal

pub returns-clause-begin : goal.returns-clause-begin
returns-clause-begin c reader rules fed ended given h = (reader_begins reader rules fed ended given h).0

pub returns-clause-may : goal.returns-clause-may
returns-clause-may c reader rules fed ended given h = (reader_begins reader rules fed ended given h).1
