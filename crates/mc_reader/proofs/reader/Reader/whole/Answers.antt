use Rattle.mc_reader.specs.Reader.{IsReader}
use Rattle.mc_reader.proofs.Readers.{all_given_is, whole_is}
use Rattle.mc_reader.proofs.reader.Reader.whole.Goals as goal

pub returns-clause-whole : goal.returns-clause-whole
unfolding IsReader
returns-clause-whole c rules fed ended given h =
    whole_is rules c.args.self.now fed ended given c.is_whole.result (rw h.rules_are at c.is_whole.ensures.whole)
    c.is_whole.ensures.closed h

pub returns-clause-all : goal.returns-clause-all
unfolding IsReader
returns-clause-all c rules fed ended given h =
    all_given_is rules c.args.self.now fed ended given c.is_whole.result (rw h.rules_are at c.is_whole.ensures.whole)
    c.is_whole.ensures.closed h
