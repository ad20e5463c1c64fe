use Rattle.mc_reader.proofs.Fronts.{all_begin, begin_more, closed_more, commands_begin}
use Rattle.mc_reader.proofs.laws.commands_only_grow.Goals as goal

pub returns-clause-kept : goal.returns-clause-kept
returns-clause-kept c = begin_more

pub returns-clause-begin : goal.returns-clause-begin
returns-clause-begin c rules input more entries others all =
    commands_begin rules input more entries others (all_begin rules input entries all)

pub returns-clause-closed : goal.returns-clause-closed
returns-clause-closed c = closed_more
