use Rattle.std.proofs.Common.{Ok, Err}
use Rattle.mc_command.specs.declared.command.Command.TheVariants as command
use Rattle.mc_reader.proofs.plain.give_meta_set.Goals as goal

pub returns-in-Ok : goal.returns-in-Ok
returns-in-Ok g c = record {
  read = Ok (command.MetaSet c.in-Ok.set);
  reads = rw c.words.ensures at c.in-Ok.ensures;
  took = c.meta_set.ensures;
}

pub returns-in-Err : goal.returns-in-Err
returns-in-Err g c = record {
  read = Err c.in-Err.refusal;
  reads = rw c.words.ensures at c.in-Err.ensures;
  took = c.other.ensures;
}
