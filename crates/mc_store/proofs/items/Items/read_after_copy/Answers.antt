use Rattle.mc_store.proofs.Accesses.{read_absent}
use Rattle.mc_store.proofs.WithoutValue.{none_found}
use Rattle.mc_store.proofs.items.Items.read_after_copy.Goals as goal

pub returns-in_default-clause-read : goal.returns-in_default-clause-read
returns-in_default-clause-read c =
    read_absent c.args.access c.args.key.now c.args.self.now (none_found _ c.in_default.ensures)
