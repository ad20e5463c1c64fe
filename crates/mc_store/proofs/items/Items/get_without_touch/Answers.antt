use Rattle.mc_store.proofs.Accesses.{seen_absent}
use Rattle.mc_store.proofs.WithoutValue.{none_found}
use Rattle.mc_store.proofs.items.Items.get_without_touch.Goals as goal

pub returns-in_default-clause-seen : goal.returns-in_default-clause-seen
returns-in_default-clause-seen c =
    seen_absent c.args.access c.args.key.now c.args.self.now (none_found _ c.in_default.ensures)
