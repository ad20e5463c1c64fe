use Rattle.mc_budget.proofs.Steps.{enters_allows}
use Rattle.mc_budget.proofs.total.Total.take.Goals as goal

pub load_new_seat-leased-requires : goal.load_new_seat-leased-requires
load_new_seat-leased-requires c =
    let shared = c.self.inside.table.shared in (
      c.self.invariant.0,
      enters_allows shared.key shared.table_id.slots,
    )
