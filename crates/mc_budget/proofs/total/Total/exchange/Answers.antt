use Rattle.std.proofs.Common.{◌≤◌, ◌∙◌, subst, sym, ap}
use Rattle.mc_budget.proofs.Steps.{takes_allows}
use Rattle.mc_budget.proofs.total.Total.exchange.Goals as goal

pub compare_exchange-requires : goal.compare_exchange-requires
compare_exchange-requires c =
    let shared = c.self.inside.table.shared in
    let seat = c.args.seat.now in
    let limit = c.self.invariant.1 ∙ ap (λ name. name.limit) c.self.view_is in (
      c.requires.table ∙ sym (ap (λ name. name.table) c.self.view_is),
      c.self.invariant.0,
      takes_allows shared.key shared.table_id.slots seat.id seat.me.0 c.args.leased c.args.after seat.me.1
          c.requires.more (subst (λ n. c.args.after ≤ n) (sym limit) c.requires.within),
    )
