use Rattle.std.proofs.Common.{◌∙◌, sym, ap, arith}
use Rattle.mc_budget.proofs.Steps.{returns_allows}
use Rattle.mc_budget.proofs.total.Total.give_back.Goals as goal

pub fetch_sub-requires : goal.fetch_sub-requires
fetch_sub-requires c =
    let shared = c.self.inside.table.shared in
    let seat = c.args.seat.now in (
      c.requires.table ∙ sym (ap (λ name. name.table) c.self.view_is),
      c.self.invariant.0,
      returns_allows shared.key shared.table_id.slots seat.id seat.me.0 c.args.bytes seat.me.1
          (let holds = ap (λ me. me.0) c.requires.holds in omega (arith, holds)),
    )
