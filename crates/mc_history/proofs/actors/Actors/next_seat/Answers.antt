use Rattle.std.proofs.Common.{◌∙◌, sym, ap}
use Rattle.mc_history.proofs.Steps.{seat_splits}
use Rattle.mc_history.proofs.actors.Actors.next_seat.Goals as goal

pub split_seat-requires : goal.split_seat-requires
split_seat-requires c =
    let table = c.history.inside.table.shared in
    let own = c.self.inside.seat in (
      ap (λ a. a.name.table) c.self.view_is
          ∙ (ap (λ n. n.table) c.requires.same ∙ sym (ap (λ n. n.table) c.history.view_is)),
      c.history.invariant,
      seat_splits table.key own.id own.me.0 c.self.invariant.1,
    )
