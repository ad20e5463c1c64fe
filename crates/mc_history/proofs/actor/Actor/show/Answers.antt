use Rattle.std.proofs.Common.{◌∙◌, sym, ap}
use Rattle.mc_history.proofs.Steps.{shows_splits}
use Rattle.mc_history.proofs.actor.Actor.show.Goals as goal

pub split_seat-requires : goal.split_seat-requires
split_seat-requires c =
    let table = c.history.inside.table.shared in
    let own = c.self.inside.seat in (
      ap (λ a. a.name.table) c.self.view_is
          ∙ (ap (λ n. n.table) c.requires.same ∙ sym (ap (λ n. n.table) c.history.view_is)),
      c.history.invariant,
      shows_splits table.key own.id own.me.0,
    )
