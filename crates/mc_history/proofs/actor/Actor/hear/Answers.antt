use Rattle.std.proofs.Common.{◌∙◌, sym, ap}
use Rattle.mc_history.proofs.Steps.{hears_joins, looks_allows}
use Rattle.mc_history.proofs.actor.Actor.hear.Goals as goal

pub join_seat-requires : goal.join_seat-requires
join_seat-requires c =
    let table = c.history.inside.table.shared in
    let own = c.self.inside.seat in
    let other = c.evidence.inside.seat in
    let here = sym (ap (λ n. n.table) c.history.view_is) in (
      ap (λ a. a.name.table) c.self.view_is ∙ (ap (λ n. n.table) c.requires.same ∙ here),
      ap (λ e. e.name.table) c.evidence.view_is ∙ (ap (λ n. n.table) c.requires.evidence ∙ here),
      c.evidence.invariant.0,
      c.history.invariant,
      hears_joins table.key own.id other.id own.me.0 other.me.0,
    )

pub load-requires : goal.load-requires
load-requires c =
    let table = c.history.inside.table.shared in
    let own = c.join_seat.new.seat in
    let here = sym (ap (λ n. n.table) c.history.view_is) in
    let size = sym (ap (λ n. n.sizes) c.history.view_is) in (
      c.join_seat.ensures.0 ∙ (ap (λ a. a.name.table) c.self.view_is ∙ (ap (λ n. n.table) c.requires.same ∙ here)),
      c.history.invariant,
      looks_allows table.key table.table_id.slots own.id 0 own.me.0 own.me.1
          (ap (λ m. m.0.sizes) c.join_seat.ensures.2
          ∙ (ap (λ a. a.name.sizes) c.self.view_is ∙ (ap (λ n. n.sizes) c.requires.same ∙ size))),
    )
