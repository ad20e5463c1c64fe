use Rattle.std.proofs.Common.{◌≡◌, ◌∷◌, ap, sym, ◌∙◌}
use Rattle.mc_cells.specs.Contents.{Contents}
use Rattle.mc_cells.specs.Kept.{place_at, SlotsHold}
use Rattle.mc_cells.proofs.Added.{inserted}
use Rattle.mc_cells.proofs.Held.{cells_with_long, slots_with_long}
use Rattle.mc_cells.proofs.cells.Cells.keep_long.Goals as goal

pub returns-clause-kept : goal.returns-clause-kept
returns-clause-kept c =
    λ kept hold.
    let old = c.args.self.now in
    let value = c.args.value in
    let new = c.insert_reserved.new.self in
    let number = c.insert_reserved.result in
    let slots_are : c.self.inside.cells.slots ≡ old.slots
    = ap (λ (x : Contents). x.slots) c.self.view_is ∙ ap (λ (x : Contents). x.slots) c.reserve.ensures.kept in
    let used_are : c.self.inside.cells.used ≡ old.used
    = ap (λ (x : Contents). x.used) c.self.view_is ∙ ap (λ (x : Contents). x.used) c.reserve.ensures.kept in
    let long_are : c.self.inside.long.slots ≡ old.long
    = ap (λ (x : Contents). x.long) c.self.view_is ∙ ap (λ (x : Contents). x.long) c.reserve.ensures.kept in
    let by = c.insert_reserved.ensures in
    let added = inserted c.self.inside.long new number value by.was_vacant by.updates by.len in
    let len = c.len-len.ensures.value in
    let more : SlotsHold new.slots ((place_at number c.len-len.result, value) ∷ kept)
    = rw len (slots_with_long c.self.inside.long.slots new.slots number value kept c.requires.long added
    (rw long_are hold.long)) in
    record {
      cells = rw slots_are
          (cells_with_long old.slots number c.len-len.result value kept (rw len c.requires.long) (sym len) hold.cells);
      few = rw (slots_are, used_are) hold.few;
      long = more;
    }
