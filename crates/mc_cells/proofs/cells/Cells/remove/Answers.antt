use Rattle.std.proofs.Common.{◌≡◌, ◌≤◌, ◌<◌, ◌++◌, List, ap, sym, ◌∙◌, arith}
use Rattle.mc_cells.specs.declared.TheConstants.{LONG_VALUE}
use Rattle.mc_cells.specs.Chain.{pieces}
use Rattle.mc_cells.specs.Contents.{Contents}
use Rattle.mc_cells.specs.Kept.{IsBeside, KeptValue, cells_of}
use Rattle.mc_cells.proofs.Chains.{short_cells}
use Rattle.mc_cells.proofs.Added.{removed, beside_from_kept}
use Rattle.mc_cells.proofs.Held.{kept_front, cells_without_long, slots_without_long, slots_without_short}
use Rattle.mc_cells.proofs.cells.Cells.remove.Goals as goal

pub returns-then-len-ge-LONG_VALUE-clause-removed : goal.returns-then-len-ge-LONG_VALUE-clause-removed
returns-then-len-ge-LONG_VALUE-clause-removed c =
    λ before after value kept.
    let old = c.args.self.now in
    let place = c.args.place in
    let rest : List KeptValue = before ++ after in
    let front = kept_front old before (place, value) after kept in
    let slots_are : c.self.inside.cells.slots ≡ old.slots = ap (λ (x : Contents). x.slots) c.self.view_is in
    let used_are : c.self.inside.cells.used ≡ old.used = ap (λ (x : Contents). x.used) c.self.view_is in
    let long_are : c.self.inside.long.slots ≡ old.long = ap (λ (x : Contents). x.long) c.self.view_is in
    let long : LONG_VALUE ≤ place.len = omega (arith, c.len-len.ensures, c.if-len-ge-LONG_VALUE.true) in
    let by = c.remove-long.ensures in
    let taken =
    removed c.self.inside.long c.remove-long.new.self place.first c.remove-long.result by.value by.updates by.len in
    record {
      cells = rw slots_are (cells_without_long old.slots place.first place.len value rest long front.cells);
      few = rw (slots_are, used_are) front.few;
      long = slots_without_long c.self.inside.long.slots c.remove-long.new.self.slots place.first place.len value
          c.remove-long.result rest long taken (rw long_are front.long);
    }

pub returns-clause-removed : goal.returns-clause-removed
returns-clause-removed c =
    λ before after value kept.
    let old = c.args.self.now in
    let place = c.args.place in
    let rest : List KeptValue = before ++ after in
    let front = kept_front old before (place, value) after kept in
    let slots_are : c.self.inside.cells.slots ≡ old.slots = ap (λ (x : Contents). x.slots) c.self.view_is in
    let used_are : c.self.inside.cells.used ≡ old.used = ap (λ (x : Contents). x.used) c.self.view_is in
    let long_are : c.self.inside.long.slots ≡ old.long = ap (λ (x : Contents). x.long) c.self.view_is in
    let short : place.len < LONG_VALUE = omega (arith, c.len-len.ensures, c.if-len-ge-LONG_VALUE.false) in
    let count : c.piece_count.result ≡ cells_of place.len
    = c.piece_count.ensures ∙ ap pieces c.len-len.ensures ∙ sym (short_cells place.len short) in
    let beside : IsBeside c.self.inside.cells.slots c.piece_count.result place.first rest
    = rw (slots_are, count) (beside_from_kept old.slots place.first place.len value rest front.cells) in
    record {
      cells = c.remove_chain.ensures.removed rest beside;
      few = c.remove_chain.ensures.dense (rw (slots_are, used_are) front.few);
      long = rw long_are (slots_without_short old.long place.first place.len value rest short front.long);
    }
