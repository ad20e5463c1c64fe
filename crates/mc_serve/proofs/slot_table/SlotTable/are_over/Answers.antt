-- One slot more is over.
use Rattle.std.proofs.Common.{◌<◌, ◌≤◌, ◌≡◌, length, refl, arith}
use Rattle.std.proofs.lemmas.Option.{slice_get_read}
use Rattle.mc_serve.specs.declared.connection_slot.SlotState.TheVariants as slot_state
use Rattle.mc_serve.proofs.Parts.{all_next, all_taken}
use Rattle.mc_serve.proofs.slot_table.SlotTable.are_over.Goals as goal

pub loop-place-preserved : goal.loop-place-preserved
loop-place-preserved g c =
    let items = c.args.self.now.all.items in
    let last = c.loop-place.invariant.last in
    let below : c.loop-place.place < length items = omega (arith, last) in
    let here = slice_get_read items (length items) c.loop-place.place c.index.result.now refl below c.index.ensures in
    record {
      last = last;
      over = all_next items (λ one. one.slot_state ≡ slot_state.Over) c.loop-place.place
          c.index.result.now here (c.if-not-is_over.ensures refl) c.loop-place.invariant.over;
    }

pub returns : goal.returns
returns g c true =
    let items = c.args.self.now.all.items in
    let last = c.loop-place.invariant.last in
    let whole : length items ≤ c.loop-place.place = omega (arith, last) in
    all_taken items (λ one. one.slot_state ≡ slot_state.Over) c.loop-place.place whole c.loop-place.invariant.over
