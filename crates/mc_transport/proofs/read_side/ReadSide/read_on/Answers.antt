-- More is read where all was fed.
use Rattle.std.proofs.Common.{◌≡◌, true, false, sym, ◌∙◌}
use Rattle.mc_transport.specs.internal.Steps.{all_handed}
use Rattle.mc_transport.proofs.Turns.{breaks_read, goes_end, none_in, reads_more}
use Rattle.mc_transport.proofs.read_side.ReadSide.read_on.Goals as goal

pub returns-in-Err-clause-says : goal.returns-in-Err-clause-says
returns-in-Err-clause-says g c received begin flow is serving all open_is complete =
    breaks_read received begin _ _ _ flow _ (c.broken.ensures (all_handed flow) is) all complete open_is
    c.in-Err.ensures.err (sym c.if-not-is_empty.ensures) serving

pub returns-then-is_empty-clause-says : goal.returns-then-is_empty-clause-says
returns-then-is_empty-clause-says g c received begin flow is serving all open_is complete =
    let more = reads_more received begin _ _ _ c.refill.new.self flow true all complete
    (λ e. none_in _ (sym c.if-is_empty.ensures)) (λ e. absurd cc) (c.in-Ok-Bytes.ensures.bytes c.in-Ok-Bytes.field-0-is)
    (sym c.if-not-is_empty.ensures) serving in
    rw c.give_back.ensures (goes_end received begin _ _ flow _ (c.end.ensures (all_handed flow) is) more)

pub returns-clause-says : goal.returns-clause-says
returns-clause-says g c received begin flow is serving all open_is complete =
    let more = reads_more received begin _ _ _ c.refill.new.self flow flow.ended all complete
    (λ e. absurd (let bad : true ≡ false = sym e ∙ open_is in cc)) (λ e. sym c.if-is_empty.ensures)
    (c.in-Ok-Bytes.ensures.bytes c.in-Ok-Bytes.field-0-is) (sym c.if-not-is_empty.ensures) serving in
    c.feed-2.ensures received begin _ flow is more open_is

pub returns-then-not-is_empty-clause-says : goal.returns-then-not-is_empty-clause-says
returns-then-not-is_empty-clause-says g c received begin flow is serving all open_is complete =
    c.feed.ensures received begin _ flow is serving open_is
