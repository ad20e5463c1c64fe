-- Where a part breaks off, the sink took a front of the whole text.
use Rattle.std.proofs.Common.{List, ℕ, ◌+◌, ◌++◌, [], drop, take, Bor, arith}
use Rattle.std.specs.List.{flat_map}
use Rattle.mc_wire.proofs.Sinks.{breaks, breaks_first, breaks_later, flat_map-around}
use Rattle.mc_wire.proofs.sink.put_parts.Goals as goal

pub returns-in_err-write_all : goal.returns-in_err-write_all
returns-in_err-write_all g c =
    let text = λ (part : Bor (List ℕ)). part.now in
    let parts = c.args.parts.now in
    let at = c.loop-part.part-index in
    let later = flat_map text (drop (at + 1) parts) in
    breaks _ c.from_residual.result _ _ c.from_residual.ensures.0
    (rw (flat_map-around text parts at (record { ref_ptr = (0, 0); now = [] }) (omega arith))
    (breaks_later _ _ _ (flat_map text (take at parts)) (_ ++ later) c.loop-part.invariant
    (breaks_first _ _ _ later c.in_err-write_all.ensures)))
