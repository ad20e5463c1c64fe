-- The line before a value was written, then the flags.
use Rattle.mc_wire.proofs.Sinks.{breaks}
use Rattle.mc_reply.proofs.Texts.{first_breaks, size-parts, writes_rest, wrote_first}
use Rattle.mc_reply.proofs.meta.put_size.Goals as goal

pub returns-in_err-write_all : goal.returns-in_err-write_all
returns-in_err-write_all g c =
    let parts = size-parts c.args.size _ _ c.sized.ensures in
    breaks _ c.from_residual.result _ _ c.from_residual.ensures.0 (first_breaks _ _ parts c.in_err-write_all.ensures)

pub returns : goal.returns
returns g c =
    let parts = size-parts c.args.size _ _ c.sized.ensures in
    writes_rest _ c.put_flags.result (wrote_first _ parts c.in_ok-write_all.ensures) c.put_flags.ensures
