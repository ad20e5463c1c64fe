use Rattle.std.proofs.Common.{refl}
use Rattle.std.specs.Prelude.{codes}
use Rattle.mc_wire.proofs.Sinks.{breaks}
use Rattle.mc_reply.proofs.Texts.{part_breaks, writes_rest, wrote_first, wrote_more}
use Rattle.mc_reply.proofs.meta.put_failed.Goals as goal

pub returns-in_err-put_failed_flags : goal.returns-in_err-put_failed_flags
returns-in_err-put_failed_flags g c =
    breaks _ c.from_residual-in_err-put_failed_flags.result _ _ c.from_residual-in_err-put_failed_flags.ensures.0
    (part_breaks _ (codes "\r\n") (wrote_first _ refl c.in_ok-write_all.ensures) c.in_err-put_failed_flags.ensures)

pub returns : goal.returns
returns g c =
    writes_rest _ c.write_all-2.result
    (wrote_more _ (codes "\r\n") (wrote_first _ refl c.in_ok-write_all.ensures) c.in_ok-put_failed_flags.ensures)
    c.write_all-2.ensures
