-- Each write takes a further piece of the bytes.
use Rattle.std.proofs.Common.{sym, refl, ◌+◌, ◌∙◌, ap, drop, length, arith, length-drop}
use Rattle.std.proofs.lemmas.List.{drop-drop}
use Rattle.mc_wire.proofs.Sinks.{breaks, took-nil, took_more}
use Rattle.mc_wire.specs.Sink.{broke}
use Rattle.mc_wire.proofs.sink.write_all.Goals as goal

pub loop-rest-init : goal.loop-rest-init
loop-rest-init g c =
    (record { count = 0; within = omega arith; sight = sym (took-nil (g.O.Sink.sight c.args.out.now)) }, refl)

pub loop-rest-preserved : goal.loop-rest-preserved
loop-rest-preserved g c =
    let front = c.loop-rest.invariant.0 in
    let rest = c.loop-rest.invariant.1 in
    let count = c.in_ok-count.count in
    let bytes = c.args.bytes.now in
    let within = c.in_ok-count.ensures.within in (
      record {
        count = front.count + count;
        within = omega (arith, ap length rest, length-drop front.count bytes, within);
        sight = took_more _ _ _ bytes front.count count front.sight (rw rest at c.in_ok-count.ensures.ok);
      },
      c.split_at.ensures.back ∙ (ap (λ xs. drop count xs) rest ∙ drop-drop count front.count bytes),
    )

pub returns-in_err-count : goal.returns-in_err-count
returns-in_err-count g c =
    let front = c.loop-rest.invariant.0 in
    breaks _ c.from_residual.result _ _ c.from_residual.ensures.0
    (record { count = front.count; within = front.within; sight = c.in_err-count.ensures.err ∙ ap broke front.sight })
