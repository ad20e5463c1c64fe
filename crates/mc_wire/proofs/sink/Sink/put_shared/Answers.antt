-- Each write takes a further piece of the block.
use Rattle.std.proofs.Common.{sym, ◌+◌, ◌∙◌, ap, drop, length, arith, length-drop}
use Rattle.std.proofs.lemmas.List.{drop-drop}
use Rattle.mc_wire.proofs.Sinks.{breaks, took-nil, took_more}
use Rattle.mc_wire.specs.Sink.{broke}
use Rattle.mc_wire.proofs.sink.Sink.put_shared.Goals as goal

pub loop-left-init : goal.loop-left-init
loop-left-init g c = (
  record { count = 0; within = omega arith; sight = sym (took-nil (g.Self.Sink.sight c.args.self.now)) },
  c.as_slice-left.ensures,
)

pub loop-left-preserved : goal.loop-left-preserved
loop-left-preserved g c =
    let front = c.loop-left.invariant.0 in
    let left = c.loop-left.invariant.1 in
    let count = c.in_ok-count.count in
    let block = c.args.block.now in
    let within = c.in_ok-count.ensures.within in (
      record {
        count = front.count + count;
        within = omega (arith, ap length left, length-drop front.count block, within);
        sight = took_more _ _ _ block front.count count front.sight (rw left at c.in_ok-count.ensures.ok);
      },
      c.split_at.ensures.back ∙ (ap (λ xs. drop count xs) left ∙ drop-drop count front.count block),
    )

pub returns-in_err-count : goal.returns-in_err-count
returns-in_err-count g c =
    let front = c.loop-left.invariant.0 in
    breaks _ c.from_residual.result _ _ c.from_residual.ensures.0
    (record { count = front.count; within = front.within; sight = c.in_err-count.ensures.err ∙ ap broke front.sight })
