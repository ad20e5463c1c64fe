use Rattle.std.proofs.Common.{drop}
use Rattle.std.specs.List.{flat_map}
use Rattle.mc_reply.specs.Text.{flag_text, flags_text}
use Rattle.mc_reply.proofs.Texts.{WroteBut}
use Rattle.mc_reply.proofs.meta.put_flags.Given as goal

abbrev pub invariant-loop-flag : goal.invariant-loop-flag
invariant-loop-flag g l =
    WroteBut (flags_text l.flags l.key l.answer)
    (flat_map (flag_text l.flags l.key l.answer) (drop l.flag-index l.flags.returned)) (g.O.Sink.sight l.fn.out)
    (g.O.Sink.sight l.out)
