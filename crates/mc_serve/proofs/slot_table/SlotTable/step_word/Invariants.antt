-- The slots stepped so far, and the others, are as they began, some steps further.
use Rattle.std.proofs.Common.{ℕ, List}
use Rattle.mc_poll.specs.Zips.{Zips}
use Rattle.mc_serve.specs.Seats.{SeatAt, SeatHolds}
use Rattle.mc_serve.proofs.slot_table.SlotTable.step_word.Given as goal
use Rattle.mc_command.specs.declared.rules.Rules.{Rules}

abbrev pub invariant-loop-place : goal.invariant-loop-place
invariant-loop-place g l = (shards : ℕ) (rules : Rules) (were : List SeatAt)
    → Zips (λ was one. SeatHolds (λ line. g.D.Transport.Transport.place line)
    (λ line. g.D.Transport.Transport.sight line) shards rules (g.K.Clock.may_answer l.fn.clock)
    was (g.D.ConnectionSource.flow one.source) one.session one.slot_state) were l.fn.self.all.items
    → Zips (λ was one. SeatHolds (λ line. g.D.Transport.Transport.place line)
    (λ line. g.D.Transport.Transport.sight line) shards rules (g.K.Clock.may_answer l.fn.clock)
    was (g.D.ConnectionSource.flow one.source) one.session one.slot_state) were l.self.all.items
