use Rattle.std.specs.Prelude.{◌≡◌, []}
use Rattle.mc_budget.proofs.total.Total.take.Given as goal

-- the token holds nothing yet
abbrev pub invariant-loop : goal.invariant-loop
invariant-loop l = (l.seat.table_id ≡ l.self.table) × (l.seat.me ≡ (0, []))
