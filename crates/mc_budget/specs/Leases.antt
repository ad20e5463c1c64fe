-- What contracts see of a lease.
use Rattle.std.specs.Prelude.{ℕ, Option, option_map}
use Rattle.std.specs.Arc.{arc_value}
use Rattle.mc_budget.specs.Total.{Name}
use Rattle.mc_budget.specs.declared.held.Held.{Held}

-- Of which total it is, and how many bytes it has.
pub record Leased : Type 0 where
  pub of : Name
  pub bytes : ℕ

-- what a lease holds, if its memory is limited
abbrev pub leased_of : Option Held → Option Leased
leased_of held = option_map (λ (h : Held). record { of = arc_value h.total; bytes = h.bytes }) held
