-- The memory of replies that wait.
use Rattle.std.specs.Prelude.{ℕ, ◌+◌, List, [], ◌∷◌, Option}
use Rattle.std.specs.Option.{option_map_or}
use Rattle.mc_budget.specs.Leases.{Leased}

-- the bytes of these leases
abbrev pub leased_in : List (Option Leased) → ℕ
leased_in [] = 0
leased_in (lease ∷ others) = option_map_or (λ (one : Leased). one.bytes) lease 0 + leased_in others
