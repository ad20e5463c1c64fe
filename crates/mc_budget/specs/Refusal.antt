-- When a lease is refused.
use Rattle.std.specs.Prelude.{ℕ, ◌≡◌, ◌+◌, ◌<◌, Err, Result}
use Rattle.mc_budget.specs.declared.lease.Refused.{Refused}
use Rattle.mc_budget.specs.declared.lease.Refused.TheVariants.{Full}

-- If the bytes were refused because so many were leased, then with them the limit would be passed.
abbrev pub IsRefused : {T : Type 0} → ℕ → ℕ → Result T Refused → Type 0
IsRefused limit bytes result = (leased : ℕ) → result ≡ Err (Full leased) → limit < leased + bytes
