-- The expiry that a number of eight bytes means.
use Rattle.std.specs.Prelude.{◌≡◌, ℕ, ◌==◌, ◌-◌, ◌^◌, Bool, true, false, if◌then◌else◌}
use Rattle.std.proofs.Common.{refl, sym, eqb-true}
use Rattle.mc_item.specs.declared.item.Expiry.{Expiry}
use Rattle.mc_item.specs.declared.item.Expiry.TheVariants.{Never, At}

-- the number that means never
abbrev pub never : ℕ
never = 2 ^ 64 - 1

-- the expiry that a number means
abbrev pub unpacked : ℕ → Expiry
unpacked second = if second == never then Never else At second

-- the number that means an expiry
abbrev pub packed : Expiry → ℕ
packed Never = never
packed (At second) = second

by_test : (second : ℕ) (is_never : Bool) → (second == never) ≡ is_never → packed (if is_never then Never else At second)
    ≡ second
by_test second true same = sym (eqb-true second never same)
by_test second false other = refl

-- each number is found again
pub packed_unpacked : (second : ℕ) → packed (unpacked second) ≡ second
packed_unpacked second = by_test second (second == never) refl
