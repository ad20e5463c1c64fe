-- The leases of replies that wait, with one more.
use Rattle.std.proofs.Common.{◌≡◌, ◌∙◌, ℕ, ◌+◌, ◌-◌, ◌≤◌, List, [], ◌∷◌, ◌++◌, Some, ap, arith, option_map}
use Rattle.std.specs.Prelude.{Option}
use Rattle.std.specs.Option.{option_map_or}
use Rattle.mc_budget.specs.Leases.{Leased}
use Rattle.mc_budget.specs.Total.{Name}
use Rattle.mc_transport.specs.internal.Held.{leased_in}

-- the bytes of one lease
abbrev bytes_of : Option Leased → ℕ
bytes_of lease = option_map_or (λ (one : Leased). one.bytes) lease 0

-- the bytes of leases, with one more
leased_more : (leases : List (Option Leased)) (lease : Option Leased)
    → leased_in (leases ++ lease ∷ []) ≡ leased_in leases + bytes_of lease
leased_more [] lease = omega arith
leased_more (first ∷ others) lease = let rest = leased_more others lease in omega (arith, rest)

-- What is allowed is covered by leases, with a lease of what was missing.
pub covered_more : (allowed more : ℕ) (leases longer : List (Option Leased)) (lease : Option Leased)
    (memory : Option Name) (name : Name) → memory ≡ Some name
    → lease ≡ option_map (λ (one : Name). record { of = one; bytes = more - allowed }) memory
    → longer ≡ leases ++ lease ∷ [] → allowed ≤ 262144 + leased_in leases → allowed ≤ more
    → more ≤ 262144 + leased_in longer
covered_more allowed more leases longer lease memory name limited leased is covered missing =
    let grant : Option Name → Option Leased =
    option_map (λ (one : Name). record { of = one; bytes = more - allowed }) in
    let bytes : bytes_of lease ≡ more - allowed = ap bytes_of (leased ∙ ap grant limited) in
    let sum : leased_in longer ≡ leased_in leases + bytes_of lease = ap leased_in is ∙ leased_more leases lease in
    omega (arith, bytes, sum, covered, missing)
