-- No outcome counts connections that it doesn't list, nor leaves out one that it lists.
use Rattle.std.proofs.Common.{◌≡◌, ℕ, arith}
use Rattle.mc_sizes.specs.declared.sizes.Sizes.{Sizes}
use Rattle.mc_net.specs.declared.stream.Stream.{Ghosts}
use Rattle.mc_serve.specs.Connections.{ServesConnections, how_many, seats_of}
use Rattle.mc_serve.specs.declared.outcome.Outcome.{Outcome}

none_listed : {S : Type 0} {g : Ghosts S} (sizes : Sizes) (may_answer : ℕ → Type 0) (served : Outcome S g)
    → how_many (seats_of served) ≡ 0 → served.ended ≡ 1 → ServesConnections sizes may_answer served → ⊥
none_listed sizes may_answer served none one serves = let counted = serves.counted in omega (arith, counted, none, one)

one_listed : {S : Type 0} {g : Ghosts S} (sizes : Sizes) (may_answer : ℕ → Type 0) (served : Outcome S g)
    → how_many (seats_of served) ≡ 1 → served.ended ≡ 0 → ServesConnections sizes may_answer served → ⊥
one_listed sizes may_answer served one none serves = let counted = serves.counted in omega (arith, counted, one, none)
