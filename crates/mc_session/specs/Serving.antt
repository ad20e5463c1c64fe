-- When a shard link may serve a line, and what it does once it serves no more.
use Rattle.std.specs.Prelude.{ℕ, ◌≡◌, ◌<◌, ◌==◌, List, [], ◌∷◌, ◌++◌, length, slice_get, Some, IsTrue}
use Rattle.std.specs.List.{AllByRecursion, list_any}
use Rattle.mc_ring.specs.declared.request.Request.TheVariants as request
use Rattle.mc_ring.specs.Channel.{Near}
use Rattle.mc_ring.specs.Ends.{AreSameEnds, Ends, received_on, sent_on}

-- Nothing is under way: of no shard are replies awaited.
abbrev pub IsIdle : List ℕ → Type 0
IsIdle under_way = AllByRecursion (λ count. count ≡ 0) under_way

-- Each shard of which replies are awaited was called.
abbrev pub AreCalled : List ℕ → List ℕ → Type 0
AreCalled called under_way =
    (shard count : ℕ) → slice_get under_way shard ≡ Some count → 0 < count
    → IsTrue (list_any (λ one. one == shard) called)

-- End was sent on each channel, and nothing else happened there.
pub record EndsAll (before after : Ends Near) : Type 0 where
  pub same : AreSameEnds before after
  pub sent : (shard : ℕ) → shard < length before.channels → sent_on after shard ≡ sent_on before shard
      ++ request.End ∷ []
  pub received : (shard : ℕ) → received_on after shard ≡ received_on before shard
