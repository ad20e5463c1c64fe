-- How End is sent on the channels of a seat.
use Rattle.std.specs.Prelude.{ℕ, ◌≡◌, ◌≢◌, ◌<◌, ◌≤◌, [], ◌∷◌, ◌++◌}
use Rattle.mc_ring.specs.declared.request.Request.TheVariants as request
use Rattle.mc_ring.specs.Channel.{Near}
use Rattle.mc_ring.specs.Ends.{AreSameEnds, Ends, received_on, sent_on}

-- Nothing was sent or received.
pub record StandsStill (before after : Ends Near) : Type 0 where
  pub same : AreSameEnds before after
  pub sent : (shard : ℕ) → sent_on after shard ≡ sent_on before shard
  pub received : (shard : ℕ) → received_on after shard ≡ received_on before shard

-- End was sent on one of the channels, and nothing else happened.
pub record EndsOne (ended : ℕ) (before after : Ends Near) : Type 0 where
  pub same : AreSameEnds before after
  pub sent : sent_on after ended ≡ sent_on before ended ++ request.End ∷ []
  pub others : (shard : ℕ) → shard ≢ ended → sent_on after shard ≡ sent_on before shard
  pub received : (shard : ℕ) → received_on after shard ≡ received_on before shard

-- End was sent on the first count channels, and nothing else happened.
pub record EndsFirst (count : ℕ) (before after : Ends Near) : Type 0 where
  pub same : AreSameEnds before after
  pub sent : (shard : ℕ) → shard < count → sent_on after shard ≡ sent_on before shard ++ request.End ∷ []
  pub others : (shard : ℕ) → count ≤ shard → sent_on after shard ≡ sent_on before shard
  pub received : (shard : ℕ) → received_on after shard ≡ received_on before shard
