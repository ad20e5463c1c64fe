-- How much may be under way on the channels of a seat: to each shard as many pieces as its ring of replies has places.
use Rattle.std.specs.Prelude.{ℕ, ◌≡◌, ◌<◌, ◌≤◌, ◌+◌, ◌-◌, List, length, slice_get, Some}
use Rattle.mc_ring.specs.Channel.{Near}
use Rattle.mc_ring.specs.Ends.{Ends, received_on, sent_on}

-- Of no shard are more replies awaited than there are places.
abbrev pub AreWithin : ℕ → List ℕ → Type 0
AreWithin places under_way = (shard count : ℕ) → slice_get under_way shard ≡ Some count → count ≤ places

-- how many pieces were sent on a channel since the ends were as before, and how many replies were received there
abbrev pub sent_since : Ends Near → Ends Near → ℕ → ℕ
sent_since before now shard = length (sent_on now shard) - length (sent_on before shard)

abbrev pub received_since : Ends Near → Ends Near → ℕ → ℕ
received_since before now shard = length (received_on now shard) - length (received_on before shard)

-- On each channel at most `places` of the pieces sent since the ends were as before are without their reply.
abbrev pub IsInCredit : ℕ → Ends Near → Ends Near → Type 0
IsInCredit places before now =
    (shard : ℕ) → shard < length now.channels → sent_since before now shard ≤ received_since before now shard + places
