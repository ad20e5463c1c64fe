-- Which connection a line over a stream is.
use Rattle.std.specs.Prelude.{false, None}
use Rattle.mc_wire.specs.Sink.{Listed, Sight}
use Rattle.mc_ring.specs.Route.{Name}
use Rattle.mc_transport.specs.Place.{Place, place_by}
use Rattle.mc_net.specs.declared.beginning.Beginning.{Beginning}

-- what was seen of a line with this beginning when it began: the bytes that it gave and took before
abbrev pub seen_before : {T : Type 0} → Beginning T → Sight
seen_before begun = record {
  given = Listed begun.given.value;
  ended = false;
  reads = None;
  taken = Listed begun.taken.value;
  failed = false;
}

-- the place of a line with this beginning
abbrev pub place_of : {T : Type 0} → (T → Sight → Place) → (T → Name) → Beginning T → Place
place_of place_at name begun = place_by place_at (name begun.history.value) begun.seen.value (seen_before begun)
