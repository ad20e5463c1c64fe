-- What is kept of the connections, and of what the shards ran, shows the world's.
use Rattle.std.proofs.Common.{◌≡◌, ◌<◌, ◌≤◌, ℕ, suc, Some, List, [], ◌∷◌, length, map, refl, sym, ap, ◌∙◌, arith}
use Rattle.std.proofs.Common.{slice_index_or}
use Rattle.std.specs.List.{slice_get}
use Rattle.std.proofs.lemmas.Option.{slice_get_within}
use Rattle.mc_sizes.specs.declared.sizes.Sizes.{Sizes}
use Rattle.mc_sim.specs.declared.sim.Connection.{Connection}
use Rattle.mc_sim.specs.declared.sim.Sim.{Sim}
use Rattle.mc_model.specs.World.{IsLink, Link, World}
use Rattle.mc_model.specs.Headline.{handed_bytes}
use Rattle.mc_sim.specs.Laid.{Laid}
use Rattle.mc_sim.specs.Rings.{AreWired, Wires}
use Rattle.mc_sim.specs.Stands.{Stands, line_of}
use Rattle.mc_sim.proofs.AtSeat.{get_index}

-- lists that agree place by place
pub shows : {X Y Z : Type 0} (f : X → Z) (g : Y → Z) (xs : List X) (ys : List Y) → length xs ≡ length ys
    → ((i : ℕ) (x : X) (y : Y) → slice_get ys i ≡ Some y → slice_get xs i ≡ Some x → f x ≡ g y) → map f xs ≡ map g ys
shows f g [] [] same each = refl
shows f g [] (y ∷ ys) same each = absurd (omega (arith, same))
shows f g (x ∷ xs) [] same each = absurd (omega (arith, same))
shows f g (x ∷ xs) (y ∷ ys) same each =
    ap (λ z. z ∷ map f xs) (each 0 x y refl refl)
    ∙ ap (λ zs. g y ∷ zs) (shows f g xs ys (omega (arith, same)) (λ i a b there here. each (suc i) a b there here))

-- The connections of a simulator have, in order, the seats of the world's connections.
pub seats_shown : (sizes : Sizes) (sim : Sim) (w : World) → Stands sizes sim w
    → map (λ (one : Connection). one.seat) sim.connections.items ≡ map (λ (link : Link). link.seat) w.links
unfolding Stands
seats_shown sizes sim w world =
    shows (λ (one : Connection). one.seat) (λ (link : Link). link.seat) sim.connections.items w.links world.count
    (λ i one link there here. (world.keeps i link one there here).seat)

-- The connections of a simulator are, in order, ended if the world's are.
pub ended_shown : (sizes : Sizes) (sim : Sim) (w : World) → Stands sizes sim w
    → map (λ (one : Connection). one.ended) sim.connections.items ≡ map (λ (link : Link). link.ended) w.links
unfolding Stands
ended_shown sizes sim w world =
    shows (λ (one : Connection). one.ended) (λ (link : Link). link.ended) sim.connections.items w.links world.count
    (λ i one link there here. (world.keeps i link one there here).ended)

-- The connections of a simulator are, in order, failed if the world's are.
pub broken_shown : (sizes : Sizes) (sim : Sim) (w : World) → Stands sizes sim w
    → map (λ (one : Connection). one.broken) sim.connections.items ≡ map (λ (link : Link). link.broken) w.links
unfolding Stands
broken_shown sizes sim w world =
    shows (λ (one : Connection). one.broken) (λ (link : Link). link.broken) sim.connections.items w.links world.count
    (λ i one link there here. (world.keeps i link one there here).broken)

-- The log that a core keeps has one line for each entry of the world's log, in order.
pub log_shown : (sizes : Sizes) (sim : Sim) (w : World) → Stands sizes sim w → sim.log.items ≡ map line_of w.log
unfolding Stands
log_shown sizes sim w world = world.log

-- what was found at a connection's number is what is kept of it
pub kept_is : (sim : Sim) (xs : List Connection) (k : ℕ) (kept : Connection) → xs ≡ sim.connections.items
    → k < length xs → kept ≡ slice_index_or xs k kept → slice_get sim.connections.items k ≡ Some kept
kept_is sim xs k kept same below is = ap (λ zs. slice_get zs k) (sym same) ∙ get_index xs k kept below is

-- The simulator's input of a connection is the world's.
pub fed_shown : (sizes : Sizes) (sim : Sim) (w : World) (k : ℕ) (link : Link) (kept : Connection) → Stands sizes sim w
    → IsLink w k link → slice_get sim.connections.items k ≡ Some kept → kept.fed.items ≡ link.fed
unfolding Stands
fed_shown sizes sim w k link kept world here found = (world.keeps k link kept here found).fed

-- The simulator's output to a connection is the world's.
pub handed_shown : (sizes : Sizes) (sim : Sim) (w : World) (k : ℕ) (link : Link) (kept : Connection)
    → Stands sizes sim w → IsLink w k link → slice_get sim.connections.items k ≡ Some kept → kept.handed.items
    ≡ handed_bytes sizes w k link
unfolding Stands
handed_shown sizes sim w k link kept world here found = (world.keeps k link kept here found).handed

-- where the world has a connection, it is kept
pub kept_always : (sizes : Sizes) (sim : Sim) (w : World) (k : ℕ) (link : Link) (xs : List Connection)
    → Stands sizes sim w → IsLink w k link → xs ≡ sim.connections.items → length xs ≤ k → ⊥
unfolding Stands
kept_always sizes sim w k link xs world here same past =
    let within : k < length w.links = slice_get_within w.links k link here in
    omega (arith, within, past, world.count, ap length same)

-- what is kept is one of the world's connections
pub kept_within : (sizes : Sizes) (sim : Sim) (w : World) (k : ℕ) (xs : List Connection) → Stands sizes sim w → xs
    ≡ sim.connections.items → k < length xs → k < length w.links
unfolding Stands
kept_within sizes sim w k xs world same within = omega (arith, within, world.count, ap length same)

-- there are as many seats as in the sizes
pub seats_counted : (sizes : Sizes) (sim : Sim) (w : World) → Stands sizes sim w → length sim.seats.items ≡ sizes.seats
unfolding Stands
seats_counted sizes sim w world = world.seat_count

-- the rings have the world's contents
pub wires_there : (sizes : Sizes) (sim : Sim) (w : World) → Stands sizes sim w → (wires : Wires)
    × AreWired sizes sim.rings wires
unfolding Stands
wires_there sizes sim w world = (world.wires, world.wired)

-- there are as many shards as in the sizes
pub shards_counted : (sizes : Sizes) (laid : Laid) (wires : Wires) → AreWired sizes laid wires → length laid.workers
    ≡ sizes.shards
unfolding AreWired
shards_counted sizes laid wires was = was.shard_count
