-- Facts about a slot after the run, before its connections are considered one by one.
use Rattle.std.proofs.Common.{◌≡◌, ℕ, zero, suc, List, [], ◌∷◌, length, map, take, refl, ap, arith}
use Rattle.std.specs.List.{AllByRecursion}
use Rattle.std.proofs.lemmas.List.{take_all}
use Rattle.mc_ring.specs.Channel.{Near}
use Rattle.mc_ring.specs.Ends.{list_at}
use Rattle.mc_ring.specs.Made.{IsUnused}
use Rattle.mc_ring.specs.Reply.{Shown}
use Rattle.mc_conn.specs.History.{AnsweredCommand, Taken, entries_of, taken_of}
use Rattle.mc_conn.specs.Due as due
use Rattle.mc_conn.specs.Fits.{HasCome, counts}
use Rattle.mc_conn.specs.Flow.{commands_of}

-- On unused ends nothing was sent or received.
pub none_read : {A : Type 0} (read : Near → List A) → ((near : Near) → IsUnused near → read near ≡ [])
    → (channels : List Near) (shard : ℕ) → AllByRecursion IsUnused channels → list_at read channels shard ≡ []
none_read read none [] shard all = refl
none_read read none (near ∷ channels) zero all = none near all.0
none_read read none (near ∷ channels) (suc shard) all = none_read read none channels shard all.1

-- If as many replies came from each shard as are due there, the commands have all that they need.
pub all_come : (shards : ℕ) (taken : List Taken) (received : ℕ → List Shown)
    → ((shard : ℕ) → length (received shard) ≡ length (due.due shards shard taken))
    → HasCome shards taken (counts received) (length taken)
all_come shards taken received answered shard =
    let whole : length (due.due shards shard (take (length taken) taken)) ≡ length (due.due shards shard taken) =
    ap (λ ts. length (due.due shards shard ts)) (take_all (length taken) taken (omega arith)) in
    let these = answered shard in
    omega (arith, whole, these)

-- What is true of the moments at which commands were taken is true of those in their history.
pub moments_of : (may_answer : ℕ → Type 0) (history : List AnsweredCommand)
    → AllByRecursion (λ (one : Taken). may_answer one.moment) (map taken_of history)
    → AllByRecursion (λ (done : AnsweredCommand). may_answer done.moment) history
moments_of may_answer [] all = tt
moments_of may_answer (done ∷ history) all = (all.0, moments_of may_answer history all.1)

-- The commands of a history are those that were taken.
pub entries_same : (history : List AnsweredCommand) → commands_of (map taken_of history) ≡ entries_of history
entries_same [] = refl
entries_same (done ∷ history) = ap (λ es. done.entry ∷ es) (entries_same history)
