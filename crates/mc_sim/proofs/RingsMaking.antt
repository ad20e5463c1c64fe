-- The rings as they are made, with workers of empty shards.
use Rattle.std.proofs.Common.{◌≡◌, ℕ, zero, suc, ◌+◌, Some, List, [], ◌∷◌, ◌++◌, length, map, refl, ap, sym, ◌∙◌}
use Rattle.std.specs.List.{AllByRecursion, slice_get}
use Rattle.std.proofs.lemmas.List.{length-map}
use Rattle.mc_sizes.specs.declared.sizes.Sizes.{Sizes}
use Rattle.mc_ring.specs.Channel.{Far, Near, Side}
use Rattle.mc_ring.specs.Ends.{Ends, list_at}
use Rattle.mc_ring.specs.Made.{AreChannels, IsUnused}
use Rattle.mc_store.specs.Shard.{ShardContents, Keeps}
use Rattle.mc_model.specs.Sized.{empty_shard}
use Rattle.mc_worker.specs.WorkerState.{WorkerState}
use Rattle.mc_sim.specs.Rings.{HaveWires, IsStarted, ends_of, new_wires}
use Rattle.mc_ring.proofs.Lists.{get_map, all_at}

-- the element after a prefix is at the index of the prefix's length
pub at_end : {A : Type 0} (xs : List A) (y : A) (zs : List A) → slice_get (xs ++ y ∷ zs) (length xs) ≡ Some y
at_end [] y zs = refl
at_end (x ∷ xs) y zs = at_end xs y zs

-- one worker more, of the next ends

keeps_at : (held : ShardContents) (sizes : Sizes) (p q : ℕ) → p ≡ q → Keeps held (empty_shard sizes p)
    → Keeps held (empty_shard sizes q)
keeps_at held sizes p q same keeps = rw (← same) keeps

unused_list : {Out In B : Type 0} (read : Side Out In → List B) (channels : List (Side Out In)) (k : ℕ)
    → ((end : Side Out In) → IsUnused end → read end ≡ []) → AllByRecursion IsUnused channels → list_at read channels k
    ≡ []
unused_list read [] k none all = refl
unused_list read (end ∷ channels) zero none all = none end all.0
unused_list read (end ∷ channels) (suc k) none all = unused_list read channels k none all.1

-- New rings between seats and new workers with empty shards are empty.
pub new_wired : (sizes : Sizes) (seats : List (Ends Near)) (shards : List (Ends Far)) (workers : List WorkerState)
    → AreChannels sizes.seats sizes.shards sizes.ring seats shards → map ends_of workers ≡ shards
    → AllByRecursion (IsStarted sizes) workers
    → HaveWires sizes (record { seats = seats; workers = workers; places = sizes.ring }) (new_wires sizes)
new_wired sizes seats shards workers channels ends started =
    let worker_state_ends : (s : ℕ) (worker_state : WorkerState) → slice_get workers s ≡ Some worker_state
    → slice_get shards s ≡ Some worker_state.ends =
    λ s worker_state at. ap (λ xs. slice_get xs s) (sym ends) ∙ get_map ends_of workers s worker_state at in
    record {
      laid = record {
        seat_number = λ c seat at. (channels.each_seat c seat at).number_is;
        worker_number =
            λ s worker_state at. (channels.each_shard s worker_state.ends
            (worker_state_ends s worker_state at)).number_is;
        each_channel =
            λ c s seat worker_state at at'. channels.each_channel c s seat worker_state.ends
            at (worker_state_ends s worker_state at');
      };
      seat_count = channels.seat_count;
      shard_count = sym (length-map workers ends_of) ∙ ap length ends ∙ channels.shard_count;
      places = refl;
      each_seat = λ c seat at. let new =
          channels.each_seat c seat at in record { counted = new.counted; holds = new.holds };
      each_worker = λ s worker_state at.
          let new = channels.each_shard s worker_state.ends (worker_state_ends s worker_state at) in
          let begun = all_at (IsStarted sizes) workers s worker_state started at in
          record {
            counted = new.counted;
            holds = new.holds;
            marked = begun.marked;
            live = begun.live;
            hand_is = begun.free;
            keeps = keeps_at worker_state.shard sizes worker_state.ends.number s new.number_is begun.keeps;
          };
      each_wire = λ c s seat worker_state at at'.
          let near = (channels.each_seat c seat at).unused in
          let far = (channels.each_shard s worker_state.ends (worker_state_ends s worker_state at')).unused in
          record {
            pieces_wait =
                unused_list (λ (end : Near). end.past.sent) seat.channels s (λ end is. is.sent) near
                ∙ sym (ap (λ xs. xs ++ [])
                (unused_list (λ (end : Far). end.past.received) worker_state.ends.channels c (λ end is. is.received)
                far));
            replies_wait =
                unused_list (λ (end : Far). end.past.sent) worker_state.ends.channels c (λ end is. is.sent) far
                ∙ sym (ap (λ xs. xs ++ [])
                (unused_list (λ (end : Near). end.past.received) seat.channels s (λ end is. is.received) near));
          };
    }
