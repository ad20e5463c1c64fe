-- What each shard did, by its part of the log: nothing yet, or one piece more.
use Rattle.std.proofs.Common.{◌≡◌, inl, inr, List, [], ◌∷◌, ◌++◌, length, set, Some, refl, sym, arith}
use Rattle.std.specs.List.{slice_get}
use Rattle.mc_sizes.specs.declared.sizes.Sizes.{Sizes}
use Rattle.mc_store.specs.declared.shard.Shard.{Shard}
use Rattle.mc_store.specs.Shard.{IsShard, Steps}
use Rattle.mc_model.specs.Sized.{empty_shard}
use Rattle.mc_model.specs.Log.{Entry, IsLawful, on_shard}
use Rattle.mc_model.proofs.Lists.{push_cases, set_cases}
use Rattle.mc_model.proofs.Logs.{Run-push, on_shard-no, on_shard-yes}
use Rattle.mc_server.specs.internal.Answering.{Backs}
use Rattle.mc_ring.proofs.Lists.{get_below}

-- Without shards, and with nothing run, each shard is what its part of the log leads to.
pub Backs-none : (sizes : Sizes) → Backs sizes [] []
Backs-none sizes shard kept found = absurd cc

-- one shard more
pub Backs-new : (sizes : Sizes) (shards : List Shard) (shard : Shard) → Backs sizes shards []
    → IsShard shard (empty_shard sizes (length shards)) → Backs sizes (shards ++ shard ∷ []) []
Backs-new sizes shards shard backs new place kept found = elim (push_cases shards shard place kept found) [
  | inl old ↦ backs place kept old
  | inr last ↦ (empty_shard sizes place, refl, rw (last.1, last.0) new)
]

-- a shard ran a piece
pub Backs-push : (sizes : Sizes) (shards : List Shard) (log : List Entry) (old new : Shard) (entry : Entry)
    → slice_get shards entry.shard ≡ Some old → Backs sizes shards log
    → Steps old entry.piece.op entry.piece.moment entry.answer new
    → Backs sizes (set shards entry.shard new) (log ++ entry ∷ [])
Backs-push sizes shards log old new entry got backs steps shard kept found =
    elim (set_cases shards entry.shard new shard kept found) [
      | inl here ↦
          let was = backs shard old (rw here.0 got) in
          let now = steps was.0 was.2 in (
            now.0,
            rw (on_shard-yes shard log entry (sym here.0))
                (Run-push (empty_shard sizes shard) (on_shard shard log) was.0 now.0 entry was.1 now.1),
            rw here.1 now.2,
          )
      | inr there ↦
          let was = backs shard kept there.1 in
          (was.0, rw (on_shard-no shard log entry (λ e. there.0 (sym e))) was.1, was.2)
    ]

-- what all shards together did is lawful
pub lawful : (sizes : Sizes) (shards : List Shard) (log : List Entry) → length shards ≡ sizes.shards
    → Backs sizes shards log → IsLawful sizes log
lawful sizes shards log count backs shard below =
    let kept = get_below shards shard (omega (arith, below, count)) in
    let is = backs shard kept.0 kept.1 in
    (is.0, is.1)
