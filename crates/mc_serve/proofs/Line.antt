-- The log of one connection, taken from the logs of the shards.
use Rattle.std.proofs.Common.{◌≡◌, ℕ, ◌==◌, inl, inr, Bool, true, false, cond, List, [], ◌∷◌, map}
use Rattle.std.proofs.Common.{refl, sym, ap, ◌∙◌}
use Rattle.std.specs.List.{AllByRecursion}
use Rattle.std.specs.Prelude.{filter}
use Rattle.std.proofs.lemmas.Bool.Decides.{eqb_tells}
use Rattle.mc_conn.specs.Due as due
use Rattle.mc_conn.specs.Due.{Ran}
use Rattle.mc_model.specs.Log.{Entry, of_asker, on_shard}
use Rattle.mc_model.proofs.Alone.{ran_of}

-- the log of a connection, from the operations that were run
abbrev pub entry_for : ℕ → Ran → Entry
entry_for asker ran = record { shard = ran.shard; asker = asker; piece = ran.piece; answer = ran.answer }

-- A log of one asker's operations doesn't change if the asker is left out and added again.
pub same_asker : (asker : ℕ) (log : List Entry) → AllByRecursion (λ entry. entry.asker ≡ asker) log
    → map (entry_for asker) (map ran_of log) ≡ log
same_asker asker [] all = refl
same_asker asker (entry ∷ log) all =
    let this : entry_for asker (ran_of entry) ≡ entry =
    λ i. record { shard = entry.shard; asker = sym all.0 i; piece = entry.piece; answer = entry.answer } in
    ap (λ e. e ∷ map (entry_for asker) (map ran_of log)) this ∙ ap (λ es. entry ∷ es) (same_asker asker log all.1)

-- All entries that `of_asker` picks have that asker.
pub asked_by : (asker : ℕ) (log : List Entry) → AllByRecursion (λ entry. entry.asker ≡ asker) (of_asker asker log)
asked_by asker [] = tt
asked_by asker (entry ∷ log) = elim (eqb_tells entry.asker asker) [
  | inl same ↦ rw same.0 (same.1, asked_by asker log)
  | inr other ↦ rw other.0 (asked_by asker log)
]

-- All entries that `on_shard` picks are of that shard.
pub shard_of : (shard : ℕ) (log : List Entry) → AllByRecursion (λ entry. entry.shard ≡ shard) (on_shard shard log)
shard_of shard [] = tt
shard_of shard (entry ∷ log) = elim (eqb_tells entry.shard shard) [
  | inl same ↦ rw same.0 (same.1, shard_of shard log)
  | inr other ↦ rw other.0 (shard_of shard log)
]

-- What is true of all entries of a log is true of those that are picked from it.
pub filter_keeps : (P : Entry → Type 0) (p : Entry → Bool) (log : List Entry) → AllByRecursion P log
    → AllByRecursion P (filter p log)
filter_keeps P p [] all = tt
filter_keeps P p (entry ∷ log) all =
    elim (p entry) as (λ b. AllByRecursion P (cond b (entry ∷ filter p log) (filter p log))) [
      | true ↦ (all.0, filter_keeps P p log all.1)
      | false ↦ filter_keeps P p log all.1
    ]

-- To pick a shard's entries commutes with adding the asker.
pub map_on_shard : (shard asker : ℕ) (ran : List Ran) → on_shard shard (map (entry_for asker) ran)
    ≡ map (entry_for asker) (due.on_shard shard ran)
map_on_shard shard asker [] = refl
map_on_shard shard asker (one ∷ ran) =
    elim (one.shard == shard) as
    (λ b. cond b (entry_for asker one ∷ on_shard shard (map (entry_for asker) ran))
    (on_shard shard (map (entry_for asker) ran))
    ≡ map (entry_for asker) (cond b (one ∷ due.on_shard shard ran) (due.on_shard shard ran))) [
      | true ↦ ap (λ es. entry_for asker one ∷ es) (map_on_shard shard asker ran)
      | false ↦ map_on_shard shard asker ran
    ]

-- All operations that `on_shard` picks are of that shard, also without askers.
pub ran_shards : (shard : ℕ) (log : List Entry) → AllByRecursion (λ entry. entry.shard ≡ shard) log
    → AllByRecursion (λ (ran : Ran). ran.shard ≡ shard) (map ran_of log)
ran_shards shard [] all = tt
ran_shards shard (entry ∷ log) all = (all.0, ran_shards shard log all.1)
