-- A log that grows by one entry.
use Rattle.std.proofs.Common.{◌≡◌, ◌≢◌, ℕ, ◌+◌, ◌<◌, ◌≤◌, ◌==◌, ◌⊎◌, inl, inr, cond, List, [], ◌∷◌, ◌++◌, length, refl}
use Rattle.std.proofs.Common.{ap, ◌∙◌, arith, length-append, append-nil, eq-eqb, ne_eqb}
use Rattle.std.specs.List.{AllByRecursion}
use Rattle.std.proofs.lemmas.Bool.Decides.{eqb_tells}
use Rattle.std.proofs.lemmas.List.Elements.{filter-append}
use Rattle.mc_store.specs.State.{State}
use Rattle.mc_store.specs.Step.{IsStep}
use Rattle.mc_model.specs.Log.{Entry, Run, of_asker, on_shard}

-- What a shard may do, and then one more step of the protocol, is something that it may do.
pub Run-push : (old : State) (log : List Entry) (mid new : State) (entry : Entry) → Run old log mid
    → IsStep mid entry.piece.op entry.piece.moment entry.answer new → Run old (log ++ entry ∷ []) new
Run-push old [] mid new entry run step = (new, rw (← run) step, refl)
Run-push old (e ∷ log) mid new entry run step = (run.0, run.1, Run-push run.0 log mid new entry run.2 step)

-- An entry of the shard that is appended to a log is the last one of those of the shard.
pub on_shard-yes : (shard : ℕ) (log : List Entry) (entry : Entry) → entry.shard ≡ shard
    → on_shard shard (log ++ entry ∷ []) ≡ on_shard shard log ++ entry ∷ []
on_shard-yes shard log entry same =
    filter-append (λ (e : Entry). e.shard == shard) log (entry ∷ [])
    ∙ ap (λ b. on_shard shard log ++ cond b (entry ∷ []) []) (eq-eqb entry.shard shard same)

-- An entry of another shard that is added to a log leaves what the shard did as it was.
pub on_shard-no : (shard : ℕ) (log : List Entry) (entry : Entry) → entry.shard ≢ shard
    → on_shard shard (log ++ entry ∷ []) ≡ on_shard shard log
on_shard-no shard log entry other =
    filter-append (λ (e : Entry). e.shard == shard) log (entry ∷ [])
    ∙ (ap (λ b. on_shard shard log ++ cond b (entry ∷ []) []) (ne_eqb entry.shard shard other)
    ∙ append-nil (on_shard shard log))

-- An entry for the connection that is appended to a log is the last one of those for the connection.
pub of_asker-yes : (k : ℕ) (log : List Entry) (entry : Entry) → entry.asker ≡ k → of_asker k (log ++ entry ∷ [])
    ≡ of_asker k log ++ entry ∷ []
of_asker-yes k log entry same =
    filter-append (λ (e : Entry). e.asker == k) log (entry ∷ [])
    ∙ ap (λ b. of_asker k log ++ cond b (entry ∷ []) []) (eq-eqb entry.asker k same)

-- An entry for another connection that is added to a log leaves what was done for this one as it was.
pub of_asker-no : (k : ℕ) (log : List Entry) (entry : Entry) → entry.asker ≢ k → of_asker k (log ++ entry ∷ [])
    ≡ of_asker k log
of_asker-no k log entry other =
    filter-append (λ (e : Entry). e.asker == k) log (entry ∷ [])
    ∙ (ap (λ b. of_asker k log ++ cond b (entry ∷ []) []) (ne_eqb entry.asker k other) ∙ append-nil (of_asker k log))

-- how many a shard ran for a connection: one more of this entry's, and no more of others
pub ran_push : (log : List Entry) (entry : Entry) (k s : ℕ) →
    ((entry.asker ≡ k) × (entry.shard ≡ s)
    × (length (on_shard s (of_asker k (log ++ entry ∷ []))) ≡ length (on_shard s (of_asker k log)) + 1))
    ⊎ (length (on_shard s (of_asker k (log ++ entry ∷ []))) ≡ length (on_shard s (of_asker k log)))
ran_push log entry k s = elim (eqb_tells entry.asker k) [
  | inr other ↦ inr (ap (λ es. length (on_shard s es)) (of_asker-no k log entry other.1))
  | inl mine ↦ elim (eqb_tells entry.shard s) [
    | inl here ↦ inl (
      mine.1,
      here.1,
      ap (λ es. length (on_shard s es)) (of_asker-yes k log entry mine.1)
          ∙ (ap length (on_shard-yes s (of_asker k log) entry here.1)
          ∙ length-append (on_shard s (of_asker k log)) (entry ∷ [])),
    )
    | inr there ↦ inr (ap (λ es. length (on_shard s es)) (of_asker-yes k log entry mine.1)
        ∙ ap length (on_shard-no s (of_asker k log) entry there.1))
  ]
]

-- what was never asked isn't in the log
pub none_of : (P : Entry → Type 0) (count k : ℕ) (log : List Entry)
    → AllByRecursion (λ entry. P entry × (entry.asker < count)) log → count ≤ k → of_asker k log ≡ []
none_of P count k [] all beyond = refl
none_of P count k (entry ∷ log) all beyond =
    let below = all.0.1 in
    let other : entry.asker ≢ k = λ e. absurd (omega (arith, e, below, beyond)) in
    ap (λ b. cond b (entry ∷ of_asker k log) (of_asker k log)) (ne_eqb entry.asker k other)
    ∙ none_of P count k log all.1 beyond
