-- A lawful history grows, and what may follow what was seen may follow all that happened.
use Rattle.std.proofs.Common.{◌≡◌, ℕ, ◌+◌, List, [], ◌∷◌, ◌++◌, length, Some, sym, ap, subst, ◌∙◌, append-nil}
use Rattle.std.proofs.Common.{append_assoc, length-append}
use Rattle.std.specs.List.{slice_get}
use Rattle.mc_sizes.specs.declared.sizes.Sizes.{Sizes}
use Rattle.mc_split.specs.declared.plan.Piece.{Piece}
use Rattle.mc_conn.specs.Due.{due, channel, pieces_from}
use Rattle.mc_conn.proofs.Fitting.{due-append}
use Rattle.mc_conn.proofs.Gets.{get_front}
use Rattle.mc_model.specs.Grows.{Lengthens}
use Rattle.mc_history.specs.declared.event.Event.{Event}
use Rattle.mc_history.specs.Worlds.{seats_in, seats_of, taken_in, taken_of}
use Rattle.mc_history.specs.Lawful.{IsHistory, MayAllFollow, MayFollow}
use Rattle.mc_history.proofs.Lists.{lengthens_picked, picked_push}

follow_join : (sizes : Sizes) (past one other : List Event) → MayAllFollow sizes past one
    → MayAllFollow sizes (past ++ one) other → MayAllFollow sizes past (one ++ other)
follow_join sizes past [] other first second = subst (λ p. MayAllFollow sizes p other) (append-nil past) second
follow_join sizes past (event ∷ one) other first second = (
  first.0,
  follow_join sizes (past ++ event ∷ []) one other first.1
      (subst (λ p. MayAllFollow sizes p other) (sym (append_assoc past (event ∷ []) one)) second),
)

-- A lawful history with events that may follow it, one after another, is lawful.
pub history_join : (sizes : Sizes) (history events : List Event) → IsHistory sizes history
    → MayAllFollow sizes history events → IsHistory sizes (history ++ events)
history_join sizes history events lawful all = follow_join sizes [] history events lawful all

-- What begins with lawful events begins lawfully.
pub follow_front : (sizes : Sizes) (past one other : List Event) → MayAllFollow sizes past (one ++ other)
    → MayAllFollow sizes past one
follow_front sizes past [] other all = tt
follow_front sizes past (event ∷ one) other all = (all.0, follow_front sizes (past ++ event ∷ []) one other all.1)

-- And what comes behind them may follow them.
pub follow_back : (sizes : Sizes) (past one other : List Event) → MayAllFollow sizes past (one ++ other)
    → MayAllFollow sizes (past ++ one) other
follow_back sizes past [] other all = subst (λ p. MayAllFollow sizes p other) (sym (append-nil past)) all
follow_back sizes past (event ∷ one) other all =
    subst (λ p. MayAllFollow sizes p other) (append_assoc past (event ∷ []) one)
    (follow_back sizes (past ++ event ∷ []) one other all.1)

-- What holds of the empty history, and is kept by each event that may follow, holds of each lawful history.
pub holds_of_all : (sizes : Sizes) (P : List Event → Type 0)
    → ((past : List Event) (event : Event) → P past → MayFollow sizes past event → P (past ++ event ∷ []))
    → (past later : List Event) → P past → MayAllFollow sizes past later → P (past ++ later)
holds_of_all sizes P step past [] was all = subst P (sym (append-nil past)) was
holds_of_all sizes P step past (event ∷ later) was all =
    subst P (append_assoc past (event ∷ []) later)
    (holds_of_all sizes P step (past ++ event ∷ []) later (step past event was all.0) all.1)

-- how many connections were opened, with one event more
pub seats_push : (past : List Event) (event : Event) → length (seats_in (past ++ event ∷ []))
    ≡ length (seats_in past) + length (seats_of event)
seats_push past event = ap length (picked_push seats_of past event) ∙ length-append (seats_in past) (seats_of event)

-- A piece that is due by what was seen is due, at the same place, by all that happened.
pub due_stays : (shards s k n : ℕ) (seen history : List Event) (piece : Piece) → Lengthens seen history
    → slice_get (due shards s (taken_in k seen)) n ≡ Some piece → slice_get (due shards s (taken_in k history)) n
    ≡ Some piece
due_stays shards s k n seen history piece more next =
    let taken = lengthens_picked (taken_of k) seen history more in
    let after = channel s (pieces_from shards (0 + length (taken_in k seen)) taken.0) in
    let dues : due shards s (taken_in k history) ≡ due shards s (taken_in k seen) ++ after =
    ap (λ ts. due shards s ts) taken.1 ∙ due-append shards s (taken_in k seen) taken.0 in
    ap (λ ps. slice_get ps n) dues ∙ get_front (due shards s (taken_in k seen)) after n piece next
