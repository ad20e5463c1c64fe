-- A name that is none of the five is that of no event.
use Rattle.std.proofs.Common.{◌≡◌, ℕ, List, None, codes, arith}
use Rattle.std.proofs.lemmas.Slice.Eq.{bytes_eq-Decides}
use Rattle.mc_replay.specs.Event.{seat_event}
use Rattle.mc_replay.proofs.event.seat_event.Goals as goal

-- none of these words names the event
unnamed : (name : List ℕ) (seat : ℕ) → (name ≡ codes "open" → ⊥) → (name ≡ codes "send" → ⊥) → (name ≡ codes "hand" → ⊥)
    → (name ≡ codes "end" → ⊥) → (name ≡ codes "break" → ⊥)
    → None ≡ seat_event name seat
unnamed name seat opens sends hands ends breaks = grind (arith, bytes_eq-Decides)

pub returns-in_default : goal.returns-in_default
returns-in_default c =
    unnamed c.args.name.now c.args.seat (λ is. grind arith) (λ is. grind arith) (λ is. grind arith) (λ is. grind arith)
    (λ is. grind arith)
