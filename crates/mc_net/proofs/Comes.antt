-- The history of a source when a stream is accepted, and when its connection is returned.
use Rattle.std.proofs.Common.{◌≡◌, ℕ, Bool, true, List, [], ◌∷◌, Option, Some, None, refl, sym, ap, ◌∙◌}
use Rattle.mc_wire.specs.Sink.{Sight}
use Rattle.mc_transport.specs.Explains.{LineFlow}
use Rattle.mc_net.specs.Flow.{IsDone, IsNext, TellsLines, closed, let_in}
use Rattle.mc_net.specs.Arrivals.{ComesNext, NoneComes}
use Rattle.mc_net.specs.Tcp.{new_line, new_lines}

-- A connection is the next to come by the source where its stream was the next to come.
pub next_comes : {S : Type 0} (remaining contents : S → Option (List ℕ)) (stream : S) (line : Sight)
    (old after : Option (List S)) (out : Option Sight) (back : List LineFlow) (over : Bool)
    → line ≡ new_line (remaining stream) (contents stream) → ComesNext stream old after
    → IsNext line (TellsLines (new_lines remaining contents old) out back over)
    × (TellsLines (new_lines remaining contents after) (Some line) back over
    ≡ let_in line (TellsLines (new_lines remaining contents old) out back over))
next_comes remaining contents stream line None after out back over is next =
    (tt, ap (λ coming. TellsLines (new_lines remaining contents coming) (Some line) back over) next)
next_comes remaining contents stream line (Some []) after out back over is next = absurd next
next_comes remaining contents stream line (Some (first ∷ streams)) after out back over is next = (
  ap (λ one. new_line (remaining one) (contents one)) next.0 ∙ sym is,
  ap (λ coming. TellsLines (new_lines remaining contents coming) (Some line) back over) next.1,
)

-- No more connections come where no more streams do.
pub none_comes : {S : Type 0} (remaining contents : S → Option (List ℕ)) (old after : Option (List S))
    (out : Option Sight) (back : List LineFlow) (over : Bool)
    → after ≡ old → NoneComes old
    → (TellsLines (new_lines remaining contents after) out back true
    ≡ closed (TellsLines (new_lines remaining contents old) out back over))
    × IsDone (TellsLines (new_lines remaining contents old) out back over)
none_comes remaining contents None after out back over same none =
    (ap (λ coming. TellsLines (new_lines remaining contents coming) out back true) same, tt)
none_comes remaining contents (Some []) after out back over same none =
    (ap (λ coming. TellsLines (new_lines remaining contents coming) out back true) same, refl)
none_comes remaining contents (Some (stream ∷ streams)) after out back over same none = absurd (cc)
