-- The connections of a slot, one after another.
use Rattle.std.proofs.Common.{◌≡◌, ℕ, Bool, List, [], ◌∷◌, ◌++◌, map, Option, Some, None, refl, sym, ap, subst}
use Rattle.std.proofs.Common.{◌∙◌, append_assoc, append-nil}
use Rattle.mc_wire.specs.Sink.{Sight}
use Rattle.mc_ring.specs.Channel.{Near}
use Rattle.mc_ring.specs.Ends.{AreSameEnds, Ends}
use Rattle.mc_ring.specs.EndsLaws.{same_ends-refl, same_ends-trans}
use Rattle.mc_transport.specs.Explains.{LineFlow}
use Rattle.mc_session.proofs.Orders.{map_one}
use Rattle.mc_net.specs.Flow.{Comes, SourceFlow, IsFree, IsNext, Passes, TellsLines, TellsNothing, later, let_in}
use Rattle.mc_net.specs.Flow.{took_back}
use Rattle.mc_serve.specs.Seats.{SeatAt, ServesSourceLine, ServesLines}
use Rattle.mc_command.specs.declared.rules.Rules.{Rules}

-- A source that is unchanged has accepted and taken back no connection.
pub passes_none : (source : SourceFlow) → Passes source [] source
passes_none TellsNothing = refl
passes_none (TellsLines None out back over) =
    (None, refl, ap (λ lines. TellsLines None out lines over) (sym (append-nil back)))
passes_none (TellsLines (Some coming) out back over) =
    (Some coming, (coming, refl, refl), ap (λ lines. TellsLines (Some coming) out lines over) (sym (append-nil back)))

come_left : (line : LineFlow) (lines : List LineFlow) (before left : List Sight) (out : Option Sight)
    (back : List LineFlow) (over : Bool) → before ≡ map (λ (l : LineFlow). l.begin) lines ++ left
    → IsNext line.begin (TellsLines (Some left) out back over)
    → Comes (Some before) (map (λ (l : LineFlow). l.begin) (lines ++ line ∷ [])) (later (Some left))
come_left line lines before [] out back over is next = absurd next
come_left line lines before (x ∷ left) out back over is next =
    let begins = map (λ (l : LineFlow). l.begin) lines in (
      left,
      is ∙ (ap (λ y. begins ++ y ∷ left) next
          ∙ (sym (append_assoc begins (line.begin ∷ []) left)
          ∙ ap (λ ys. ys ++ left) (sym (map_one (λ (l : LineFlow). l.begin) lines line)))),
      refl,
    )

come_more : (line : LineFlow) (lines : List LineFlow) (coming rest : Option (List Sight)) (out : Option Sight)
    (back : List LineFlow) (over : Bool) → Comes coming (map (λ (l : LineFlow). l.begin) lines) rest
    → IsNext line.begin (TellsLines rest out back over)
    → Comes coming (map (λ (l : LineFlow). l.begin) (lines ++ line ∷ [])) (later rest)
come_more line lines None rest out back over comes next = ap later comes
come_more line lines (Some before) rest out back over comes next =
    let P : Option (List Sight) → Type 0 = λ xs. IsNext line.begin (TellsLines xs out back over) in
    let Q : Option (List Sight) → Type 0 =
    λ xs. Comes (Some before) (map (λ (l : LineFlow). l.begin) (lines ++ line ∷ [])) (later xs) in
    subst Q (sym comes.2) (come_left line lines before comes.0 out back over comes.1 (subst P comes.2 next))

-- One more connection was accepted and taken back.
pub passes_more : (first now accepted last : SourceFlow) (lines : List LineFlow) (line : LineFlow) → IsFree first
    → Passes first lines now → IsNext line.begin now → accepted ≡ let_in line.begin now → last
    ≡ took_back line.now line.commands line.broke accepted → Passes first (lines ++ line ∷ []) last
passes_more TellsNothing now accepted last lines line free passes next came back =
    back ∙ (ap (λ source. took_back line.now line.commands line.broke source) came
    ∙ ap (λ source. took_back line.now line.commands line.broke (let_in line.begin source)) passes)
passes_more (TellsLines coming out flow over) now accepted last lines line free passes next came back =
    let P : SourceFlow → Type 0 = λ source. IsNext line.begin source in
    let rest = passes.0 in
    let took : last ≡ TellsLines (later rest) None ((flow ++ lines) ++ line ∷ []) over =
    back ∙ (ap (λ source. took_back line.now line.commands line.broke source) came
    ∙ ap (λ source. took_back line.now line.commands line.broke (let_in line.begin source)) passes.2) in (
      later rest,
      come_more line lines coming rest out (flow ++ lines) over passes.1 (subst P passes.2 next),
      took ∙ (ap (λ one. TellsLines (later rest) one ((flow ++ lines) ++ line ∷ []) over) (sym free)
          ∙ ap (λ all. TellsLines (later rest) out all over) (append_assoc flow lines (line ∷ []))),
    )

module _ (shards : ℕ) (rules : Rules) (may_answer : ℕ → Type 0) where
  -- A slot keeps its ends while it serves connections.
  pub lines_same : (lines : List LineFlow) (before after : Ends Near)
      → ServesLines shards rules may_answer lines before after → AreSameEnds before after
  lines_same [] before after are = let P : Ends Near → Type 0 =
      λ ends. AreSameEnds before ends in subst P (sym are) (same_ends-refl before)
  lines_same (line ∷ lines) before after are =
      same_ends-trans before are.0 after are.1.served.exchanges.same (lines_same lines are.0 after are.2)

  pub lines_more : (lines : List LineFlow) (line : LineFlow) (first now last : Ends Near)
      → ServesLines shards rules may_answer lines first now → ServesSourceLine shards rules may_answer line now last
      → ServesLines shards rules may_answer (lines ++ line ∷ []) first last
  lines_more [] line first now last are this = let P : Ends Near → Type 0 =
      λ ends. ServesSourceLine shards rules may_answer line ends last in (last, subst P are this, refl)
  lines_more (l ∷ lines) line first now last are this = (are.0, are.1, lines_more lines line are.0 now last are.2 this)

  -- The connections of a slot, with one more that was served.
  pub record OneMore (was at_end : SeatAt) : Type 0 where
    pub lines : List LineFlow
    pub source : Passes was.source lines at_end.source
    pub lines_are : ServesLines shards rules may_answer lines was.ends at_end.ends

  -- A connection that is served after those before it, and then taken back, is one more that the slot served.
  pub one_more : (was at_end : SeatAt) (lines : List LineFlow) (line : LineFlow) (before source : SourceFlow)
      (ends : Ends Near) → IsFree was.source → Passes was.source lines before
      → IsNext line.begin before → source ≡ let_in line.begin before
      → at_end.source ≡ took_back line.now line.commands line.broke source
      → ServesLines shards rules may_answer lines was.ends ends
      → ServesSourceLine shards rules may_answer line ends at_end.ends → OneMore was at_end
  one_more was at_end lines line before source ends free passed next came back are this = record {
    lines = lines ++ line ∷ [];
    source = passes_more was.source before source at_end.source lines line free passed next came back;
    lines_are = lines_more lines line was.ends ends at_end.ends are this;
  }
