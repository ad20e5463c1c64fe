-- The connections of one source more are counted and listed.
use Rattle.std.proofs.Common.{◌≡◌, ◌≤◌, ◌+◌, ◌-◌, ◌^◌, ◌++◌, ◌∙◌, ℕ, Bool, List, Option, [], ◌∷◌, ap, append-nil}
use Rattle.std.proofs.Common.{length, map, min, refl, sym, arith}
use Rattle.std.specs.Vec.Iter.{into_iter_items}
use Rattle.std.proofs.lemmas.List.{length-map}
use Rattle.mc_wire.specs.Sink.{Sight}
use Rattle.mc_transport.specs.Explains.{LineFlow}
use Rattle.mc_net.specs.Flow.{SourceFlow, TellsLines}
use Rattle.mc_net.specs.Tcp.{gone_count, gone_line, flow_source}
use Rattle.mc_serve.proofs.Connections.{count_all, count_more, note_more}
use Rattle.mc_serve.proofs.Zipped.{empty_when}
use Rattle.mc_serve.proofs.streams.gather.Goals as goal

-- the lesser of two is at most the second
at_most : (n sum most : ℕ) → n ≡ min sum most → n ≤ most
at_most n sum most is = omega (arith, is)

-- none is counted yet
none_yet : (left all most : ℕ) → left ≡ all → min (0 + left) most ≡ min all most
none_yet left all most same = omega (arith, same)

pub loop-source-init : goal.loop-source-init
loop-source-init g c =
    let all = c.into_iter-source-iterator.ensures.into_iter_gives.0 in
    record {
      within = at_most _ 0 _ refl;
      counted =
          none_yet _ _ _ (ap (λ sources. gone_count
          (map (λ source. flow_source (g.A.Arrivals.coming source.arrivals) source.out source.gone.items source.is_over)
          sources)) all);
      listed = rw c.new-seats.ensures (ap (map (λ source. source.gone.items)) all);
    }

-- The connections of one source more are counted.
count_source : {D : Type 0} (f : D → SourceFlow) (ended next one gone : ℕ) (source : D) (iter rest : List D)
    (coming : Option (List Sight)) (out : Option Sight) (back : List LineFlow)
    (over : Bool) (all : ℕ) → next ≡ min (ended + one) (2 ^ 64 - 1) → one ≡ min gone (2 ^ 64 - 1) → iter ≡ source ∷ rest
    → f source ≡ TellsLines coming out back over
    → length back ≡ gone → min (ended + gone_count (map f iter)) (2 ^ 64 - 1) ≡ all
    → min (next + gone_count (map f rest)) (2 ^ 64 - 1) ≡ all
count_source f ended next one gone source iter rest coming out back over all next_is one_is step is len same =
    let left : gone_count (map f iter) ≡ gone + gone_count (map f rest) =
    ap (λ sources. gone_count (map f sources)) step
    ∙ (ap (λ flow. gone_count (flow ∷ map f rest)) is ∙ ap (λ n. n + gone_count (map f rest)) len)
    in
    count_more ended next one gone (gone_count (map f rest)) (gone_count (map f iter)) all next_is one_is left same

pub loop-source-preserved : goal.loop-source-preserved
loop-source-preserved g c =
    let was = c.loop-source.invariant in
    let source = c.in-Some.source in
    let next = c.saturating_add-ended.ensures in
    let step = c.in-Some.ensures.steps.0 in
    record {
      within = at_most _ _ _ next;
      counted =
          count_source (λ source. flow_source (g.A.Arrivals.coming source.arrivals) source.out source.gone.items
          source.is_over)
          c.loop-source.ended _ source.ended (length source.gone.items) source _ _ _ _ _ _ _ next source.counted step
          refl
          (length-map source.gone.items (λ one. gone_line one.0)) was.counted;
      listed =
          note_more (λ seat. seat.0.items) (λ source. source.gone.items) c.loop-source.seats.items _ _ source _ _ _
          c.and-seats.ensures refl step was.listed;
    }

pub returns-clause-gone : goal.returns-clause-gone
returns-clause-gone g c =
    let was = c.loop-source.invariant in
    let none : into_iter_items c.loop-source.source-iterator ≡ [] =
    empty_when _ (sym c.loop-source.source-iterator.rest.ok.0 ∙ c.in-None.ensures.steps.0) in (
      count_all c.loop-source.ended _ _ was.within
          (ap (λ sources. gone_count
          (map (λ source. flow_source (g.A.Arrivals.coming source.arrivals) source.out source.gone.items source.is_over)
          sources)) none) was.counted,
      sym (append-nil _) ∙ (ap
          (λ sources. map (λ seat. seat.0.items) c.loop-source.seats.items ++ map (λ source. source.gone.items) sources)
          (sym none) ∙ was.listed),
    )
