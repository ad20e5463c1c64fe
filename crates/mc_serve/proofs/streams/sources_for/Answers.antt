-- One source more, which is new, of the same history, and detects other protocols by memcached's rules.
use Rattle.std.proofs.Common.{◌≡◌, List, [], ◌∷◌, ◌++◌, ◌∙◌, ap, append-nil, map, subst, sym}
use Rattle.std.specs.List.{AllByRecursion}
use Rattle.std.specs.Vec.Iter.{into_iter_items}
use Rattle.mc_command.specs.Rules.{is_drop_in}
use Rattle.mc_sizes.specs.Sizes.{rules_of}
use Rattle.mc_net.specs.Tcp.{new_source, flow_source}
use Rattle.mc_serve.proofs.Connections.{note_more}
use Rattle.mc_serve.proofs.Zipped.{empty_when}
use Rattle.mc_serve.proofs.streams.sources_for.Goals as goal

appended : {X : Type 0} (P : X → Type 0) (xs : List X) (x : X) → AllByRecursion P xs → P x
    → AllByRecursion P (xs ++ x ∷ [])
appended P [] x all this = (this, tt)
appended P (y ∷ xs) x all this = (all.0, appended P xs x all.1 this)

one_more : {X : Type 0} (P : X → Type 0) (xs ys : List X) (x : X) → ys ≡ xs ++ x ∷ [] → AllByRecursion P xs → P x
    → AllByRecursion P ys
one_more P xs ys x are all this = subst (AllByRecursion P) (sym are) (appended P xs x all this)

pub loop-one-preserved : goal.loop-one-preserved
loop-one-preserved g c =
    let was = c.loop-one.invariant in
    record {
      flow =
          note_more (λ source. flow_source (g.A.Arrivals.coming source.arrivals) source.out source.gone.items
          source.is_over) (λ one. new_source g.A.Stream.Stream.remaining g.A.Stream.Stream.contents
          (g.A.Arrivals.coming one))
          c.loop-one.sources.items c.push.new.self.items c.new.result c.in-Some.one _ _ _ c.in_ok-push.ensures.items
          c.new.ensures.flow c.in-Some.ensures.steps.0 was.flow;
      opening = c.show-history.ensures.same ∙ was.opening;
      history =
          one_more (λ source. source.history.name ≡ c.args.opening.now.witness.name) c.loop-one.sources.items
          c.push.new.self.items c.new.result c.in_ok-push.ensures.items was.history
          (c.new.ensures.history
          ∙ (c.show-history.ensures.name ∙ ap (λ opening. opening.witness.name) was.opening));
      sniffs_protocol = was.sniffs_protocol;
      sniff_protocol =
          one_more (λ source. source.sniffs_protocol ≡ is_drop_in (rules_of c.args.sizes)) c.loop-one.sources.items
          c.push.new.self.items c.new.result c.in_ok-push.ensures.items was.sniff_protocol
          (c.new.ensures.sniff_protocol ∙ was.sniffs_protocol);
    }

pub returns-clause-flow : goal.returns-clause-flow
returns-clause-flow g c =
    let was = c.loop-one.invariant in
    let none : into_iter_items c.loop-one.one-iterator ≡ [] =
    empty_when _ (sym c.loop-one.one-iterator.rest.ok.0 ∙ c.in-None.ensures.steps.0) in
    sym (append-nil _) ∙ (ap (λ arrivals. map (λ source. flow_source (g.A.Arrivals.coming source.arrivals) source.out
    source.gone.items source.is_over) c.loop-one.sources.items
    ++ map (λ one. new_source g.A.Stream.Stream.remaining g.A.Stream.Stream.contents (g.A.Arrivals.coming one))
    arrivals) (sym none) ∙ was.flow)
