-- One source more, with the next line.
use Rattle.std.proofs.Common.{◌≡◌, ◌∙◌, [], ◌++◌, ap, append-nil, map, sym}
use Rattle.std.specs.Vec.Iter.{into_iter_items}
use Rattle.mc_transport.specs.Place.{unbegun}
use Rattle.mc_net.specs.One.{flow_of, waits}
use Rattle.mc_session.proofs.Orders.{all_first, all_more, all_rest}
use Rattle.mc_serve.proofs.Connections.{note_more}
use Rattle.mc_serve.proofs.Zipped.{empty_when}
use Rattle.mc_serve.proofs.over.sources_for.Goals as goal

pub loop-line-init : goal.loop-line-init
loop-line-init g c =
    let all = c.into_iter-line-iterator.ensures.into_iter_gives.0 in
    record {
      flow = rw c.in_ok-sources.ensures.items (ap (map (λ line. waits (g.L.Transport.sight line))) all);
      new = rw all c.requires;
      history = rw c.in_ok-sources.ensures.items tt;
    }

pub new-requires : goal.new-requires
new-requires g c =
    all_first (λ line. g.L.Transport.place line ≡ unbegun c.args.history.now.name) _ c.in-Some.line _
    c.in-Some.ensures.steps.0
    c.loop-line.invariant.new

pub loop-line-preserved : goal.loop-line-preserved
loop-line-preserved g c =
    let was = c.loop-line.invariant in
    let step = c.in-Some.ensures.steps.0 in
    record {
      flow =
          note_more (λ source. flow_of (λ line. g.L.Transport.sight line) source)
          (λ line. waits (g.L.Transport.sight line)) c.loop-line.sources.items c.push.new.self.items c.new.result
          c.in-Some.line _ _ _ c.in_ok-push.ensures.items c.new.ensures.flow step was.flow;
      new =
          all_rest (λ line. g.L.Transport.place line ≡ unbegun c.args.history.now.name) _ c.in-Some.line _ step was.new;
      history =
          all_more (λ source. source.history.value.name ≡ c.args.history.now.name) c.loop-line.sources.items
          c.push.new.self.items c.new.result c.in_ok-push.ensures.items was.history c.new.ensures.history;
    }

pub returns-clause-flow : goal.returns-clause-flow
returns-clause-flow g c =
    let was = c.loop-line.invariant in
    let none : into_iter_items c.loop-line.line-iterator ≡ [] =
    empty_when _ (sym c.loop-line.line-iterator.rest.ok.0 ∙ c.in-None.ensures.steps.0) in
    sym (append-nil _) ∙ (ap (λ lines. map (λ source. flow_of (λ line. g.L.Transport.sight line) source)
    c.loop-line.sources.items ++ map (λ line. waits (g.L.Transport.sight line)) lines) (sym none) ∙ was.flow)
