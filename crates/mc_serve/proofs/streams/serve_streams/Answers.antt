-- What is known of the sources is what is known of the connections.
use Rattle.std.proofs.Common.{◌≡◌, ℕ, length, rules, subst, sym}
use Rattle.mc_sizes.specs.Sizes.{MayServe}
use Rattle.mc_record.specs.Opening.{IsOpening}
use Rattle.mc_serve.proofs.Connections.{all_free, as_many, joined}
use Rattle.mc_serve.proofs.StreamSent.{line_send, stream_source_send}
use Rattle.mc_session.proofs.Orders.{both}
use Rattle.mc_history.proofs.evidence.Evidence.TheSendSync as evidence_sent
use denote.Exit.{no}
use denote.Param.Send.{arg_send, param_send}
use Rattle.mc_serve.proofs.streams.serve_streams.Goals as goal

pub serve-requires-clause-free : goal.serve-requires-clause-free
serve-requires-clause-free g c κs within =
    all_free (λ one. g.A.Arrivals.coming one) (λ source. g.A.Arrivals.coming source.arrivals) (λ source. source.out)
    (λ source. source.gone.items) (λ source. source.is_over) c.in_ok-sources.sources.items c.args.arrivals.items
    c.in_ok-sources.ensures.flow

pub serve-requires-clause-sizes : goal.serve-requires-clause-sizes
serve-requires-clause-sizes g c κs within =
    let P : ℕ → Type 0 = λ n. MayServe (record c.args.sizes { seats = n }) in
    subst P (sym (as_many (λ one. g.A.Arrivals.coming one) (λ source. g.A.Arrivals.coming source.arrivals)
    (λ source. source.out) (λ source. source.gone.items) (λ source. source.is_over) c.in_ok-sources.sources.items
    c.args.arrivals.items c.in_ok-sources.ensures.flow)) c.requires

pub serve-requires-clause-opening : goal.serve-requires-clause-opening
serve-requires-clause-opening g c κs within =
    let count : c.len-seats.result ≡ length c.args.arrivals.items = search rules in
    let opening = c.in_ok-opening.opening in
    let P : ℕ → Type 0 = λ n. IsOpening (record c.args.sizes { seats = n }) opening.recorders.items
    opening.clerks.items opening.witness in
    rw c.in_ok-sources.ensures.same
    (subst P (sym (as_many (λ one. g.A.Arrivals.coming one) (λ source. g.A.Arrivals.coming source.arrivals)
    (λ source. source.out) (λ source. source.gone.items) (λ source. source.is_over) c.in_ok-sources.sources.items
    c.args.arrivals.items c.in_ok-sources.ensures.flow)) (subst P count c.in_ok-opening.ensures))

pub serve-requires-clause-history : goal.serve-requires-clause-history
serve-requires-clause-history g c κs within = rw c.in_ok-sources.ensures.same c.in_ok-sources.ensures.history

pub returns-clause-explained : goal.returns-clause-explained
returns-clause-explained g c =
    both c.gather.result _ _ _
    (λ served shown got. (joined (λ one. g.A.Arrivals.coming one) (λ source. g.A.Arrivals.coming source.arrivals)
    (λ source. source.out) (λ source. source.gone.items) (λ source. source.is_over) c.args.sizes
    (g.K.Clock.may_answer c.args.clock)
    c.args.arrivals.items c.in_ok-sources.sources.items c.in_ok-back.back.items served c.in_ok-sources.ensures.flow
    (rw shown c.in_ok-back.ensures.explained) got).explained) c.gather.ensures.evidence c.gather.ensures.gone

pub returns-clause-streams : goal.returns-clause-streams
returns-clause-streams g c =
    both c.gather.result _ _ _
    (λ served shown got. (joined (λ one. g.A.Arrivals.coming one) (λ source. g.A.Arrivals.coming source.arrivals)
    (λ source. source.out) (λ source. source.gone.items) (λ source. source.is_over) c.args.sizes
    (g.K.Clock.may_answer c.args.clock)
    c.args.arrivals.items c.in_ok-sources.sources.items c.in_ok-back.back.items served c.in_ok-sources.ensures.flow
    (rw shown c.in_ok-back.ensures.explained) got).streams) c.gather.ensures.evidence c.gather.ensures.gone

pub serve-requires-send-D : goal.serve-requires-send-D
serve-requires-send-D g c κs within =
    param_send 1 _ (arg_send _ no _
    (stream_source_send _ _ _ _ _ _ c.type_bounds.send-R c.type_bounds.send-A evidence_sent.the_send
    c.type_bounds.send-A-Stream))

pub serve-requires-send-D-Transport : goal.serve-requires-send-D-Transport
serve-requires-send-D-Transport g c κs within =
    param_send 4 _ (arg_send _ no _ (line_send _ _ _ c.type_bounds.send-A-Stream evidence_sent.the_send))
