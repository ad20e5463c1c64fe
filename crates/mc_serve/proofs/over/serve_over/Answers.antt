-- What is known of the sources is what is known of the lines.
use Rattle.std.proofs.Common.{◌≡◌, ◌∙◌, ℕ, ap, subst, sym}
use Rattle.mc_sizes.specs.Sizes.{MayServe}
use Rattle.mc_history.specs.Tokens.{Sight as Shown}
use Rattle.mc_record.specs.Opening.{IsOpening}
use Rattle.mc_serve.specs.Over.{came_back}
use Rattle.mc_net.specs.One.{flow_of}
use Rattle.mc_serve.proofs.One.{all_free, over_all, same_count}
use Rattle.mc_session.proofs.Orders.{both}
use Rattle.mc_serve.proofs.Zipped.{if_ok}
use denote.Exit.{no}
use denote.Param.Send.{arg_send, param_send}
use Rattle.mc_net.proofs.Sent.{source_send}
use Rattle.mc_history.specs.contracts.evidence.Evidence as evidence
use Rattle.mc_serve.proofs.over.serve_over.Goals as goal

pub serve-requires-clause-free : goal.serve-requires-clause-free
serve-requires-clause-free g c κs within =
    all_free (λ source. flow_of (λ line. g.L.Transport.sight line) source) (λ line. g.L.Transport.sight line)
    c.in_ok-sources.sources.items c.args.lines.items c.in_ok-sources.ensures.flow

pub serve-requires-clause-opening : goal.serve-requires-clause-opening
serve-requires-clause-opening g c κs within =
    let opening = c.args.opening in
    let P : ℕ → Type 0 = λ n. IsOpening (record c.args.sizes { seats = n }) opening.recorders.items
    opening.clerks.items opening.witness in
    rw c.show-shown.ensures.same
    (subst P (sym (same_count (λ source. flow_of (λ line. g.L.Transport.sight line) source)
    (λ line. g.L.Transport.sight line) c.in_ok-sources.sources.items c.args.lines.items c.in_ok-sources.ensures.flow))
    c.requires.opening)

pub serve-requires-clause-history : goal.serve-requires-clause-history
serve-requires-clause-history g c κs within =
    rw (c.show-shown.ensures.same, ← c.show-shown.ensures.name) c.in_ok-sources.ensures.history

pub returns-clause-explained : goal.returns-clause-explained
returns-clause-explained g c =
    both c.gather.result _ _ _
    (λ report shown zips. over_all (λ n. record c.args.sizes { seats = n }) (g.K.Clock.may_answer c.args.clock)
    (λ source. flow_of (λ line. g.L.Transport.sight line) source)
    (λ one. came_back (g.L.Transport.sight one.line) one.commands one.broke) (λ line. g.L.Transport.sight line)
    c.args.lines.items c.in_ok-sources.sources.items _ report.lines.items report.evidence
    c.in_ok-sources.ensures.flow (rw shown c.in_ok-back.ensures.explained) zips) c.gather.ensures.evidence
    c.gather.ensures.back

pub returns-clause-shown : goal.returns-clause-shown
returns-clause-shown g c =
    let same : c.in_ok-back.evidence.name ≡ c.args.opening.witness.name =
    (rw c.show-shown.ensures.same at c.in_ok-back.ensures.shown) in
    if_ok c.gather.result _ _ (λ report shown. ap (λ (e : Shown). e.name) shown ∙ same) c.gather.ensures.evidence

pub serve-requires-clause-sizes : goal.serve-requires-clause-sizes
serve-requires-clause-sizes g c κs within =
    let P : ℕ → Type 0 = λ n. MayServe (record c.args.sizes { seats = n }) in
    subst P (sym (same_count (λ source. flow_of (λ line. g.L.Transport.sight line) source)
    (λ line. g.L.Transport.sight line) c.in_ok-sources.sources.items c.args.lines.items c.in_ok-sources.ensures.flow))
    c.requires.sizes

pub serve-requires-send-D : goal.serve-requires-send-D
serve-requires-send-D g c κs within =
    param_send 1 _ (arg_send _ no _ (source_send _ evidence.the_row _ _ _ c.type_bounds.send-L))

pub sources_for-requires : goal.sources_for-requires
sources_for-requires g c = rw c.show-shown.ensures.name c.requires.new
