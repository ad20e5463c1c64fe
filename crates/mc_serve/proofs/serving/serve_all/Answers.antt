-- All sources, once all threads are joined and the history is closed.
use Rattle.std.proofs.Common.{◌≡◌, ◌∙◌, ap, refl}
use Rattle.std.specs.List.{flat_map}
use Rattle.mc_ring.specs.Route.{Name}
use Rattle.mc_history.specs.Tokens.{Acting}
use Rattle.mc_session.specs.Session.{seat_clerk, seat_ends}
use Rattle.mc_serve.specs.Seats.{seat_at}
use Rattle.mc_serve.proofs.Zipped.{zips_follow}
use Rattle.mc_serve.proofs.AtSources.{all_sources, names_are}
use Rattle.mc_serve.proofs.Parts.{parts_joined}
use Rattle.mc_serve.proofs.RingsSent.{part_send}
use denote.Exit.{no}
use denote.Param.{copied, param}
use denote.Param.Send.{arg_send, param_send, sendable}
use Rattle.mc_serve.proofs.serving.serve_all.Goals as goal

pub close-evidence-requires : goal.close-evidence-requires
close-evidence-requires g c =
    let sizes = c.args.sizes in
    let may = g.K.Clock.may_answer c.args.clock in
    let name = c.args.opening.witness.name in
    let begun = c.in-Ok-started.ensures in
    let thread_group = c.start-started.new.thread_group in
    let parts = c.in_ok-parts.parts.items in
    let back = c.in_ok-back.ensures in
    let names = names_are sizes name may (flat_map (λ part. part.seats.all.items) thread_group)
    (flat_map (λ part. part.seats.all.items) parts) c.args.sources.items
    (λ one. seat_at (g.D.ConnectionSource.flow one.source) (seat_ends one.session) (seat_clerk one.session))
    (λ one. one.source) (λ source. g.D.ConnectionSource.flow source) c.requires.sizes.lines.shards
    (parts_joined thread_group parts c.args.sources.items (λ part. part.seats.all.items)
    (λ one. seat_at (g.D.ConnectionSource.flow one.source) (seat_ends one.session) (seat_clerk one.session))
    (λ one. one.source) (λ source. g.D.ConnectionSource.flow source) sizes name may (λ seat. refl) begun.sources
    (rw begun.clerks c.requires.opening.clerks_are) begun.fit
    (zips_follow thread_group parts (λ part. (part.clock ≡ c.args.clock) × (part.sizes ≡ c.args.sizes)) _ _
    (λ x y same did. rw (← same.0, ← same.1) did) begun.same (rw c.begin.ensures at c.in_ok-parts.ensures))
    back.actors back.routes) in
    rw (back.clerks, begun.witness) names

pub returns-clause-explained : goal.returns-clause-explained
returns-clause-explained g c =
    let sizes = c.args.sizes in
    let may = g.K.Clock.may_answer c.args.clock in
    let name = c.args.opening.witness.name in
    let begun = c.in-Ok-started.ensures in
    let thread_group = c.start-started.new.thread_group in
    let parts = c.in_ok-parts.parts.items in
    let back = c.in_ok-back.ensures in
    let closed = c.close-evidence.ensures in
    let same : c.close-evidence.result.name.sizes ≡ sizes = ap (λ (n : Name). n.sizes) closed.name
    ∙ (ap (λ (a : Acting). a.name.sizes) begun.witness ∙ c.requires.opening.sizes_are) in
    all_sources sizes name may (flat_map (λ part. part.seats.all.items) thread_group)
    (flat_map (λ part. part.seats.all.items) parts) c.args.sources.items
    (λ one. seat_at (g.D.ConnectionSource.flow one.source) (seat_ends one.session) (seat_clerk one.session))
    (λ one. one.source) (λ source. g.D.ConnectionSource.flow source) c.requires.sizes.lines.shards
    c.requires.opening.sizes_are
    (parts_joined thread_group parts c.args.sources.items (λ part. part.seats.all.items)
    (λ one. seat_at (g.D.ConnectionSource.flow one.source) (seat_ends one.session) (seat_clerk one.session))
    (λ one. one.source) (λ source. g.D.ConnectionSource.flow source) sizes name may (λ seat. refl) begun.sources
    (rw begun.clerks c.requires.opening.clerks_are) begun.fit
    (zips_follow thread_group parts (λ part. (part.clock ≡ c.args.clock) × (part.sizes ≡ c.args.sizes)) _ _
    (λ x y same did. rw (← same.0, ← same.1) did) begun.same (rw c.begin.ensures at c.in_ok-parts.ensures))
    back.actors back.routes)
    c.close-evidence.result (rw same at closed.lawful) (rw back.clerks at closed.whole)
    c.in_ok-back.back.items back.sources

pub new-requires-send-T : goal.new-requires-send-T
new-requires-send-T g c κs within =
    let bounds = c.type_bounds in
    param_send 0 _
    (arg_send _ no _
    (part_send (param 1 g.row.D) (param 4 g.row.D-Transport) _ _ _ _ _ (search (bounds.send-D, sendable))
    (search (bounds.send-D-Transport, sendable)) (param 2 g.row.G) (copied 3 g.row.K)
    (search (bounds.send-G, sendable)) (search (bounds.sync-G, sendable)) (search (bounds.send-K, sendable))))

pub dismiss-requires-send-T : goal.dismiss-requires-send-T
dismiss-requires-send-T g c κs within =
    let bounds = c.type_bounds in
    param_send 0 _
    (arg_send _ no _
    (part_send (param 1 g.row.D) (param 4 g.row.D-Transport) _ _ _ _ _ (search (bounds.send-D, sendable))
    (search (bounds.send-D-Transport, sendable)) (param 2 g.row.G) (copied 3 g.row.K)
    (search (bounds.send-G, sendable)) (search (bounds.sync-G, sendable)) (search (bounds.send-K, sendable))))

pub begin-requires-send-T : goal.begin-requires-send-T
begin-requires-send-T g c κs within =
    let bounds = c.type_bounds in
    param_send 0 _
    (arg_send _ no _
    (part_send (param 1 g.row.D) (param 4 g.row.D-Transport) _ _ _ _ _ (search (bounds.send-D, sendable))
    (search (bounds.send-D-Transport, sendable)) (param 2 g.row.G) (copied 3 g.row.K)
    (search (bounds.send-G, sendable)) (search (bounds.sync-G, sendable)) (search (bounds.send-K, sendable))))

pub join-requires-send-T : goal.join-requires-send-T
join-requires-send-T g c κs within =
    let bounds = c.type_bounds in
    param_send 0 _
    (arg_send _ no _
    (part_send (param 1 g.row.D) (param 4 g.row.D-Transport) _ _ _ _ _ (search (bounds.send-D, sendable))
    (search (bounds.send-D-Transport, sendable)) (param 2 g.row.G) (copied 3 g.row.K)
    (search (bounds.send-G, sendable)) (search (bounds.sync-G, sendable)) (search (bounds.send-K, sendable))))
