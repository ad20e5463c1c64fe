-- There are as many slots as sources.
use Rattle.std.proofs.Common.{◌≡◌, ℕ, length, map, rules, subst, sym}
use Rattle.mc_sizes.specs.Sizes.{MayServe}
use Rattle.mc_record.specs.Opening.{IsOpening}
use Rattle.mc_serve.specs.Served.{ServesSources}
use Rattle.mc_serve.proofs.serving.serve.Goals as goal

pub serve_all-requires-clause-sizes : goal.serve_all-requires-clause-sizes
serve_all-requires-clause-sizes g c κs within =
    let count : c.len-seats.result ≡ length c.args.sources.items = search rules in
    let P : ℕ → Type 0 = λ n. MayServe (record c.args.sizes { seats = n }) in
    subst P (sym count) c.requires.sizes

pub serve_all-requires-clause-opening : goal.serve_all-requires-clause-opening
serve_all-requires-clause-opening g c κs within =
    let count : c.len-seats.result ≡ length c.args.sources.items = search rules in
    let opening = c.args.opening in
    let P : ℕ → Type 0 = λ n. IsOpening (record c.args.sizes { seats = n }) opening.recorders.items
    opening.clerks.items opening.witness in
    subst P (sym count) c.requires.opening

pub returns-in-Ok-clause-explained : goal.returns-in-Ok-clause-explained
returns-in-Ok-clause-explained g c =
    let count : c.len-seats.result ≡ length c.args.sources.items = search rules in
    let P : ℕ → Type 0 = λ n. ServesSources (record c.args.sizes { seats = n }) (g.K.Clock.may_answer c.args.clock)
    (map (λ source. g.D.ConnectionSource.flow source) c.args.sources.items)
    (map (λ source. g.D.ConnectionSource.flow source) c.in-Ok.back.0.items) c.in-Ok.back.1 in
    subst P count c.in-Ok.ensures.explained
