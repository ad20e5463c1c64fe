-- There is a way to each slot.
use Rattle.std.specs.Prelude.{ℕ, IfOk}
use Rattle.std.proofs.Common.{subst, sym}
use Rattle.mc_sizes.specs.Sizes.{MayServe}
use Rattle.mc_serve.specs.Connections.{ServesConnections}
use Rattle.mc_serve.proofs.tcp.serve_tcp.Goals as goal

pub serve_streams-served-requires-after_bounds : goal.serve_streams-served-requires-after_bounds
serve_streams-served-requires-after_bounds g c κs within = let P : ℕ → Type 0 =
    λ n. MayServe (record c.args.sizes { seats = n }) in subst P (sym c.in_ok-opened.ensures) c.requires

pub returns : goal.returns
returns g c =
    let P : ℕ → Type 0 = λ n. IfOk c.serve_streams-served.result
    (ServesConnections (record c.args.sizes { seats = n }) (g.K.Clock.may_answer c.args.clock)) in
    subst P c.in_ok-opened.ensures c.serve_streams-served.ensures.explained
