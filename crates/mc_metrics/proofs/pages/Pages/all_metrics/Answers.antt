-- The shards are those whose totals were taken one after another.
use Rattle.std.proofs.Common.{string_bytes, subst, sym}
use Rattle.mc_telemetry.specs.Counts.{EachIsShown, shards_of}
use Rattle.mc_metrics.proofs.pages.Pages.all_metrics.Goals as goal

pub returns : goal.returns
returns g c =
    let shown = subst (λ them. EachIsShown g.C.Count.has_told (shards_of c.args.self.now.counts) them)
    (sym c.deref.ensures.value) c.in_ok-shards.ensures in
    (string_bytes c.in_ok-text.text, c.deref.result.now, c.in_ok-text.ensures, shown, c.in_ok-push_shards.ensures)
