-- One source more gave its line.
use Rattle.std.proofs.Common.{◌≡◌, [], ◌∷◌, ◌++◌, ◌∙◌, sym, append_assoc, append-nil, ap, rules}
use Rattle.std.specs.Vec.Iter.{into_iter_items}
use Rattle.mc_net.specs.One.{IsBack, flow_of}
use Rattle.mc_serve.proofs.Zipped.{empty_when, zips_are, zips_push}
use Rattle.mc_serve.proofs.over.gather.Goals as goal

pub loop-source-preserved : goal.loop-source-preserved
loop-source-preserved g c =
    let was = c.loop-source.invariant in (
      was.0 ++ c.in-Some.source ∷ [],
      append_assoc was.0 (c.in-Some.source ∷ []) _ ∙ (ap (λ ds. was.0 ++ ds) (sym c.in-Some.ensures.steps.0) ∙ was.1),
      zips_push (λ source one. IsBack (flow_of (λ line. g.L.Transport.sight line) source) (g.L.Transport.sight one.line)
          one.commands one.broke) was.0 c.loop-source.lines.items _ c.in-Some.source c.in-Some-served.served
          c.in-Ok.ensures.items was.2 c.in-Some-served.ensures,
    )

pub loop-source-init : goal.loop-source-init
loop-source-init g c = ([], search rules, rw c.requires tt)

pub returns-clause-back : goal.returns-clause-back
returns-clause-back g c =
    let was = c.loop-source.invariant in
    let none : into_iter_items c.loop-source.source-iterator ≡ [] = empty_when _ (search rules) in
    let all : was.0 ≡ c.args.sources.items = sym (append-nil was.0) ∙ (ap (λ ds. was.0 ++ ds) (sym none) ∙ was.1) in
    zips_are
    (λ source one. IsBack (flow_of (λ line. g.L.Transport.sight line) source)
    (g.L.Transport.sight one.line) one.commands
    one.broke) was.0 c.args.sources.items c.loop-source.lines.items all was.2
