-- The one clerk, and the recorders.
use Rattle.std.proofs.Common.{ap}
use Rattle.mc_history.specs.Tokens.{Acting}
use Rattle.mc_server.proofs.Recording.{fresh_opened, one_clerk}
use Rattle.mc_server.proofs.line_history.LineHistory.of.Goals as goal

pub returns-clause-fresh : goal.returns-clause-fresh
returns-clause-fresh c =
    fresh_opened _ _ _ c.args.opening.witness c.in-Some.clerk c.requires.opening c.requires.one c.in-Some.ensures.items

pub returns-clause-name : goal.returns-clause-name
returns-clause-name c =
    ap (λ (a : Acting). a.name)
    (one_clerk _ _ _ c.args.opening.witness c.in-Some.clerk c.requires.opening c.requires.one c.in-Some.ensures.items)
