-- The clerk has opened a connection, of which nothing is recorded.
use Rattle.mc_session.proofs.Recording.{line_begins, routes_still}
use Rattle.mc_ring.specs.EndsLaws.{same_ends-refl}
use Rattle.std.proofs.Common.{◌∙◌}
use Rattle.mc_session.proofs.Placing.{route_rules}
use Rattle.mc_session.proofs.shard_link.ShardLink.begin_line.Goals as goal

pub returns-clause-begins : goal.returns-clause-begins
returns-clause-begins g c before flow none nothing width past =
    let opened = c.open-seen.ensures in
    line_begins g.C.Clerk c.args.self.now.clerk c.open-seen.new.self before flow none nothing width opened.opened
    opened.taken opened.work opened.answers past

pub invariant_of-self-clause-routed : goal.invariant_of-self-clause-routed
invariant_of-self-clause-routed g c keeps =
    routes_still _ _ _ _ c.open-seen.ensures.route (same_ends-refl c.args.self.now.ends) (c.args.self.now.routed keeps)

pub returns-clause-line : goal.returns-clause-line
returns-clause-line g c rules ruled = record {
  ruled = route_rules g.C.Clerk c.args.self.now.clerk c.open-seen.new.self rules c.open-seen.ensures.route ruled;
  placed = λ keeps. c.begin.ensures.place ∙ c.open-seen.ensures.place keeps (g.L.Transport.sight c.args.line.now);
}
