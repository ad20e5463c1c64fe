-- The clerk has recorded what the connection took.
use Rattle.std.proofs.Common.{sym, subst}
use Rattle.std.specs.List.{AllByRecursion}
use Rattle.mc_conn.proofs.Logged.{log_is, may_carried}
use Rattle.mc_conn.specs.History.{MayBeTaken}
use Rattle.mc_ring.specs.EndsLaws.{same_ends-refl}
use Rattle.mc_session.proofs.Recording.{records_all, records_begin, routes_still}
use Rattle.mc_session.proofs.shard_link.ShardLink.note_taken.Goals as goal

pub take_all-requires-clause-opened : goal.take_all-requires-clause-opened
take_all-requires-clause-opened g c keeps = (c.requires.as_recorded keeps).0

pub take_all-requires-clause-begins : goal.take_all-requires-clause-begins
take_all-requires-clause-begins g c keeps =
    records_begin g.C.Clerk c.args.self.now.clerk c.args.conn.now c.args.self.now.ends c.args.self.now.under_way.items
    c.requires keeps

pub take_all-requires-clause-may : goal.take_all-requires-clause-may
take_all-requires-clause-may g c keeps =
    subst (AllByRecursion MayBeTaken) (sym (log_is c.args.conn.now c.requires.flow c.requires.conn_is))
    (may_carried c.requires.flow.taken)

pub returns-clause-records : goal.returns-clause-records
returns-clause-records g c before flow received is width was =
    let took = c.take_all.ensures in
    records_all g.C.Clerk c.args.self.now.clerk c.take_all.new.self c.args.conn.now before c.args.self.now.ends flow
    received is width c.args.self.now.routed took.opened took.taken took.work took.answers was

pub invariant_of-self-clause-routed : goal.invariant_of-self-clause-routed
invariant_of-self-clause-routed g c keeps =
    routes_still _ _ _ _ c.take_all.ensures.route (same_ends-refl c.args.self.now.ends) (c.args.self.now.routed keeps)

pub returns-clause-kept : goal.returns-clause-kept
returns-clause-kept g c = record { route = c.take_all.ensures.route; place = c.take_all.ensures.place }
