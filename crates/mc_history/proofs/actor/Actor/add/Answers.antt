use Rattle.std.proofs.Common.{◌≡◌, true, sym, subst}
use Rattle.mc_history.specs.Roles.{is_own}
use Rattle.mc_history.specs.Tokens.{Acting, Adds}
use Rattle.mc_history.specs.Lawful.{MayFollow}
use Rattle.mc_history.proofs.Later.{may_join}
use Rattle.mc_history.proofs.Seeing.{added}
use Rattle.mc_history.proofs.actor.Actor.add.Goals as goal

pub returns-clause-adds : goal.returns-clause-adds
returns-clause-adds g c =
    let old = c.self.inside.seat in
    let new = c.note.new.seat in
    let own : is_own old.me.0.role g.event ≡ true =
    subst (λ (a : Acting). is_own a.role g.event ≡ true) (sym c.self.view_is) c.requires.1.1.0 in
    subst (λ (a : Acting). Adds g.event a
    (record {
      name = record { table = new.table_id; sizes = new.me.0.sizes };
      role = new.me.0.role;
      events = new.me.0.seen;
    })) c.self.view_is
    (added g.event old.table_id new.table_id old.me.0 new.me.0 own c.note.ensures.added c.note.ensures.table)

pub note-requires-clause-own : goal.note-requires-clause-own
note-requires-clause-own g c =
    (subst (λ (a : Acting). is_own a.role g.event ≡ true) (sym c.self.view_is) c.requires.1.1.0, tt)

pub note-requires-clause-may : goal.note-requires-clause-may
note-requires-clause-may g c =
    let old = c.self.inside.seat in
    may_join old.me.0.sizes old.me.0.role old.me.0.seen g.event
    (subst (λ (a : Acting). is_own a.role g.event ≡ true) (sym c.self.view_is) c.requires.1.1.0)
    (subst (λ (a : Acting). MayFollow a.name.sizes a.events g.event) (sym c.self.view_is) c.requires.1.1.1)
