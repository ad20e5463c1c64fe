use Rattle.std.proofs.Common.{◌≡◌, sym, subst}
use Rattle.mc_history.specs.declared.knowledge.Role.TheVariants.{Seat}
use Rattle.mc_history.specs.Roles.{seat_of}
use Rattle.mc_history.specs.Tokens.{Acting, TakesAll}
use Rattle.mc_history.specs.Worlds.{IsLastOn}
use Rattle.mc_history.proofs.Later.{take_joins, taken_own}
use Rattle.mc_history.proofs.Seeing.{all_taken}
use Rattle.mc_history.proofs.actor.Actor.take_all.Goals as goal

pub returns-clause-takes : goal.returns-clause-takes
returns-clause-takes g c =
    let old = c.self.inside.seat in
    let new = c.note.new.seat in
    let own = taken_own old.me.0.role (seat_of old.me.0.role) g.takes.0 g.takes.1
    (subst (λ (a : Acting). a.role ≡ Seat (seat_of a.role)) (sym c.self.view_is) c.requires.1.1.0) in
    subst (λ (a : Acting). TakesAll g.takes.0 g.takes.1 a
    (record {
      name = record { table = new.table_id; sizes = new.me.0.sizes };
      role = new.me.0.role;
      events = new.me.0.seen;
    })) c.self.view_is
    (all_taken g.takes.0 g.takes.1 old.table_id new.table_id old.me.0 new.me.0 own c.note.ensures.added
    c.note.ensures.table)

pub note-requires-clause-own : goal.note-requires-clause-own
note-requires-clause-own g c =
    let old = c.self.inside.seat in
    taken_own old.me.0.role (seat_of old.me.0.role) g.takes.0 g.takes.1
    (subst (λ (a : Acting). a.role ≡ Seat (seat_of a.role)) (sym c.self.view_is) c.requires.1.1.0)

pub note-requires-clause-may : goal.note-requires-clause-may
note-requires-clause-may g c =
    let old = c.self.inside.seat in
    take_joins old.me.0.sizes old.me.0.role (seat_of old.me.0.role) g.takes.0 g.takes.1 old.me.0.seen
    (subst (λ (a : Acting). a.role ≡ Seat (seat_of a.role)) (sym c.self.view_is) c.requires.1.1.0)
    (subst (λ (a : Acting). IsLastOn (seat_of a.role) g.takes.0 a.events) (sym c.self.view_is) c.requires.1.1.1.0)
    c.requires.1.1.1.1
