use Rattle.mc_history.proofs.Steps.{adds_allows}
use Rattle.mc_history.proofs.actor.note.Goals as goal

pub load-requires : goal.load-requires
load-requires g c = (
  c.requires.table,
  c.requires.word,
  adds_allows c.args.table.now.key c.args.table.now.table_id.slots c.args.seat.now.id 0 c.args.seat.now.me.0
      c.args.seat.now.me.1 g.E.Occurrence.events c.requires.sizes c.requires.own c.requires.may,
)
