-- The actors are those of the history whose tokens go over the channels.
use Rattle.std.proofs.Common.{◌≡◌, rules}
use Rattle.mc_serve.proofs.Recording.{clerks_fit, recorders_fit}
use Rattle.mc_serve.proofs.recorded.RecordedChannels.new.Goals as goal

pub returns-clause-clerks : goal.returns-clause-clerks
returns-clause-clerks c =
    let opened = c.requires in
    let same : c.args.opening.source.name ≡ c.args.opening.witness.name = search rules in
    clerks_fit c.args.sizes c.args.opening.witness.name c.args.sizes.ring c.in-Ok.near.items c.in-Ok.far.items
    opened.sizes_are c.in-Ok.ensures.made (rw same at c.in-Ok.ensures.routed) c.args.opening.clerks.items
    opened.clerks_are

pub returns-clause-recorders : goal.returns-clause-recorders
returns-clause-recorders c =
    let opened = c.requires in
    let same : c.args.opening.source.name ≡ c.args.opening.witness.name = search rules in
    recorders_fit c.args.sizes c.args.opening.witness.name c.args.sizes.ring c.in-Ok.near.items c.in-Ok.far.items
    opened.sizes_are c.in-Ok.ensures.made (rw same at c.in-Ok.ensures.routed) c.args.opening.recorders.items
    opened.recorders_are
