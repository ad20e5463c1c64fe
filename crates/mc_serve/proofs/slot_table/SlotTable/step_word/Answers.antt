use Rattle.mc_serve.proofs.slot_table.SlotTable.step_word.Goals as goal

pub loop-place-init : goal.loop-place-init
loop-place-init g c shards rules were zips = zips

pub step_at-requires : goal.step_at-requires
step_at-requires g c = (
  c.requires.0,
  c.requires.1,
  c.requires.2,
  c.loop-place.invariant c.requires.0 c.requires.1 c.requires.2 c.requires.3,
)

pub loop-place-preserved-in-Did : goal.loop-place-preserved-in-Did
loop-place-preserved-in-Did g c shards rules were zips =
    c.step_at.ensures shards rules were (c.loop-place.invariant shards rules were zips)

pub loop-place-preserved-in-Waits : goal.loop-place-preserved-in-Waits
loop-place-preserved-in-Waits g c shards rules were zips =
    c.step_at.ensures shards rules were (c.loop-place.invariant shards rules were zips)

pub loop-place-preserved : goal.loop-place-preserved
loop-place-preserved g c shards rules were zips =
    c.step_at.ensures shards rules were (c.loop-place.invariant shards rules were zips)
