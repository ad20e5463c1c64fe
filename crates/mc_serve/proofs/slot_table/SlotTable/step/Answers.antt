use Rattle.mc_serve.proofs.slot_table.SlotTable.step.Goals as goal

pub loop-word-init : goal.loop-word-init
loop-word-init g c shards rules were zips = zips

pub step_word-requires : goal.step_word-requires
step_word-requires g c = (
  c.requires.0,
  c.requires.1,
  c.requires.2,
  c.loop-word.invariant c.requires.0 c.requires.1 c.requires.2 c.requires.3,
)

pub loop-word-preserved : goal.loop-word-preserved
loop-word-preserved g c shards rules were zips =
    c.step_word.ensures shards rules were (c.loop-word.invariant shards rules were zips)
