use Rattle.std.proofs.Common.{drop}
use Rattle.mc_wire.specs.Words.{words_left}
use Rattle.mc_command.specs.Field.{AreKeys}
use Rattle.mc_reply.specs.internal.SlotTexts.{items_text}
use Rattle.mc_reply.proofs.Texts.{WroteBut}
use Rattle.mc_reply.proofs.classic.put_items.Given as goal

abbrev pub invariant-loop-slot : goal.invariant-loop-slot
invariant-loop-slot g l = record {
  keys : AreKeys (words_left l.keys);
  wrote : WroteBut (items_text l.with_unique (words_left l.fn.keys) l.slots)
      (items_text l.with_unique (words_left l.keys) (drop l.slot-index l.slots)) (g.O.Sink.sight l.fn.out)
      (g.O.Sink.sight l.out);
}
