use Rattle.std.proofs.Common.{ap, ◌∙◌}
use Rattle.mc_reply.specs.internal.SlotTexts.{slots_text}
use Rattle.mc_reply.proofs.Texts.{slots_text-filled}
use Rattle.mc_reply.proofs.text.put_reply.Goals as goal

pub returns : goal.returns
returns g c = λ answers filled.
    rw (ap (λ slots. slots_text c.args.pending_reply.now.reply_kind slots) (c.answers.ensures ∙ filled)
    ∙ slots_text-filled c.args.pending_reply.now.reply_kind answers) at c.put_slots.ensures
