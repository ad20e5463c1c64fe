-- Where the item isn't written at once with `END`, it is written first.
use Rattle.std.proofs.Common.{refl}
use Rattle.mc_reply.proofs.Texts.{writes_rest, wrote_first}
use Rattle.mc_reply.proofs.classic.put_one.Goals as goal

pub returns-in_ok-put_slot-in_default : goal.returns-in_ok-put_slot-in_default
returns-in_ok-put_slot-in_default g c =
    writes_rest _ c.write_all-in_default.result (wrote_first _ refl c.in_ok-put_slot-in_default.ensures)
    c.write_all-in_default.ensures
