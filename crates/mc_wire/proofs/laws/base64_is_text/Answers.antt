-- The law, by its two halves.
use Rattle.mc_wire.proofs.Base64Keys.{base64_is_text}
use Rattle.mc_wire.proofs.laws.base64_is_text.Goals as goal

pub returns : goal.returns
returns c = base64_is_text
