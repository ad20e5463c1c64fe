-- The bytes of the key are those that were decoded.
use Rattle.std.proofs.Common.{arith}
use Rattle.mc_wire.proofs.key.Key.from_base64.Goals as goal

pub returns-clause-ok : goal.returns-clause-ok
returns-clause-ok c = rw (c.in_ok-key.ensures, c.split_at.ensures.front) c.in-Some.ensures.key

pub returns-clause-text : goal.returns-clause-text
returns-clause-text c = rw (c.in_ok-key.ensures, c.split_at.ensures.front) c.in-Some.ensures.text

pub keep-requires : goal.keep-requires
keep-requires c =
    let text = c.in-Some.ensures.text in
    rw c.split_at.ensures.front record { some = text.some; short = omega (arith, text.short) }
