use Rattle.std.proofs.Common.{◌∙◌, ap, take}
use Rattle.mc_store.proofs.Polynomials.{eight_bytes}
use Rattle.mc_store.proofs.hashing.read_u64.Goals as goal

pub returns : goal.returns
returns c =
    c.from_le_bytes.ensures ∙ eight_bytes c.args.bytes.now c.in-Some.chunk.now
    c.args.at (c.in-Some.ensures.cases.same ∙ ap (take 8) c.split_at.ensures.back)
