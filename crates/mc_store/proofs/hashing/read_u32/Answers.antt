use Rattle.mc_store.specs.internal.Polynomial.{read_u32}
use Rattle.mc_store.proofs.hashing.read_u32.Goals as goal

pub returns : goal.returns
unfolding read_u32
returns c = c.from_le_bytes.ensures
