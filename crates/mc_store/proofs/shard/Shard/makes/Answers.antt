use Rattle.mc_item.specs.Kind.{key_of}
use Rattle.mc_store.proofs.shard.Shard.makes.Goals as goal

pub returns-in-MetaGet : goal.returns-in-MetaGet
unfolding key_of
returns-in-MetaGet c = λ state h. rw (c.in-MetaGet.is, ← c.is_some.ensures) (c.fills.ensures state h)

pub returns-in-MetaCount : goal.returns-in-MetaCount
unfolding key_of
returns-in-MetaCount c =
    λ state h. rw (c.in-MetaCount.is, ← c.is_some-in-MetaCount.ensures) (c.fills-in-MetaCount.ensures state h)
