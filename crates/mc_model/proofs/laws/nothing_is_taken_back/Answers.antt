-- Each event lengthens the lists, and the replies that are there stay.
use Rattle.mc_model.specs.World.{empty_world}
use Rattle.mc_model.proofs.Worlds.{at_begin}
use Rattle.mc_model.proofs.Every.{all_kept}
use Rattle.mc_model.proofs.Growing.{all_grow}
use Rattle.mc_model.proofs.laws.nothing_is_taken_back.Goals as goal

pub returns : goal.returns
returns c sizes before after w later k link within schedule leads here =
    let law = all_kept sizes empty_world before w within.shards.0 schedule (at_begin sizes) in
    all_grow sizes w after later within.shards.0 law leads k link here
