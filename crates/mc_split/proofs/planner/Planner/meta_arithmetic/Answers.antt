-- What the shard is asked is what the line asked.
use Rattle.std.proofs.Common.{refl}
use Rattle.mc_split.specs.Pieces.{pieces_of}
use Rattle.mc_reply.specs.ReplyKind.{reply_kind_of}
use Rattle.mc_split.proofs.Parts.{splits_into}
use Rattle.mc_split.proofs.planner.Planner.meta_arithmetic.Goals as goal

pub returns : goal.returns
unfolding pieces_of reply_kind_of
returns c =
    splits_into c.args.self _ c.one.result _ _ _ _ (rw c.in_ok-copy_shown.ensures refl) (rw c.place-shard.ensures refl)
    refl c.one.ensures
