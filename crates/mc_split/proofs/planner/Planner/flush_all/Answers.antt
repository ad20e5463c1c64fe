-- The delay reaches the pieces as it is, since it fits its type.
use Rattle.std.proofs.Common.{w64, refl}
use Rattle.std.proofs.lemmas.Int.{to_z-of_z}
use Rattle.mc_split.specs.Pieces.{pieces_of}
use Rattle.mc_reply.specs.ReplyKind.{reply_kind_of}
use Rattle.mc_split.proofs.Parts.{splits_into}
use Rattle.mc_split.proofs.planner.Planner.flush_all.Goals as goal

pub returns : goal.returns
unfolding pieces_of reply_kind_of
returns c =
    let delay = to_z-of_z w64 c.args.delay c.ranges.delay in
    splits_into c.args.self _ c.all.result _ _ _ _ (rw c.plain_line.ensures refl) (rw delay refl) refl c.all.ensures
