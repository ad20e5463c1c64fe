use Rattle.std.proofs.Common.{refl}
use Rattle.mc_item.specs.Kind.{kind_of}
use Rattle.mc_split.specs.Pieces.{pieces_of}
use Rattle.mc_reply.specs.ReplyKind.{reply_kind_of}
use Rattle.mc_split.proofs.planner.Planner.pending_reply_of_get_one.Goals as goal

pub returns : goal.returns
unfolding pieces_of reply_kind_of kind_of
returns c = λ shards. rw (c.pending_reply_of_one.ensures, c.one.ensures) refl
