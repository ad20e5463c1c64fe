use Rattle.mc_item.specs.Kind.{kind_of}
use Rattle.mc_split.specs.Pieces.{pieces_of}
use Rattle.mc_reply.specs.ReplyKind.{reply_kind_of}
use Rattle.mc_split.proofs.planner.Planner.pending_reply_of_set.Goals as goal

pub returns : goal.returns
unfolding pieces_of reply_kind_of kind_of
returns c = λ shards key flags exptime block. rw c.plain_line.ensures at c.pending_reply_of_one.ensures
