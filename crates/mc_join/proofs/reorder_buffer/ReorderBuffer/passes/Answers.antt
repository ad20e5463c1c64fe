use Rattle.std.proofs.Common.{ap, ◌+◌, ◌∙◌, length}
use Rattle.std.specs.List.{prefix_len}
use Rattle.mc_join.specs.Replies.{is_answered}
use Rattle.mc_join.proofs.Joins.{passed_count}
use Rattle.mc_join.proofs.reorder_buffer.ReorderBuffer.passes.Goals as goal

pub returns-clause-joined : goal.returns-clause-joined
returns-clause-joined c = λ opened accepted handed joined.
    ap (λ n. length handed + n)
    (c.count_complete.ensures.count ∙ ap (λ held. prefix_len is_answered held.pending_replies) c.self.view_is)
    ∙ passed_count c.args.self.now opened accepted handed joined
