-- The log only grows, by pieces of commands that are not handed out.
use Rattle.mc_model.specs.World.{empty_world}
use Rattle.mc_model.proofs.Worlds.{at_begin}
use Rattle.mc_model.proofs.Every.{all_kept}
use Rattle.mc_laws.proofs.Ordering.{ran_before, ran_first, was_run}
use Rattle.mc_laws.proofs.order.what_was_handed_out_ran_before.Goals as goal

pub returns-clause-ran : goal.returns-clause-ran
returns-clause-ran c sizes events w k number within schedule handed =
    was_run sizes w k number (all_kept sizes empty_world events w within.shards.0 schedule (at_begin sizes)) handed

pub returns-clause-before : goal.returns-clause-before
returns-clause-before c sizes before after w later j a k b within schedule led handed to_come =
    ran_before sizes w after later j a k b within.shards.0
    (all_kept sizes empty_world before w within.shards.0 schedule (at_begin sizes)) led handed to_come

pub returns-clause-positions : goal.returns-clause-positions
returns-clause-positions c sizes events w led j a k b within first =
    ran_first sizes empty_world events w led first.p first.q j a k b within.shards.0 (at_begin sizes) first.order
    first.out first.not_yet
