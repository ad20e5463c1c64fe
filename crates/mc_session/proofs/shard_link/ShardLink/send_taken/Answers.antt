-- What was taken is recorded, and its pieces are sent.
use Rattle.std.proofs.Common.{sym}
use Rattle.mc_session.proofs.Placing.{kept_then}
use Rattle.mc_session.proofs.Serving.{may_carry, records_line, serves_carried}
use Rattle.mc_session.proofs.shard_link.ShardLink.send_taken.Goals as goal

pub note_taken-requires : goal.note_taken-requires
note_taken-requires g c = c.requires

pub send_all-requires : goal.send_all-requires
send_all-requires g c =
    may_carry c.args.self.now c.note_taken.new.self _ c.note_taken.ensures.ends c.note_taken.ensures.under_way
    c.note_taken.ensures.records c.requires

pub returns-then-is_idle-clause-says : goal.returns-then-is_idle-clause-says
returns-then-is_idle-clause-says g c shards rules begin now before serves =
    let noted = c.note_taken.ensures in
    let recorded = records_line shards rules _ begin now before c.args.self.now c.note_taken.new.self _
    noted.ends noted.under_way noted.records serves in
    (serves_carried _ shards rules _ begin _ before _ c.send_all.new.self _ _ c.send_all.ensures.goes recorded).serves

pub returns-clause-says : goal.returns-clause-says
returns-clause-says g c shards rules begin now before serves =
    let noted = c.note_taken.ensures in
    let recorded = records_line shards rules _ begin now before c.args.self.now c.note_taken.new.self _
    noted.ends noted.under_way noted.records serves in
    (serves_carried _ shards rules _ begin _ before _ c.send_all.new.self _ _ c.send_all.ensures.goes recorded).serves

pub returns-clause-called : goal.returns-clause-called
returns-clause-called g c waits = c.send_all.new.self.all_called c.send_all.ensures.called

pub returns-clause-waits : goal.returns-clause-waits
returns-clause-waits g c waits = sym c.if-is_idle.ensures

pub returns-then-is_idle-clause-kept : goal.returns-then-is_idle-clause-kept
returns-then-is_idle-clause-kept g c = kept_then _ _ _ c.note_taken.ensures.kept c.send_all.ensures.kept

pub returns-clause-kept : goal.returns-clause-kept
returns-clause-kept g c = kept_then _ _ _ c.note_taken.ensures.kept c.send_all.ensures.kept
