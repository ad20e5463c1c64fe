-- It carries on; and once all is settled, it goes on with the line.
use Rattle.std.proofs.Common.{inl, inr, sym, ◌∙◌}
use Rattle.mc_session.proofs.Carrying.{may_still}
use Rattle.mc_session.proofs.Placing.{kept_same, kept_then, line_kept}
use Rattle.mc_session.proofs.Serving.{all_zero, can_record, may_carry, owes_all, records_line, serves_carried}
use Rattle.mc_session.proofs.Serving.{settled_complete, settled_same, settled_says, settles}
use Rattle.mc_session.proofs.shard_link.ShardLink.step.Goals as goal

pub note_taken-requires : goal.note_taken-requires
note_taken-requires g c = can_record _ _ _ _ _ _ c.args.self.now _ c.requires.serves

pub receive_all-requires : goal.receive_all-requires
receive_all-requires g c =
    may_carry c.args.self.now c.note_taken.new.self _ c.note_taken.ensures.ends c.note_taken.ensures.under_way
    c.note_taken.ensures.records (can_record _ _ _ _ _ _ c.args.self.now _ c.requires.serves)

pub send_all-requires : goal.send_all-requires
send_all-requires g c =
    may_still _ _ _ _ _ _ _ _ _
    (may_carry c.args.self.now c.note_taken.new.self _ c.note_taken.ensures.ends c.note_taken.ensures.under_way
    c.note_taken.ensures.records (can_record _ _ _ _ _ _ c.args.self.now _ c.requires.serves))
    c.receive_all.ensures.goes

pub returns-then-not-is_idle-clause-says : goal.returns-then-not-is_idle-clause-says
returns-then-not-is_idle-clause-says g c shards rules begin before serves =
    let noted = c.note_taken.ensures in
    let recorded = records_line shards rules _ begin _ before c.args.self.now c.note_taken.new.self _ noted.ends
    noted.under_way noted.records serves in
    let received = serves_carried _ shards rules _ begin _ before _ c.receive_all.new.self _ _
    c.receive_all.ensures.goes recorded in
    (serves_carried _ shards rules _ begin _ before _ c.send_all.new.self _ _ c.send_all.ensures.goes received).serves

pub returns-then-not-is_idle-clause-called : goal.returns-then-not-is_idle-clause-called
returns-then-not-is_idle-clause-called g c waits = c.send_all.new.self.all_called c.send_all.ensures.called

pub returns-then-not-is_idle-clause-waits : goal.returns-then-not-is_idle-clause-waits
returns-then-not-is_idle-clause-waits g c waits = inl (sym c.if-not-is_idle.ensures)

pub returns-then-self-clause-says : goal.returns-then-self-clause-says
returns-then-self-clause-says g c shards rules begin before serves =
    let noted = c.note_taken.ensures in
    let recorded = records_line shards rules _ begin _ before c.args.self.now c.note_taken.new.self _ noted.ends
    noted.under_way noted.records serves in
    let received = serves_carried _ shards rules _ begin _ before _ c.receive_all.new.self _ _
    c.receive_all.ensures.goes recorded in
    (serves_carried _ shards rules _ begin _ before _ c.send_all.new.self _ _ c.send_all.ensures.goes received).serves

pub go_on-step-requires : goal.go_on-step-requires
go_on-step-requires g c =
    let some = c.requires in
    let noted = c.note_taken.ensures in
    let recorded = records_line some.shards some.rules _ some.begin _ some.before c.args.self.now
    c.note_taken.new.self _ noted.ends noted.under_way noted.records some.serves in
    let received = serves_carried _ some.shards some.rules _ some.begin _ some.before _ c.receive_all.new.self _ _
    c.receive_all.ensures.goes recorded in
    let idle = all_zero c.send_all.new.self.under_way.items (sym c.if-not-is_idle.ensures) in
    let settled = settles _ some.shards some.rules _ some.begin _ some.before _ c.send_all.new.self _ _
    c.send_all.ensures.goes c.if-self.false idle received in
    let kept = kept_then _ _ _ noted.kept (kept_then _ _ _ c.receive_all.ensures.kept c.send_all.ensures.kept) in
    let line = line_kept _ _ some.rules _ some.begin kept some.line in
    let served = settled.serves.stopped.serves in
    record {
      may = record {
        flow = settled.serves.flow;
        conn_is = served.conn_is;
        unbroken = served.unbroken;
        may =
            c.evidence-seen.ensures.may _ some.begin _ _
            (owes_all some.shards some.rules _ some.begin _ some.before c.send_all.new.self _ _ settled line);
      };
    }

pub returns-clause-says : goal.returns-clause-says
returns-clause-says g c shards rules begin before serves =
    let noted = c.note_taken.ensures in
    let recorded = records_line shards rules _ begin _ before c.args.self.now c.note_taken.new.self _ noted.ends
    noted.under_way noted.records serves in
    let received = serves_carried _ shards rules _ begin _ before _ c.receive_all.new.self _ _
    c.receive_all.ensures.goes recorded in
    let idle = all_zero c.send_all.new.self.under_way.items (sym c.if-not-is_idle.ensures) in
    let settled = settled_same shards rules _ begin _ before c.send_all.new.self c.evidence-seen.new.self _
    c.evidence-seen.ensures.ends c.evidence-seen.ensures.under_way c.evidence-seen.ensures.clerk
    (settles _ shards rules _ begin _ before _ c.send_all.new.self _ _ c.send_all.ensures.goes c.if-self.false idle
    received) in
    let says = c.go_on-step.ensures.says settled.serves.received begin settled.serves.flow settled.serves.stopped
    (settled_complete _ _ _ _ _ _ _ _ settled) in
    settled_says c.go_on-step.result shards rules _ begin _ _ before _ _ c.go_on-step.new.self settled says

pub send_taken-requires : goal.send_taken-requires
send_taken-requires g c =
    let some = c.requires in
    let noted = c.note_taken.ensures in
    let recorded = records_line some.shards some.rules _ some.begin _ some.before c.args.self.now
    c.note_taken.new.self _ noted.ends noted.under_way noted.records some.serves in
    let received = serves_carried _ some.shards some.rules _ some.begin _ some.before _ c.receive_all.new.self _ _
    c.receive_all.ensures.goes recorded in
    let idle = all_zero c.send_all.new.self.under_way.items (sym c.if-not-is_idle.ensures) in
    let settled = settled_same some.shards some.rules _ some.begin _ some.before c.send_all.new.self
    c.evidence-seen.new.self _ c.evidence-seen.ensures.ends c.evidence-seen.ensures.under_way
    c.evidence-seen.ensures.clerk
    (settles _ some.shards some.rules _ some.begin _ some.before _ c.send_all.new.self _ _ c.send_all.ensures.goes
    c.if-self.false idle received) in
    let says = c.go_on-step.ensures.says settled.serves.received some.begin settled.serves.flow settled.serves.stopped
    (settled_complete _ _ _ _ _ _ _ _ settled) in
    can_record _ _ _ _ _ _ _ _ (rw c.in-Did.is at
    (settled_says c.go_on-step.result some.shards some.rules _ some.begin _ _ some.before _ _ c.go_on-step.new.self
    settled says))

pub returns-clause-called : goal.returns-clause-called
returns-clause-called g c waits =
    c.evidence-seen.new.self.all_called (c.evidence-seen.ensures.called ∙ c.send_all.ensures.called)

pub returns-clause-waits : goal.returns-clause-waits
returns-clause-waits g c waits = inr (c.go_on-step.ensures.waits waits)

pub returns-then-not-is_idle-clause-kept : goal.returns-then-not-is_idle-clause-kept
returns-then-not-is_idle-clause-kept g c =
    kept_then _ _ _ c.note_taken.ensures.kept (kept_then _ _ _ c.receive_all.ensures.kept c.send_all.ensures.kept)

pub returns-then-self-clause-kept : goal.returns-then-self-clause-kept
returns-then-self-clause-kept g c =
    kept_then _ _ _ c.note_taken.ensures.kept (kept_then _ _ _ c.receive_all.ensures.kept c.send_all.ensures.kept)

pub returns-clause-kept : goal.returns-clause-kept
returns-clause-kept g c =
    kept_then _ _ _ c.note_taken.ensures.kept (kept_then _ _ _ c.receive_all.ensures.kept
    (kept_then _ _ _ c.send_all.ensures.kept (kept_same _ _ c.evidence-seen.ensures.clerk)))

pub returns-in-Did-clause-says : goal.returns-in-Did-clause-says
returns-in-Did-clause-says g c shards rules begin before serves =
    let noted = c.note_taken.ensures in
    let recorded = records_line shards rules _ begin _ before c.args.self.now c.note_taken.new.self _ noted.ends
    noted.under_way noted.records serves in
    let received = serves_carried _ shards rules _ begin _ before _ c.receive_all.new.self _ _
    c.receive_all.ensures.goes recorded in
    let idle = all_zero c.send_all.new.self.under_way.items (sym c.if-not-is_idle.ensures) in
    let settled = settled_same shards rules _ begin _ before c.send_all.new.self c.evidence-seen.new.self _
    c.evidence-seen.ensures.ends c.evidence-seen.ensures.under_way c.evidence-seen.ensures.clerk
    (settles _ shards rules _ begin _ before _ c.send_all.new.self _ _ c.send_all.ensures.goes c.if-self.false idle
    received) in
    let says = c.go_on-step.ensures.says settled.serves.received begin settled.serves.flow settled.serves.stopped
    (settled_complete _ _ _ _ _ _ _ _ settled) in
    c.send_taken.ensures.says shards rules begin _ before
    (rw c.in-Did.is at
    (settled_says c.go_on-step.result shards rules _ begin _ _ before _ _ c.go_on-step.new.self settled says))

pub returns-in-Did-clause-called : goal.returns-in-Did-clause-called
returns-in-Did-clause-called g c waits = c.send_taken.ensures.called waits

pub returns-in-Did-clause-waits : goal.returns-in-Did-clause-waits
returns-in-Did-clause-waits g c waits = inl (c.send_taken.ensures.waits waits)

pub returns-in-Did-clause-kept : goal.returns-in-Did-clause-kept
returns-in-Did-clause-kept g c =
    kept_then _ _ _ c.note_taken.ensures.kept (kept_then _ _ _ c.receive_all.ensures.kept
    (kept_then _ _ _ c.send_all.ensures.kept
    (kept_then _ _ _ (kept_same _ _ c.evidence-seen.ensures.clerk) c.send_taken.ensures.kept)))
