-- Each round runs the next piece.
use Rattle.std.proofs.Common.{◌≡◌, ◌<◌, ◌∙◌, length, refl, sym, ap, arith, rules, vec_len}
use Rattle.std.proofs.lemmas.Option.{slice_get_read}
use Rattle.mc_ring.specs.Reply.{shown}
use Rattle.mc_model.specs.Log.{reply_to}
use Rattle.mc_server.proofs.Answering.{can_note, entry_is, is_next, never_strange, one_less, place_there}
use Rattle.mc_server.proofs.Answering.{records_none, records_step, reply_is, flow_more}
use Rattle.mc_server.proofs.serve.answer.Goals as goal

pub loop-place-init : goal.loop-place-init
loop-place-init c sizes place begin flow log is answers whole =
    records_none sizes place begin flow _ _ log _ _ is answers whole

pub index_mut-shard-requires : goal.index_mut-shard-requires
index_mut-shard-requires c =
    let can = c.requires in
    let records = c.loop-place.invariant can.sizes can.place can.begin can.flow can.log can.conn_is can.answers
    can.recorded in
    let next = is_next _ _ _ _ _ _ _ records.more c.in-Some.ensures.some in
    let below : c.in-Some.place < length c.loop-place.shards.items = place_there _ _ _ _ _ _ _ next in
    let same : vec_len c.loop-place.shards ≡ length c.loop-place.shards.items = search rules in
    omega (arith, below, same)

pub note_run-requires : goal.note_run-requires
note_run-requires c =
    let can = c.requires in
    let records = c.loop-place.invariant can.sizes can.place can.begin can.flow can.log can.conn_is can.answers
    can.recorded in
    let shards = c.loop-place.shards.items in
    let below : c.in-Some.place < length shards =
    place_there _ _ _ _ _ _ _ (is_next _ _ _ _ _ _ _ records.more c.in-Some.ensures.some) in
    let got = slice_get_read shards (length shards) c.in-Some.place c.index_mut-shard.result.now refl below
    c.index_mut-shard.ensures.value in
    let reply = reply_is c.in-Some.place c.in-Some.piece c.run_in_place-answer.result _ _
    c.new-reply.ensures c.kind-kind.ensures in
    let entry = entry_is c.in-Some.place c.in-Some.piece c.of-sent.result.value c.run_in_place-answer.result
    (shown c.new-reply.result) c.of-sent.ensures reply in
    record {
      may = can_note _ _ _ _ _ _ _ _ _ _ _ _ _ _ records c.in-Some.ensures.some got
          c.run_in_place-answer.ensures.step c.of-sent.result.value c.new-reply.result.answer entry;
      reply = reply ∙ ap reply_to (sym entry);
    }

pub loop-place-smaller : goal.loop-place-smaller
loop-place-smaller c =
    let can = c.requires in
    let records = c.loop-place.invariant can.sizes can.place can.begin can.flow can.log can.conn_is can.answers
    can.recorded in
    let next = is_next _ _ _ _ _ _ _ records.more c.in-Some.ensures.some in
    one_less _ _ _ _ c.accept.new.self _ _ _ _ next (c.in-Ok.ensures.ok _ next.sent_is).1

pub loop-place-preserved : goal.loop-place-preserved
loop-place-preserved c sizes place begin flow log is answers whole =
    let records = c.loop-place.invariant sizes place begin flow log is answers whole in
    let shards = c.loop-place.shards.items in
    let below : c.in-Some.place < length shards =
    place_there _ _ _ _ _ _ _ (is_next _ _ _ _ _ _ _ records.more c.in-Some.ensures.some) in
    let got = slice_get_read shards (length shards) c.in-Some.place c.index_mut-shard.result.now refl below
    c.index_mut-shard.ensures.value in
    let reply = reply_is c.in-Some.place c.in-Some.piece c.run_in_place-answer.result _ _
    c.new-reply.ensures c.kind-kind.ensures in
    let entry = entry_is c.in-Some.place c.in-Some.piece c.of-sent.result.value c.run_in_place-answer.result
    (shown c.new-reply.result) c.of-sent.ensures reply in
    records_step _ _ _ _ _ _ _ _ _ _ _ _ _ _ _ _ _ _ _ records c.in-Some.ensures.some got
    c.run_in_place-answer.ensures.step reply (λ sent_is. c.in-Ok.ensures.ok _ sent_is) entry
    (c.note_run.ensures sizes place begin flow.taken records.more.log records.more.answers.mine records.recorded)

pub unreachable-requires : goal.unreachable-requires
unreachable-requires c =
    let can = c.requires in
    let records = c.loop-place.invariant can.sizes can.place can.begin can.flow can.log can.conn_is can.answers
    can.recorded in
    let next = is_next _ _ _ _ _ _ _ records.more c.in-Some.ensures.some in
    let reply = reply_is c.in-Some.place c.in-Some.piece c.run_in_place-answer.result _ _
    c.new-reply.ensures c.kind-kind.ensures in
    never_strange _ _ _ _ _ _ _ _ _ next reply (λ sent_is. (c.in_default-accept.ensures.err _ sent_is).0)

pub returns : goal.returns
returns c sizes place begin flow log is answers whole =
    let records = c.loop-place.invariant sizes place begin flow log is answers whole in
    let more = records.more in
    let none = c.in_default.ensures.none (flow_more flow more) more.conn_is in (
      record {
        more = record {
          out = more.out;
          lent = more.lent;
          accepted = more.accepted;
          log = more.log;
          conn_is = none.1;
          answers = more.answers;
          handed = more.handed;
        };
        recorded = records.recorded;
      },
      none.0,
    )
