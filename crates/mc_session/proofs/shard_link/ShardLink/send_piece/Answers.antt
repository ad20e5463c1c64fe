-- A piece that has left the connection is sent, or put back.
use Rattle.std.proofs.Common.{◌≡◌, ◌+◌, length, refl, arith, rules, vec_len}
use Rattle.std.proofs.lemmas.Option.{slice_get_read}
use Rattle.mc_ring.specs.declared.request.Request.TheVariants as request
use Rattle.mc_split.specs.declared.plan.Piece.{Piece}
use Rattle.mc_session.proofs.Credit.{within_set}
use Rattle.mc_session.proofs.Carrying.{PutsBack, back_again, next_there, none_left, same_piece, sent_one, still_back}
use Rattle.mc_session.proofs.Recording.{routes_still, sends_due, stays_recorded, still_recorded}
use Rattle.mc_session.specs.Ending.{StandsStill}
use Rattle.mc_session.specs.Records.{RecordsAll, RecordsAllOf}
use Rattle.mc_ring.specs.EndsLaws.{same_ends-refl}
use Rattle.mc_session.proofs.shard_link.ShardLink.send_piece.Goals as goal

pub returns-in_default-clause-goes : goal.returns-in_default-clause-goes
returns-in_default-clause-goes g c =
    none_left _ (RecordsAllOf c.args.self.now) c.args.self.now.ends c.args.self.now.under_way.items c.args.conn.now
    c.next_piece.new.self c.in_default.ensures.none

pub index-count-requires : goal.index-count-requires
index-count-requires g c =
    let there = next_there _ _ _ _ _ c.in-Some.shard c.in-Some.piece c.requires c.in-Some.ensures.some in
    let below = there.1 in
    let same : vec_len c.args.self.now.under_way ≡ length c.args.self.now.under_way.items = search rules in
    omega (arith, below, same)

pub returns-then-count-self-clause-goes : goal.returns-then-count-self-clause-goes
returns-then-count-self-clause-goes g c =
    let still : StandsStill c.args.self.now.ends c.args.self.now.ends =
    record { same = same_ends-refl c.args.self.now.ends; sent = λ s. refl; received = λ s. refl } in
    back_again _ (RecordsAllOf c.args.self.now) (RecordsAllOf c.args.self.now) c.args.self.now.ends c.args.self.now.ends
    c.args.self.now.under_way.items c.args.conn.now c.next_piece.new.self c.not_sent.new.self c.in-Some.shard
    c.in-Some.piece (λ so. let bad = so.1 in absurd (cc)) (still_recorded g.C.Clerk c.args.self.now.clerk) still
    c.in-Some.ensures.some c.not_sent.ensures

pub send_with-requires-clause-may : goal.send_with-requires-clause-may
send_with-requires-clause-may g c end here =
    c.token-token.ensures.shows c.in-Some.shard end.past.channel.route end.past.sent (request.Piece c.in-Some.piece)
    (λ keeps. (
      (c.args.self.now.routed keeps).each c.in-Some.shard end here,
      sends_due g.C.Clerk c.args.self.now.clerk c.args.self.now.ends c.args.self.now.under_way.items c.args.conn.now
          c.next_piece.new.self c.in-Some.shard c.in-Some.piece c.requires c.in-Some.ensures.some end here keeps,
    ))

pub send_with-requires-clause-shard : goal.send_with-requires-clause-shard
send_with-requires-clause-shard g c =
    (next_there _ _ _ _ _ c.in-Some.shard c.in-Some.piece c.requires c.in-Some.ensures.some).0

pub index_mut-requires : goal.index_mut-requires
index_mut-requires g c =
    let there = next_there _ _ _ _ _ c.in-Some.shard c.in-Some.piece c.requires c.in-Some.ensures.some in
    let below = there.1 in
    let same : vec_len c.args.self.now.under_way ≡ length c.args.self.now.under_way.items = search rules in
    omega (arith, below, same)

pub returns-in-Ok-clause-goes : goal.returns-in-Ok-clause-goes
returns-in-Ok-clause-goes g c =
    let ways = c.args.self.now.under_way.items in
    let there = next_there _ _ _ _ _ c.in-Some.shard c.in-Some.piece c.requires c.in-Some.ensures.some in
    let was = c.index-count.result.now in
    let got = slice_get_read ways (length ways) c.in-Some.shard was refl there.1 c.index-count.ensures in
    let token = c.token-token.ensures in
    sent_one _ (RecordsAll g.C.Clerk c.args.self.now.clerk) (RecordsAll g.C.Clerk c.token-token.new.self)
    c.args.self.now.ends c.send_with.new.self ways c.args.conn.now c.next_piece.new.self c.in-Some.shard (was + 1) was
    c.in-Some.piece (λ so. let bad = so.0 in absurd (cc))
    (stays_recorded g.C.Clerk c.args.self.now.clerk c.token-token.new.self token.opened token.taken token.work
    token.answers) got refl c.in-Ok.ensures.channel c.in-Ok.ensures.same c.in-Some.ensures.some

pub returns-in-Piece-clause-goes : goal.returns-in-Piece-clause-goes
returns-in-Piece-clause-goes g c =
    let still = still_back _ _ c.in-Some.shard c.args.self.now.ends c.send_with.new.self c.in-Err.ensures.channel
    c.in-Err.ensures.same in
    let same = same_piece c.in-Some.piece c.in-Piece.piece _ _ _ _ c.in-Err.ensures.channel c.in-Piece.is in
    let P : Piece → Type 0 = λ p. PutsBack c.next_piece.new.self c.in-Some.shard p c.not_sent-in-Piece.new.self in
    let token = c.token-token.ensures in
    back_again _ (RecordsAll g.C.Clerk c.args.self.now.clerk) (RecordsAll g.C.Clerk c.token-token.new.self)
    c.args.self.now.ends c.send_with.new.self c.args.self.now.under_way.items c.args.conn.now c.next_piece.new.self
    c.not_sent-in-Piece.new.self c.in-Some.shard c.in-Some.piece (λ so. let bad = so.1 in absurd (cc))
    (stays_recorded g.C.Clerk c.args.self.now.clerk c.token-token.new.self token.opened token.taken token.work
    token.answers) still c.in-Some.ensures.some (rw same c.not_sent-in-Piece.ensures)

pub invariant_of-self-in-Ok-clause-in_credit : goal.invariant_of-self-in-Ok-clause-in_credit
invariant_of-self-in-Ok-clause-in_credit g c =
    let ways = c.args.self.now.under_way.items in
    let there = next_there _ _ _ _ _ c.in-Some.shard c.in-Some.piece c.requires c.in-Some.ensures.some in
    let was = c.index-count.result.now in
    let got = slice_get_read ways (length ways) c.in-Some.shard was refl there.1 c.index-count.ensures in
    let room = c.if-count-self.false in
    within_set c.args.self.now.places ways c.in-Some.shard (was + 1) was got (omega (arith, room))
    c.args.self.now.in_credit

pub invariant_of-self-in-Ok-clause-routed : goal.invariant_of-self-in-Ok-clause-routed
invariant_of-self-in-Ok-clause-routed g c keeps =
    routes_still _ _ _ _ c.token-token.ensures.route c.in-Ok.ensures.same (c.args.self.now.routed keeps)

pub invariant_of-self-in-Err-clause-routed : goal.invariant_of-self-in-Err-clause-routed
invariant_of-self-in-Err-clause-routed g c keeps =
    routes_still _ _ _ _ c.token-token.ensures.route c.in-Err.ensures.same (c.args.self.now.routed keeps)

pub returns-in_default-clause-kept : goal.returns-in_default-clause-kept
returns-in_default-clause-kept g c = record { route = refl; place = λ keeps. refl }

pub returns-then-count-self-clause-kept : goal.returns-then-count-self-clause-kept
returns-then-count-self-clause-kept g c = record { route = refl; place = λ keeps. refl }

pub returns-in-Ok-clause-kept : goal.returns-in-Ok-clause-kept
returns-in-Ok-clause-kept g c = record {
  route = c.token-token.ensures.route;
  place = λ keeps. c.token-token.ensures.place;
}

pub returns-in-Piece-clause-kept : goal.returns-in-Piece-clause-kept
returns-in-Piece-clause-kept g c = record {
  route = c.token-token.ensures.route;
  place = λ keeps. c.token-token.ensures.place;
}
