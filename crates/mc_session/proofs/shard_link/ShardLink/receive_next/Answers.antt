-- A reply is received, and accepted or handed back.
use Rattle.std.proofs.Common.{◌≡◌, ◌+◌, length, refl, arith}
use Rattle.std.proofs.lemmas.Option.{slice_get_read}
use Rattle.mc_session.proofs.Calling.{called_after}
use Rattle.mc_session.proofs.Credit.{within_set}
use Rattle.mc_ring.specs.declared.reply.Reply.{Reply}
use Rattle.mc_ring.specs.Reply.{shown}
use Rattle.mc_session.proofs.Carrying.{received_one, stays_refl, stays_still, still_none}
use Rattle.mc_session.proofs.Recording.{heard_so, hears_one, routes_still}
use Rattle.mc_session.specs.Records.{RecordsAll, RecordsAllOf}
use Rattle.mc_session.proofs.shard_link.ShardLink.receive_next.Goals as goal

pub returns-in_default-clause-goes : goal.returns-in_default-clause-goes
returns-in_default-clause-goes g c =
    stays_refl (RecordsAllOf c.args.self.now) c.args.self.now.ends c.args.self.now.under_way.items c.args.conn.now

pub returns-in_default-receive_with-clause-goes : goal.returns-in_default-receive_with-clause-goes
returns-in_default-receive_with-clause-goes g c =
    stays_still (RecordsAllOf c.args.self.now) c.args.self.now.ends c.receive_with.new.self
    c.args.self.now.under_way.items c.args.conn.now
    (still_none {I = Reply × g.row.T.Denot} (λ got. shown got.0) c.args.shard c.args.self.now.ends
    c.receive_with.new.self c.in_default-receive_with.ensures.channel c.in_default-receive_with.ensures.same)

pub hear-requires : goal.hear-requires
hear-requires g c = record {
  may = λ keeps.
      let channel = c.in-Some-receive_with.ensures.channel in (
        channel.before.past.received,
        rw (← (c.args.self.now.routed keeps).each c.args.shard channel.before channel.here)
            (c.in-Some-receive_with.ensures.may channel.before channel.here),
      );
}

pub invariant_of-self-clause-routed : goal.invariant_of-self-clause-routed
invariant_of-self-clause-routed g c keeps =
    routes_still _ _ _ _ refl c.in_default-receive_with.ensures.same (c.args.self.now.routed keeps)

pub invariant_of-self-2-clause-routed : goal.invariant_of-self-2-clause-routed
invariant_of-self-2-clause-routed g c keeps =
    routes_still _ _ _ _ c.hear.ensures.route c.in-Some-receive_with.ensures.same (c.args.self.now.routed keeps)

pub returns-clause-goes : goal.returns-clause-goes
returns-clause-goes g c =
    let ways = c.args.self.now.under_way.items in
    let got = slice_get_read ways (length ways) c.args.shard c.index.result.now refl c.requires.shard c.index.ensures in
    let less : c.index.result.now ≡ c.in-Some.left + 1 = omega arith in
    received_one {I = Reply × g.row.T.Denot} (λ got. shown got.0) (RecordsAll g.C.Clerk c.args.self.now.clerk)
    (RecordsAll g.C.Clerk c.hear.new.self) c.args.self.now.ends c.receive_with.new.self ways c.args.conn.now
    c.accept.new.self c.args.shard c.in-Some.left c.index.result.now
    (c.in-Some-receive_with.reply, c.in-Some-receive_with.token)
    c.accept.result got less c.in-Some-receive_with.ensures.channel c.in-Some-receive_with.ensures.same
    (hears_one g.C.Clerk c.args.self.now.clerk c.hear.new.self c.args.self.now.ends c.args.shard
    (shown c.in-Some-receive_with.reply) (λ keeps.
    let channel = c.in-Some-receive_with.ensures.channel in
    let hear = c.hear.ensures in
    heard_so g.C.Clerk g.T.Token c.args.self.now.clerk c.hear.new.self c.in-Some-receive_with.token c.args.self.now.ends
    c.args.shard channel.before (shown c.in-Some-receive_with.reply) channel.here (c.args.self.now.routed keeps)
    (c.in-Some-receive_with.ensures.may channel.before channel.here) (hear.answers keeps) (hear.fits keeps) hear.grows
    (hear.opened keeps) hear.taken hear.work)) (record { ok = c.accept.ensures.ok; err = c.accept.ensures.err })

pub invariant_of-self-2-clause-all_called : goal.invariant_of-self-2-clause-all_called
invariant_of-self-2-clause-all_called g c off =
    let ways = c.args.self.now.under_way.items in
    let got = slice_get_read ways (length ways) c.args.shard c.index.result.now refl c.requires.shard c.index.ensures in
    let less : c.index.result.now ≡ c.in-Some.left + 1 = omega arith in
    called_after c.args.self.now.shards ways c.args.shard c.in-Some.left c.index.result.now got less
    (c.args.self.now.all_called off)

pub invariant_of-self-2-clause-in_credit : goal.invariant_of-self-2-clause-in_credit
invariant_of-self-2-clause-in_credit g c =
    let ways = c.args.self.now.under_way.items in
    let got = slice_get_read ways (length ways) c.args.shard c.index.result.now refl c.requires.shard c.index.ensures in
    let few = c.args.self.now.in_credit c.args.shard c.index.result.now got in
    let less : c.index.result.now ≡ c.in-Some.left + 1 = omega arith in
    within_set c.args.self.now.places ways c.args.shard c.in-Some.left c.index.result.now got (omega (arith, few, less))
    c.args.self.now.in_credit

pub returns-clause-kept : goal.returns-clause-kept
returns-clause-kept g c = record {
  route = c.hear.ensures.route;
  place = λ keeps. c.hear.ensures.place keeps (c.requires.carries.as_recorded keeps).0.0;
}

pub returns-in_default-clause-kept : goal.returns-in_default-clause-kept
returns-in_default-clause-kept g c = record { route = refl; place = λ keeps. refl }

pub returns-in_default-receive_with-clause-kept : goal.returns-in_default-receive_with-clause-kept
returns-in_default-receive_with-clause-kept g c = record { route = refl; place = λ keeps. refl }
