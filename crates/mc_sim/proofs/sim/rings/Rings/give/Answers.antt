use Rattle.std.proofs.Common.{◌≡◌, ◌<◌, ◌≤◌, ◌∙◌, length, Some, refl, ap, sym, true, false, arith, rules, vec_len}
use Rattle.std.specs.List.{slice_get}
use Rattle.std.proofs.lemmas.Option.{slice_get_read}
use Rattle.mc_sim.specs.Laid.{Laid, LooksAt}
use Rattle.mc_sim.proofs.RingsChange.{laid_worker}
use Rattle.mc_sim.proofs.RingsCalls.{worker_state_channels, worker_state_read, gives_empty, gives_for_sure, gives_full}
use Rattle.mc_sim.proofs.RingsCalls.{gives_nowhere, gives_out, gives_reply, out_of}
use Rattle.mc_sim.proofs.sim.rings.Rings.give.Goals as goal

pub returns-then-len-shard-clause-none : goal.returns-then-len-shard-clause-none
returns-then-len-shard-clause-none c =
    let mid : Laid = record {
      seats = c.self.inside.seats.items;
      workers = c.self.inside.workers.items;
      places = c.self.inside.places;
    } in
    let long : vec_len c.self.inside.workers ≡ length c.self.inside.workers.items = search rules in
    let past : length c.self.inside.workers.items ≤ c.args.shard = let a = c.if-len-shard.true in let b =
    c.len.ensures in omega arith in
    rw (← c.self.view_is) (λ test. gives_nowhere mid c.args.shard past)

pub returns-in_default-clause-none : goal.returns-in_default-clause-none
returns-in_default-clause-none c =
    let workers = c.self.inside.workers.items in
    let long : vec_len c.self.inside.workers ≡ length workers = search rules in
    let within : c.args.shard < length workers = let a = c.if-len-shard.false in let b = c.len.ensures in omega arith in
    let there : slice_get c.args.self.now.workers c.args.shard ≡ Some c.index.result.now =
    rw (← c.self.view_is) (slice_get_read workers (length workers) c.args.shard c.index.result.now refl within
    c.index.ensures) in
    λ test. gives_empty c.args.self.now c.args.shard c.index.result.now there
    (sym c.holder.ensures.held ∙ c.in_default.is)

pub returns-then-not-has-clause-none : goal.returns-then-not-has-clause-none
returns-then-not-has-clause-none c =
    let workers = c.self.inside.workers.items in
    let long : vec_len c.self.inside.workers ≡ length workers = search rules in
    let within : c.args.shard < length workers = let a = c.if-len-shard.false in let b = c.len.ensures in omega arith in
    let there : slice_get c.args.self.now.workers c.args.shard ≡ Some c.index.result.now =
    rw (← c.self.view_is) (slice_get_read workers (length workers) c.args.shard c.index.result.now refl within
    c.index.ensures) in
    λ test. gives_out c.args.self.now c.in-Some.seat c.args.shard c.index.result.now there c.in-Some.ensures.within
    (out_of c.if-not-has.ensures)

pub returns-then-self-waiting-clause-none : goal.returns-then-self-waiting-clause-none
returns-then-self-waiting-clause-none c =
    let workers = c.self.inside.workers.items in
    let long : vec_len c.self.inside.workers ≡ length workers = search rules in
    let within : c.args.shard < length workers = let a = c.if-len-shard.false in let b = c.len.ensures in omega arith in
    let there : slice_get c.args.self.now.workers c.args.shard ≡ Some c.index.result.now =
    rw (← c.self.view_is) (slice_get_read workers (length workers) c.args.shard c.index.result.now refl within
    c.index.ensures) in
    λ test. gives_full c.args.self.now _ c.in-Some.seat c.args.shard _ _ c.self-2.inside.places c.index.result.now
    c.look-waiting.ensures (ap (λ (laid : Laid). laid.places) c.self-2.view_is) c.if-self-waiting.true there
    (sym c.holder.ensures.held ∙ c.in-Some.is)

pub turn-requires : goal.turn-requires
turn-requires c =
    let mid : Laid = record {
      seats = c.self-2.inside.seats.items;
      workers = c.self-2.inside.workers.items;
      places = c.self-2.inside.places;
    } in
    let look : LooksAt c.in-Some.seat c.args.shard c.args.self.now mid c.look-waiting.result.0 c.look-waiting.result.1 =
    rw c.self-2.view_is c.look-waiting.ensures in
    worker_state_channels _ mid c.in-Some.seat c.args.shard _ _ c.index_mut.result.now c.self-2.invariant look
    (worker_state_read _ mid c.in-Some.seat c.args.shard _ _ c.index_mut.result.now look c.index_mut.ensures.value)

pub invariant_of-self : goal.invariant_of-self
invariant_of-self c =
    let mid : Laid = record {
      seats = c.self-2.inside.seats.items;
      workers = c.self-2.inside.workers.items;
      places = c.self-2.inside.places;
    } in
    let look : LooksAt c.in-Some.seat c.args.shard c.args.self.now mid c.look-waiting.result.0 c.look-waiting.result.1 =
    rw c.self-2.view_is c.look-waiting.ensures in
    laid_worker mid c.args.shard c.index_mut.result.now c.turn.new.self c.self-2.invariant
    (worker_state_read _ mid c.in-Some.seat c.args.shard _ _ c.index_mut.result.now look c.index_mut.ensures.value)
    c.turn.ensures.keeps

pub returns-in-Gave-clause-given : goal.returns-in-Gave-clause-given
returns-in-Gave-clause-given c =
    let workers = c.self.inside.workers.items in
    let long : vec_len c.self.inside.workers ≡ length workers = search rules in
    let within : c.args.shard < length workers = let a = c.if-len-shard.false in let b = c.len.ensures in omega arith in
    let there : slice_get c.args.self.now.workers c.args.shard ≡ Some c.index.result.now =
    rw (← c.self.view_is) (slice_get_read workers (length workers) c.args.shard c.index.result.now refl within
    c.index.ensures) in
    let mid : Laid = record {
      seats = c.self-2.inside.seats.items;
      workers = c.self-2.inside.workers.items;
      places = c.self-2.inside.places;
    } in
    let look : LooksAt c.in-Some.seat c.args.shard c.args.self.now mid c.look-waiting.result.0 c.look-waiting.result.1 =
    rw c.self-2.view_is c.look-waiting.ensures in
    λ test. gives_reply c.args.self.now mid c.in-Some.seat c.args.shard _ _ c.self-2.inside.places c.index.result.now
    c.index_mut.result.now c.turn.new.self look refl c.if-self-waiting.false there
    (sym c.holder.ensures.held ∙ c.in-Some.is) c.index_mut.ensures.value c.in-Gave.ensures.turned

pub invariant_of-self-2 : goal.invariant_of-self-2
invariant_of-self-2 c =
    let mid : Laid = record {
      seats = c.self-2.inside.seats.items;
      workers = c.self-2.inside.workers.items;
      places = c.self-2.inside.places;
    } in
    let look : LooksAt c.in-Some.seat c.args.shard c.args.self.now mid c.look-waiting.result.0 c.look-waiting.result.1 =
    rw c.self-2.view_is c.look-waiting.ensures in
    laid_worker mid c.args.shard c.index_mut.result.now c.turn.new.self c.self-2.invariant
    (worker_state_read _ mid c.in-Some.seat c.args.shard _ _ c.index_mut.result.now look c.index_mut.ensures.value)
    c.turn.ensures.keeps

pub returns : goal.returns
returns c =
    let workers = c.self.inside.workers.items in
    let long : vec_len c.self.inside.workers ≡ length workers = search rules in
    let within : c.args.shard < length workers = let a = c.if-len-shard.false in let b = c.len.ensures in omega arith in
    let there : slice_get c.args.self.now.workers c.args.shard ≡ Some c.index.result.now =
    rw (← c.self.view_is) (slice_get_read workers (length workers) c.args.shard c.index.result.now refl within
    c.index.ensures) in
    let mid : Laid = record {
      seats = c.self-2.inside.seats.items;
      workers = c.self-2.inside.workers.items;
      places = c.self-2.inside.places;
    } in
    let look : LooksAt c.in-Some.seat c.args.shard c.args.self.now mid c.look-waiting.result.0 c.look-waiting.result.1 =
    rw c.self-2.view_is c.look-waiting.ensures in
    record {
      given = λ test. absurd (let e : false ≡ true = test in cc);
      none =
          λ test sizes wires was. gives_for_sure _ c.args.self.now mid c.in-Some.seat c.args.shard _ _
          c.self-2.inside.places c.index.result.now c.index_mut.result.now c.turn.new.self c.turn.result look refl
          c.if-self-waiting.false there (sym c.holder.ensures.held ∙ c.in-Some.is) c.index_mut.ensures.value
          c.turn.ensures.turned c.in_default-turn.not-Gave sizes wires was;
    }
