use Rattle.std.proofs.Common.{◌≡◌, ◌≤◌, length, vec_len}
use Rattle.std.specs.Vec.{vec_capacity}
use Rattle.mc_store.proofs.Runs.{Ran}
use Rattle.mc_store.proofs.shard.Shard.run_all.Given as goal

abbrev pub invariant-loop-op : goal.invariant-loop-op
invariant-loop-op l = record {
  ran : Ran l.initial.self l.yielded l.answers.items l.self;
  long : vec_len l.answers ≡ length l.yielded;
  room : vec_len l.fn.asked ≤ vec_capacity l.answers;
}
