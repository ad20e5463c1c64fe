-- Replies have come in, and no piece has left.
use Rattle.std.proofs.Common.{◌≡◌, length}
use Rattle.mc_session.specs.Records.{KeepsPlace}
use Rattle.mc_session.specs.internal.Carrying.{ShardLinkGoesOn, NoneOut}
use Rattle.mc_session.proofs.shard_link.ShardLink.receive_from.Given as goal

abbrev pub invariant-loop : goal.invariant-loop
invariant-loop g l = record {
  goes : ShardLinkGoesOn NoneOut l.fn.self l.fn.conn l.self l.conn;
  blocked : l.self.blocked ≡ l.fn.self.blocked;
  called : l.self.uncalled ≡ l.fn.self.uncalled;
  same : length l.self.under_way.items ≡ length l.fn.self.under_way.items;
  places : l.self.places ≡ l.fn.self.places;
  kept : KeepsPlace l.fn.self l.self;
}
