use Rattle.std.proofs.Common.{arith}
use Rattle.mc_budget.specs.Total.{Name}
use Rattle.mc_transport.proofs.Held.{covered_more}
use Rattle.mc_transport.proofs.reply_memory.ReplyMemory.lease.Goals as goal

pub invariant_of-self-2 : goal.invariant_of-self-2
invariant_of-self-2 c =
    let held = c.args.self.now in
    let longer = c.push.new.self.items in
    let lease = c.in-Ok.lease in
    record {
      within = let within = held.within in let missing = c.requires in omega (arith, within, missing);
      covered = λ (name : Name) limited.
          covered_more held.allowed c.args.allowed held.leases.items longer lease held.memory name limited
          c.in-Ok.ensures.leased c.in_ok-push.ensures.items (held.covered name limited) c.requires;
    }
