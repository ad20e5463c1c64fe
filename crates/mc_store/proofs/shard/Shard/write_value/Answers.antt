use Rattle.std.proofs.Common.{◌≡◌, ◌+◌, sym, ◌∙◌, Some, true, false, inr, length}
use Rattle.mc_store.specs.State.{item_overhead, without_dead}
use Rattle.mc_store.specs.Step.{is_too_large, writes}
use Rattle.mc_store.specs.Shard.{IsShard, held_of}
use Rattle.mc_store.specs.internal.Parts.{answered}
use Rattle.mc_store.proofs.Writes.{large_there, too_large, writes_is, along, fits_both}
use Rattle.mc_store.proofs.Counts.{done_with}
use Rattle.mc_store.proofs.shard.Shard.write_value.Goals as goal

pub returns-then-is_too_large-clause-does : goal.returns-then-is_too_large-clause-does
unfolding IsShard
returns-then-is_too_large-clause-does c = λ reply state h.
    let large : is_too_large (without_dead state (Some c.args.key)) c.args.key c.args.item.value ≡ true =
    large_there (held_of c.args.self.now) state c.args.key c.args.item.value c.len.result true h
    (sym c.len.ensures.value) (sym c.is_too_large.ensures ∙ c.if-is_too_large.true) in
    too_large (without_dead state (Some c.args.key)) c.args.key c.args.token c.args.item.value
    (λ unique. record c.args.item { unique = unique }) reply (held_of c.remove_dead.new.self) large
    (c.remove_dead.ensures state h)

pub write_done-requires : goal.write_done-requires
write_done-requires c =
    let both = fits_both c.args.self.now.limit c.len.result c.args.self.now.items.budget
    (length c.args.key + c.len.result + item_overhead) (sym c.is_too_large.ensures ∙ c.if-is_too_large.false) in
    record { fits = inr (rw (← c.len.ensures.value) both.1) }

pub returns-clause-does : goal.returns-clause-does
unfolding IsShard
returns-clause-does c = λ reply state h.
    let settled = without_dead state (Some c.args.key) in
    let small : is_too_large settled c.args.key c.args.item.value ≡ false =
    large_there (held_of c.args.self.now) state c.args.key c.args.item.value c.len.result false h
    (sym c.len.ensures.value) (sym c.is_too_large.ensures ∙ c.if-is_too_large.false) in
    along settled (done_with settled c.args.key c.args.token (λ unique. record c.args.item { unique = unique }) 0 reply)
    (writes settled c.args.key c.args.token c.args.item.value (λ unique. record c.args.item { unique = unique }) reply)
    (answered reply c.write_done.result) (held_of c.write_done.new.self)
    (writes_is settled c.args.key c.args.token c.args.item.value (λ unique. record c.args.item { unique = unique })
    reply small) (c.write_done.ensures.does reply state h)
