use Rattle.std.proofs.Common.{◌≡◌, ◌∷◌, ◌<◌, ◌^◌, List, arith, ap, length, refl, ◌∙◌}
use Rattle.std.specs.Map.{lookup, remove_entry}
use Rattle.mc_wire.specs.SameKey.{same_key}
use Rattle.mc_store.specs.internal.Cached.{CachedItems}
use Rattle.mc_store.specs.internal.Listed.{ListedItem, entry_cost, freed_by, gone, listed_cost, put_in, within}
use Rattle.mc_store.proofs.Listed.{put_is, put_cost, counted_put, room_for_one}
use Rattle.mc_store.proofs.WithoutValue.{freed_fits, freed_is}
use Rattle.mc_store.proofs.items.Items.put.Goals as goal

pub put-requires-clause-room : goal.put-requires-clause-room
put-requires-clause-room c =
    room_for_one c.self.inside.cache.entries c.self.inside.cache.cap c.self.inside.cost c.self.inside.cache.budget
    c.self.invariant

pub freed_by-freed-requires : goal.freed_by-freed-requires
freed_by-freed-requires c =
    let there = lookup (same_key c.args.key) c.self.inside.cache.entries in
    let less = (put_cost c.self.inside.cache.entries c.args.key c.args.item c.self.inside.cost c.self.invariant.counted
    there refl).0 in
    let small : c.self.inside.cost < 2 ^ 64 = omega (arith, c.self.invariant.fits, c.self.invariant.most) in
    rw c.bytes-key_length.ensures.value
    (freed_fits there c.in_ok-old.old (length c.args.key) c.self.inside.cost c.in_ok-old.ensures.old less small)

pub overflow_sub-self-inside : goal.overflow_sub-self-inside
overflow_sub-self-inside c =
    let there = lookup (same_key c.args.key) c.self.inside.cache.entries in
    let freed : c.freed_by-freed.result ≡ freed_by there (length c.args.key) =
    freed_is there c.in_ok-old.old (length c.bytes-key_length.result.now) c.freed_by-freed.result
    c.in_ok-old.ensures.old c.freed_by-freed.ensures.some c.freed_by-freed.ensures.none
    ∙ ap (λ k. freed_by there (length k)) c.bytes-key_length.ensures.value in
    let less = (put_cost c.self.inside.cache.entries c.args.key c.args.item c.self.inside.cost c.self.invariant.counted
    there refl).0 in
    omega arith

pub evict-self-inside-requires : goal.evict-self-inside-requires
evict-self-inside-requires c =
    let there = lookup (same_key c.args.key) c.self.inside.cache.entries in
    let freed : c.freed_by-freed.result ≡ freed_by there (length c.args.key) =
    freed_is there c.in_ok-old.old (length c.bytes-key_length.result.now) c.freed_by-freed.result
    c.in_ok-old.ensures.old c.freed_by-freed.ensures.some c.freed_by-freed.ensures.none
    ∙ ap (λ k. freed_by there (length k)) c.bytes-key_length.ensures.value in
    let added : c.cost_of-added.result ≡ entry_cost (c.args.key, c.args.item) =
    rw (c.cost_of-added.ensures, c.bytes-key_length.ensures.value, c.len.ensures.value) in
    let whole = (put_cost c.self.inside.cache.entries c.args.key c.args.item c.self.inside.cost c.self.invariant.counted
    there refl).1 in
    let entries : c.put.new.self.entries
    ≡ (c.args.key, c.args.item) ∷ remove_entry (same_key c.args.key) c.self.inside.cache.entries =
    ap (λ (items : CachedItems). items.entries) c.in_ok-old.ensures.put
    ∙ put_is c.self.inside.cache.entries c.self.inside.cache.cap c.self.inside.cost c.self.inside.cache.budget
    c.args.key c.args.item c.self.invariant in
    rw (entries, freed, added) whole

pub invariant_of-self-2 : goal.invariant_of-self-2
invariant_of-self-2 c =
    let es = (c.args.key, c.args.item) ∷ remove_entry (same_key c.args.key) c.self.inside.cache.entries in
    let put : c.put.new.self ≡ record c.self.inside.cache { entries = es } =
    c.in_ok-old.ensures.put
    ∙ ap (λ (l : List ListedItem). record c.self.inside.cache { entries = l })
    (put_is c.self.inside.cache.entries c.self.inside.cache.cap c.self.inside.cost c.self.inside.cache.budget
    c.args.key c.args.item c.self.invariant) in
    let left : c.evict-self-inside.new.cache
    ≡ record c.self.inside.cache { entries = within c.self.inside.cache.budget es } =
    c.evict-self-inside.ensures.left
    ∙ ap (λ (items : CachedItems). record items { entries = within items.budget items.entries }) put in
    let counted : c.evict-self-inside.result ≡ listed_cost (within c.self.inside.cache.budget es) =
    c.evict-self-inside.ensures.counted
    ∙ ap (λ (items : CachedItems). listed_cost (within items.budget items.entries)) put in
    let some = rw c.bytes-key_length.ensures.value at c.bytes-key_length.ensures.some in
    rw (left, counted)
    (counted_put c.self.inside.cache.entries c.self.inside.cache.cap c.self.inside.cost c.self.inside.cache.budget
    c.args.key c.args.item c.self.invariant some)

pub returns-clause-put : goal.returns-clause-put
returns-clause-put c =
    let es = (c.args.key, c.args.item) ∷ remove_entry (same_key c.args.key) c.self.inside.cache.entries in
    let put : c.put.new.self ≡ record c.self.inside.cache { entries = es } =
    c.in_ok-old.ensures.put
    ∙ ap (λ (l : List ListedItem). record c.self.inside.cache { entries = l })
    (put_is c.self.inside.cache.entries c.self.inside.cache.cap c.self.inside.cost c.self.inside.cache.budget
    c.args.key c.args.item c.self.invariant) in
    let left : c.evict-self-inside.new.cache
    ≡ record c.self.inside.cache { entries = within c.self.inside.cache.budget es } =
    c.evict-self-inside.ensures.left
    ∙ ap (λ (items : CachedItems). record items { entries = within items.budget items.entries }) put in
    let before : c.len-before.result ≡ length es =
    c.len-before.ensures ∙ ap (λ (items : CachedItems). length items.entries) put in
    let after : c.len-2.result ≡ length (within c.self.inside.cache.budget es) =
    c.len-2.ensures ∙ ap (λ (items : CachedItems). length items.entries) left in
    let went : c.saturating_sub-went.result ≡ gone c.self.inside.cache.budget es =
    rw (c.saturating_sub-went.ensures, before, after) in
    rw (left, went) (ap (put_in c.args.key c.args.item) c.self.view_is)
