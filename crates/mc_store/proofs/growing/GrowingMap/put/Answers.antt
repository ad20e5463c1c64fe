use Rattle.std.proofs.Common.{◌≡◌, ◌∙◌, ap}
use Rattle.std.specs.Map.{lookup}
use Rattle.lru.specs.LruCache.{lru_cache, put_entries}
use Rattle.mc_wire.specs.SameKey.{same_key}
use Rattle.mc_store.specs.internal.Growing.{entries_of}
use Rattle.mc_store.proofs.TwoLists.{put-used, refused_unless_there}
use Rattle.mc_store.proofs.growing.GrowingMap.put.Goals as goal

pub returns-clause-put : goal.returns-clause-put
returns-clause-put c =
    let key = c.args.key in
    let stored = c.args.stored in
    let before = c.args.self.now in
    let ready = c.prepare.new.self in
    let same : put_entries same_key (lru_cache (entries_of ready) ready.cap) key stored
    ≡ put_entries same_key (lru_cache (entries_of before) before.cap) key stored
    = rw c.prepare.ensures.cap
    (put-used key stored (entries_of before) (entries_of ready) before.cap c.in-Ok.ensures.promoted
    c.in-Ok.ensures.found c.in-Ok.ensures.none) in
    rw (← same) c.put_recent.ensures.put

pub returns-clause-err : goal.returns-clause-err
returns-clause-err c =
    let before = c.args.self.now in
    refused_unless_there c.put_recent.result (lookup (same_key c.args.key) (entries_of before))
    (λ none same. ap entries_of same ∙ c.in-Ok.ensures.none none)
    (λ some. c.put_recent.ensures.succeeds (rw c.in-Ok.ensures.found some)) c.put_recent.ensures.err
