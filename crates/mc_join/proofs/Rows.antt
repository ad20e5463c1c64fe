-- Worked rows, computed: a get of two keys whose second answer comes first.
use Rattle.std.proofs.Common.{◌≡◌, ℕ, false, [], ◌∷◌, None, length, refl}
use Rattle.std.specs.Prelude.{codes}
use Rattle.std.specs.Fmt.{digits}
use Rattle.mc_item.specs.declared.answer.Answer.{Answer}
use Rattle.mc_item.specs.declared.answer.Answer.TheVariants as answer
use Rattle.mc_item.specs.OpStats.{no_counts}
use Rattle.mc_item.specs.declared.answer.Kind.TheVariants as kind
use Rattle.mc_ring.specs.Reply.{Shown}
use Rattle.mc_reply.specs.declared.pending_reply.PendingReply.{PendingReply}
use Rattle.mc_reply.specs.declared.pending_reply.ReplyKind.TheVariants as reply_kind
use Rattle.mc_reply.specs.Server.{no_server}
use Rattle.mc_reply.specs.Text.{reply_kind_text}
use Rattle.mc_join.specs.Replies.{replies}

-- the pending reply of `get a b`
abbrev two_keys : PendingReply
two_keys =
    record {
      ticket = record { 0 = 0 };
      kind = kind.Fetch;
      reply_kind = reply_kind.Values (codes "a" ∷ codes "b" ∷ []) false;
      slots = None ∷ None ∷ [];
    }

abbrev second : Shown
second = record { ticket = record { 0 = 0 }; part = 1; kind = kind.Fetch; answer = answer.Miss }

abbrev first : Shown
first = record { ticket = record { 0 = 0 }; part = 0; kind = kind.Fetch; answer = answer.Hit 0 1 (codes "x") }

-- while an answer is missing there is no reply; then it is one, in whichever order the answers came; a
-- complete reply waits for the one before it; and the text has this length
two_replies : (replies (two_keys ∷ []) (second ∷ []) ≡ [])
    × (replies (two_keys ∷ []) (second ∷ first ∷ []) ≡ codes "VALUE a 0 1\r\nx\r\nEND\r\n" ∷ [])
    × (replies (two_keys ∷ []) (first ∷ second ∷ []) ≡ replies (two_keys ∷ []) (second ∷ first ∷ []))
    × (replies (two_keys ∷ record two_keys { ticket = record { 0 = 1 } } ∷ [])
    (record second { ticket = record { 0 = 1 } } ∷ record first { ticket = record { 0 = 1 } } ∷ []) ≡ [])
    × (length (codes "VALUE a 0 1\r\nx\r\nEND\r\n") ≡ 21)
unfolding reply_kind_text digits
two_replies = (refl, refl, refl, refl, refl)

-- the pending reply of `stats` over two shards
abbrev counts_pending_reply : PendingReply
counts_pending_reply =
    record {
      ticket = record { 0 = 0 };
      kind = kind.Stats;
      reply_kind = reply_kind.Stats no_server;
      slots = None ∷ None ∷ [];
    }

-- the counts of a shard that holds the given number of items
abbrev counts : ℕ → Answer
counts items = answer.Stats (record { op_stats = no_counts; evicted = 0; items = items; bytes = 0; budget = 0 })

abbrev told : ℕ → ℕ → Shown
told part items = record { ticket = record { 0 = 0 }; part = part; kind = kind.Stats; answer = counts items }

-- while the counts of a shard are missing there is no reply; then there is one, in whatever order they came
two_shards : (replies (counts_pending_reply ∷ []) (told 1 3 ∷ []) ≡ [])
    × (replies (counts_pending_reply ∷ []) (told 1 3 ∷ told 0 4 ∷ [])
    ≡ reply_kind_text (reply_kind.Stats no_server) (counts 4 ∷ counts 3 ∷ []) ∷ [])
    × (replies (counts_pending_reply ∷ []) (told 0 4 ∷ told 1 3 ∷ [])
    ≡ replies (counts_pending_reply ∷ []) (told 1 3 ∷ told 0 4 ∷ []))
unfolding reply_kind_text digits
two_shards = (refl, refl, refl)
