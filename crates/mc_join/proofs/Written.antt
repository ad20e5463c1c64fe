-- Replies written one after another, and the result of a counter.
use Rattle.std.proofs.Common.{◌≡◌, ℕ, Bool, true, false, List, ◌∷◌, ◌++◌, length, map, ap, arith, ◌<◌, ◌+◌, take}
use Rattle.std.proofs.Common.{IsTrue, ◌-◌, ◌^◌}
use Rattle.std.specs.Prelude.{Result, Ok, Err}
use Rattle.std.specs.List.{concat}
use Rattle.std.proofs.lemmas.List.{length-take}
use Rattle.mc_wire.specs.Sink.{Counted, Sight, Writes, sight_out}
use Rattle.mc_join.specs.Held.{IsDue}
use Rattle.mc_join.specs.Length.{capped}
use Rattle.mc_join.specs.Replies.{complete, pending_reply_text, is_answered}
use Rattle.mc_reply.specs.declared.pending_reply.PendingReply.{PendingReply}
use Rattle.std.proofs.lemmas.List.Sums.{take_while-cons}
use Rattle.mc_reply.proofs.Texts.{WroteBut}

-- the bytes of the replies to the first pending replies, up to the first that still lacks an answer
abbrev pub texts : List PendingReply → List ℕ
texts pending_replies = concat (map pending_reply_text (complete pending_replies))

-- the first pending reply has all its answers, and its reply is next
pub reply_next : {whole : List ℕ} {old now : Sight} (pending_reply : PendingReply)
    (rest pending_replies : List PendingReply) → pending_replies ≡ pending_reply ∷ rest → IsDue pending_reply
    → WroteBut whole (texts pending_replies) old now
    → WroteBut whole (pending_reply_text pending_reply ++ texts rest) old now
reply_next pending_reply rest pending_replies pending_replies_are due so_far =
    rw (pending_replies_are, take_while-cons is_answered pending_reply rest, due) at so_far

-- The result of a counter to which a text was written.
pub counted : {X E : Type 0} (result : Result X E) (text : List ℕ) (count : ℕ) (full : Bool)
    → (IsTrue full → count ≡ 2 ^ 64 - 1) → count < 2 ^ 64
    → Writes text result (sight_out (Counted 0) false) (sight_out (Counted count) full) → count ≡ capped (length text)
counted (Ok done) text count full most fits wrote =
    let taken : Counted count ≡ Counted (0 + length text) = ap (λ (s : Sight). s.taken) wrote in
    let all : count ≡ 0 + length text = cc in
    omega (arith, all, fits)
counted (Err fault) text count full most fits off =
    let failed : full ≡ true = ap (λ (s : Sight). s.failed) off.sight in
    let taken : Counted count ≡ Counted (0 + length (take off.count text)) = ap (λ (s : Sight). s.taken) off.sight in
    let part : count ≡ 0 + length (take off.count text) = cc in
    omega (arith, most failed, part, off.within, length-take off.count text)
