-- End is sent on one channel after another.
use Rattle.std.proofs.Common.{ℕ, ◌+◌, ◌≤◌, inl, inr, [], ◌∷◌, ◌++◌, length, refl, ap, ◌∙◌, arith}
use Rattle.std.proofs.lemmas.Bool.{cases_eq}
use Rattle.mc_ring.specs.declared.request.Request.TheVariants as request
use Rattle.mc_ring.specs.Channel.{Near}
use Rattle.mc_ring.specs.Ends.{Ends}
use Rattle.mc_ring.specs.EndsLaws.{same_ends-refl, same_ends-trans}
use Rattle.mc_session.specs.Serving.{EndsAll}
use Rattle.mc_session.specs.Ending.{EndsFirst, EndsOne, StandsStill}

-- Before anything happens End was sent on none of the channels.
pub ends_none : (ends : Ends Near) → EndsFirst 0 ends ends
ends_none ends =
    record {
      same = same_ends-refl ends;
      sent = λ s below. absurd (omega (arith, below));
      others = λ s from. refl;
      received = λ s. refl;
    }

-- With End sent on the next channel too, it was sent on one more of the first channels.
pub ends_next : (count : ℕ) (before ends ends' : Ends Near) → EndsFirst count before ends → EndsOne count ends ends'
    → EndsFirst (count + 1) before ends'
ends_next count before ends ends' first one = record {
  same = same_ends-trans before ends ends' first.same one.same;
  sent = λ s below. elim (cases_eq s count) [
    | inl is ↦ rw is (one.sent ∙ ap (λ ps. ps ++ request.End ∷ []) (first.others count (omega arith)))
    | inr other ↦ one.others s other ∙ first.sent s (omega (arith, below, other))
  ];
  others = λ s from. one.others s (λ e. absurd (omega (arith, from, e))) ∙ first.others s (omega (arith, from));
  received = λ s. one.received s ∙ first.received s;
}

-- Once End was sent on as many of the first channels as there are, it was sent on each.
pub ends_all : (count : ℕ) (before ends : Ends Near) → length before.channels ≤ count → EndsFirst count before ends
    → EndsAll before ends
ends_all count before ends whole first = record {
  same = first.same;
  sent = λ s below. first.sent s (omega (arith, below, whole));
  received = first.received;
}

-- Where nothing was sent or received since, End was sent on as many of the first channels as before.
pub ends_still : (count : ℕ) (before ends ends' : Ends Near) → EndsFirst count before ends → StandsStill ends ends'
    → EndsFirst count before ends'
ends_still count before ends ends' first still = record {
  same = same_ends-trans before ends ends' first.same still.same;
  sent = λ s below. still.sent s ∙ first.sent s below;
  others = λ s from. still.sent s ∙ first.others s from;
  received = λ s. still.received s ∙ first.received s;
}
