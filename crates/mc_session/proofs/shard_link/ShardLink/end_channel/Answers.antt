-- End was sent on the channel, or the channel was full.
use Rattle.std.proofs.Common.{◌∙◌, ℕ, Ok, [], ◌∷◌, sym, ap}
use Rattle.mc_ring.specs.declared.request.Request.{Request}
use Rattle.mc_ring.specs.declared.request.Request.TheVariants as request
use Rattle.mc_ring.specs.Reply.{Shown}
use Rattle.mc_ring.specs.Channel.{Near}
use Rattle.mc_ring.specs.Ends.{AreSameEnds, AtChannel, Ends, Sends}
use Rattle.mc_ring.specs.EndsLaws.{at_channel-kept, at_channel-longer, at_channel-other}
use Rattle.mc_session.specs.Ending.{EndsOne}
use Rattle.mc_session.proofs.Carrying.{still_back}
use Rattle.mc_session.proofs.Recording.{past_kept, routes_still}
use Rattle.mc_session.proofs.shard_link.ShardLink.end_channel.Goals as goal
use Rattle.mc_session.proofs.shard_link.ShardLink.end_channel.Goals.{in-Ok, in-Err}

-- an End that was sent, and what that leaves as it was
ends_one : (shard : ℕ) (ends ends' : Ends Near)
    → AtChannel (Sends {Out = Request} {In = Shown} {T = Request} (λ (sent : Request). sent) request.End (Ok tt)) shard
    ends ends' → AreSameEnds ends ends' → EndsOne shard ends ends'
ends_one shard ends ends' at same =
    let says : Near → Near → Type 0 =
    Sends {Out = Request} {In = Shown} {T = Request} (λ (sent : Request). sent) request.End (Ok tt) in
    record {
      same = same;
      sent =
          at_channel-longer says (λ (end : Near). end.past.sent) shard (request.End ∷ []) ends ends'
          (λ x y said. ap (λ p. p.sent) said.sent) at;
      others = λ s other. at_channel-other says (λ (end : Near). end.past.sent) shard s ends ends' at other;
      received =
          λ s. at_channel-kept says (λ (end : Near). end.past.received) shard s ends ends'
          (λ x y said. ap (λ p. p.received) said.sent) at;
    }

pub send_with-requires-clause-shard : goal.send_with-requires-clause-shard
send_with-requires-clause-shard g c = c.requires

pub send_with-requires-clause-may : goal.send_with-requires-clause-may
send_with-requires-clause-may g c end here =
    c.token-token.ensures.shows c.args.shard end.past.channel.route end.past.sent request.End
    (λ keeps. ((c.args.self.now.routed keeps).each c.args.shard end here, tt))

pub invariant_of-self : goal.invariant_of-self
invariant_of-self g c = record {
  each_shard = c.args.self.now.each_shard ∙ sym c.send_with.ensures.same.count;
  all_called = c.args.self.now.all_called;
  in_credit = c.args.self.now.in_credit;
  routed =
      λ keeps. routes_still _ _ _ _ c.token-token.ensures.route c.send_with.ensures.same (c.args.self.now.routed keeps);
}

pub returns-clause-recorded : goal.returns-clause-recorded
returns-clause-recorded g c ends past =
    past_kept g.C.Clerk c.args.self.now.clerk c.token-token.new.self ends c.token-token.ensures.work
    c.token-token.ensures.answers past

pub returns-clause-ended : goal.returns-clause-ended
returns-clause-ended g c = elim c.match-send_with.branch [
  | in-Ok w ↦ rw w.result-is
      (ends_one c.args.shard c.args.self.now.ends c.send_with.new.self w.in-Ok.ensures.channel w.in-Ok.ensures.same)
  | in-Err w ↦ rw w.result-is tt
]

pub returns-clause-full : goal.returns-clause-full
returns-clause-full g c = elim c.match-send_with.branch [
  | in-Ok w ↦ rw w.result-is tt
  | in-Err w ↦ rw w.result-is
      (still_back request.End _ c.args.shard c.args.self.now.ends c.send_with.new.self w.in-Err.ensures.channel
      w.in-Err.ensures.same)
]
