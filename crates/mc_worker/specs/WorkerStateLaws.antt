-- What follows of a worker's turns, one after another, and at its end.
use Rattle.std.proofs.Common.{◌≡◌, ℕ, zero, suc, ◌<◌, Bool, false, None, List, [], ◌∷◌, ◌++◌, length, refl, ap, ◌∙◌}
use Rattle.std.proofs.Common.{arith, map, append_assoc, append-nil}
use Rattle.std.specs.List.{AllByRecursion, slice_get}
use Rattle.mc_ring.specs.declared.request.Request.TheVariants as request
use Rattle.mc_ring.specs.Ends.{AreSameEnds, received_on, sent_on}
use Rattle.mc_ring.specs.EndsLaws.{same_ends-refl, same_ends-trans}
use Rattle.mc_store.specs.State.{State}
use Rattle.mc_model.specs.Log.{Entry, of_asker, pieces_in, replies_in}
use Rattle.mc_worker.specs.WorkerState.{WorkerState, Goes, HasEnded, HasRun, RunsNoMore, end_come}

pub goes_none : (old new : WorkerState) → AreSameEnds old.ends new.ends → RunsNoMore old new → Goes old new
goes_none old new same none =
    record { ends = same; more = []; ran = λ begin log had. rw (append-nil log) (none begin log had) }

pub goes_refl : (worker_state : WorkerState) → Goes worker_state worker_state
goes_refl worker_state = goes_none worker_state worker_state (same_ends-refl worker_state.ends) (λ begin log had. had)

pub goes_trans : (a b c : WorkerState) → Goes a b → Goes b c → Goes a c
goes_trans a b c first second = record {
  ends = same_ends-trans a.ends b.ends c.ends first.ends second.ends;
  more = first.more ++ second.more;
  ran =
      λ begin log had. rw (← append_assoc log first.more second.more)
      (second.ran begin (log ++ first.more) (first.ran begin log had));
}

end_of : (live : List Bool) (seat : ℕ) → seat < length live → AllByRecursion (λ mark. mark ≡ false) live
    → end_come (slice_get live seat) ≡ request.End ∷ []
end_of [] seat within ended = absurd (omega arith)
end_of (mark ∷ live) zero within ended = rw ended.0 refl
end_of (mark ∷ live) (suc seat) within ended = end_of live seat (omega arith) ended.1

-- A worker that has ended took all pieces of a seat and then its End, and gave all replies to these pieces.
pub record RanWhole (worker_state : WorkerState) (log : List Entry) (seat : ℕ) : Type 0 where
  pub taken : received_on worker_state.ends seat ≡ map request.Piece (pieces_in (of_asker seat log)) ++ request.End ∷ []
  pub given : replies_in (of_asker seat log) ≡ sent_on worker_state.ends seat

pub ran_whole : (begin : State) (worker_state : WorkerState) (log : List Entry) (seat : ℕ)
    → HasRun begin worker_state log → HasEnded worker_state → worker_state.hand ≡ None → seat < length worker_state.live
    → RanWhole worker_state log seat
ran_whole begin worker_state log seat ran ended free within = record {
  taken =
      ran.taken seat ∙ ap (λ xs. map request.Piece (pieces_in (of_asker seat log)) ++ xs)
      (end_of worker_state.live seat within ended);
  given = ran.given seat ∙ rw free (append-nil (sent_on worker_state.ends seat));
}
