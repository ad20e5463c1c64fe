-- The source and the clerk of one slot more are taken, at last those of all.
use Rattle.std.proofs.Common.{◌≡◌, List, [], ◌∷◌, ◌++◌, ◌∙◌, ap, append_assoc, append-nil, sym}
use Rattle.std.specs.Vec.Iter.{into_iter_items}
use Rattle.mc_record.specs.Clerk.{IsSeatActor}
use Rattle.mc_session.proofs.Orders.{all_join}
use Rattle.mc_session.specs.Routes.{AreOnRoutes}
use Rattle.mc_session.specs.Session.{seat_clerk, seat_ends}
use Rattle.mc_serve.specs.Recorded.{route_from}
use Rattle.mc_serve.proofs.Zipped.{empty_when}
use Rattle.mc_serve.proofs.settling.finish_all.Goals as goal

-- one more is taken
one_more : {A : Type 0} (done done' : List A) (x y : A) (left all : List A) → done' ≡ done ++ x ∷ [] → x ≡ y → done
    ++ y ∷ left ≡ all → done' ++ left ≡ all
one_more done done' x y left all grown same order =
    ap (λ xs. xs ++ left) grown ∙ (append_assoc done (x ∷ []) left ∙ (ap (λ z. done ++ z ∷ left) same ∙ order))

pub loop-slot-init : goal.loop-slot-init
loop-slot-init g c =
    let given = c.into_iter-slot-iterator.ensures.into_iter_gives.0 in
    record {
      sources = rw (c.requires.no_sources, given);
      clerks = rw (c.requires.no_clerks, given);
      actors = λ all. rw given at all;
      routes = λ all. rw given at all;
    }

pub loop-slot-preserved : goal.loop-slot-preserved
loop-slot-preserved g c =
    let was = c.loop-slot.invariant in
    let step = c.in-Some.ensures.steps in
    let done = c.finish-source.ensures in
    record {
      sources =
          one_more c.loop-slot.sources.items _ c.finish-source.result.0 c.in-Some.slot.source _ _
          c.in_ok-push.ensures.items done.source (rw step.0 at was.sources);
      clerks =
          one_more c.loop-slot.clerks.items _ c.finish-source.result.1 (seat_clerk c.in-Some.slot.session) _ _
          c.in_ok-push-2.ensures.items done.clerk (rw step.0 at was.clerks);
      actors =
          λ others. was.actors (all_join (λ slot. IsSeatActor (seat_clerk slot.session)) _ c.in-Some.slot _ step.0
          (rw done.clerk at done.actor) others);
      routes =
          λ others. was.routes (all_join (λ slot. AreOnRoutes (route_from (seat_clerk slot.session))
          (seat_ends slot.session)) _ c.in-Some.slot _ step.0 (rw done.clerk at done.routes) others);
    }

pub returns : goal.returns
returns g c =
    let was = c.loop-slot.invariant in
    let none : into_iter_items c.loop-slot.slot-iterator ≡ [] =
    empty_when _ (sym c.loop-slot.slot-iterator.rest.ok.0 ∙ c.in-None.ensures.steps.0) in
    record {
      sources = sym (append-nil c.loop-slot.sources.items) ∙ rw none at was.sources;
      clerks = sym (append-nil c.loop-slot.clerks.items) ∙ rw none at was.clerks;
      actors = was.actors (rw none tt);
      routes = was.routes (rw none tt);
    }
