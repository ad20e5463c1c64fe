use Rattle.std.proofs.Common.{◌≡◌, ◌≢◌, ◌<◌, ℕ, true, refl, sym, ◌∙◌, subst, arith, length}
use Rattle.mc_ring.specs.EndsLaws.{get-set_other}
use Rattle.mc_worker.specs.declared.worker.Next.TheVariants as next
use Rattle.mc_worker.specs.declared.worker.Served.{Served}
use Rattle.mc_worker.specs.declared.worker.Served.TheVariants as left
use Rattle.mc_worker.specs.WorkerState.{WorkerState, Goes}
use Rattle.mc_worker.specs.WorkerStateLaws.{goes_refl, goes_trans}
use Rattle.mc_worker.specs.Marks.{Marks}
use Rattle.mc_worker.specs.Serves.{ServesSeat}
use Rattle.mc_worker.specs.internal.Serving.{marked_after}
use Rattle.mc_worker.proofs.Marking.{marks_refl, marks_trans}
use Rattle.mc_worker.proofs.worker.Worker.serve_requests.Goals as goal
use Rattle.mc_worker.proofs.worker.Worker.serve_requests.Goals.{in-Sent, in-Ended}

none_yet : (P : Type 0) → 0 < 0 → P
none_yet P e = absurd (omega (arith, e))

-- What was served, and one request more.
served_on : (old mid new : WorkerState) (seat : ℕ) → ServesSeat old seat mid → Goes mid new → ServesSeat old seat new
served_on old mid new seat served goes =
    record {
      turn = served.turn;
      next = served.next;
      turned = served.turned;
      found = served.found;
      more = goes_trans _ _ _ served.more goes;
    }

-- A request is served, after those before it.
serves_more : (old mid new : WorkerState) (seat : ℕ) (served : Served) → (served ≡ left.Nothing → mid ≡ old)
    → (served ≢ left.Nothing → ServesSeat old seat mid) → ServesSeat mid seat new → Goes mid new
    → ServesSeat old seat new
serves_more old mid new seat left.Nothing begins before here goes =
    subst (λ (d : WorkerState). ServesSeat d seat new) (begins refl) here
serves_more old mid new seat left.All begins before here goes =
    served_on old mid new seat (before (λ e. absurd (cc e))) goes
serves_more old mid new seat left.Part begins before here goes =
    served_on old mid new seat (before (λ e. absurd (cc e))) goes

pub loop-init : goal.loop-init
loop-init g c = record {
  goes = goes_refl c.args.self.now;
  marks = marks_refl c.args.self.now c.args.given.now;
  others = λ other apart apart_first. refl;
  free = c.requires.free;
  begins = λ first. refl;
  serves = λ some. absurd (some refl);
  some = none_yet _;
}

pub returns-in-Nothing-clause-goes : goal.returns-in-Nothing-clause-goes
returns-in-Nothing-clause-goes g c = goes_trans _ _ _ c.loop.invariant.goes c.serve_next.ensures.goes

pub returns-in-Nothing-clause-marks : goal.returns-in-Nothing-clause-marks
returns-in-Nothing-clause-marks g c =
    let known : c.args.seat < length c.loop.given =
    (let a = c.loop.auto.given in let b = c.requires.given in let d = c.requires.seat in omega arith) in
    let marks : Marks c.loop.self c.serve_next.new.self c.loop.given c.loop.given =
    subst (λ outcome. Marks c.loop.self c.serve_next.new.self c.loop.given
    (marked_after outcome c.args.seat c.loop.given)) c.in-Nothing.is (c.serve_next.ensures.marks c.loop.given known) in
    marks_trans c.args.self.now c.loop.self c.serve_next.new.self c.args.given.now c.loop.given c.loop.given
    c.loop.invariant.marks marks

pub returns-in-Nothing-clause-serves : goal.returns-in-Nothing-clause-serves
returns-in-Nothing-clause-serves g c =
    λ some. served_on c.args.self.now c.loop.self c.serve_next.new.self c.args.seat (c.loop.invariant.serves some)
    c.serve_next.ensures.goes

pub returns-in-Nothing-clause-rests : goal.returns-in-Nothing-clause-rests
returns-in-Nothing-clause-rests g c =
    λ none. rw (← c.loop.invariant.begins none) (c.serve_next.ensures.nothing c.in-Nothing.is)

pub returns-in-Nothing-clause-all : goal.returns-in-Nothing-clause-all
returns-in-Nothing-clause-all g c =
    λ all. record {
      last = c.loop.self;
      goes = c.loop.invariant.goes;
      found = c.serve_next.ensures.nothing c.in-Nothing.is;
    }

pub returns-in-Full-clause-goes : goal.returns-in-Full-clause-goes
returns-in-Full-clause-goes g c = goes_trans _ _ _ c.loop.invariant.goes c.serve_next.ensures.goes

pub returns-in-Full-clause-marks : goal.returns-in-Full-clause-marks
returns-in-Full-clause-marks g c =
    let known : c.args.seat < length c.loop.given =
    (let a = c.loop.auto.given in let b = c.requires.given in let d = c.requires.seat in omega arith) in
    let marks : Marks c.loop.self c.serve_next.new.self c.loop.given c.loop.given =
    subst (λ outcome. Marks c.loop.self c.serve_next.new.self c.loop.given
    (marked_after outcome c.args.seat c.loop.given)) c.in-Full.is (c.serve_next.ensures.marks c.loop.given known) in
    marks_trans c.args.self.now c.loop.self c.serve_next.new.self c.args.given.now c.loop.given c.loop.given
    c.loop.invariant.marks marks

pub returns-in-Full-clause-serves : goal.returns-in-Full-clause-serves
returns-in-Full-clause-serves g c = λ part.
    serves_more c.args.self.now c.loop.self c.serve_next.new.self c.args.seat _ c.loop.invariant.begins
    c.loop.invariant.serves
    (c.serve_next.ensures.serves (λ e. absurd (let f : next.Full ≡ next.Nothing = sym c.in-Full.is ∙ e in cc)))
    c.serve_next.ensures.goes

pub loop-preserved : goal.loop-preserved
loop-preserved g c =
    let known : c.args.seat < length c.loop.given =
    (let a = c.loop.auto.given in let b = c.requires.given in let d = c.requires.seat in omega arith) in
    let marks = c.serve_next.ensures.marks c.loop.given known in
    record {
      goes = goes_trans _ _ _ c.loop.invariant.goes c.serve_next.ensures.goes;
      marks =
          marks_trans c.args.self.now c.loop.self c.serve_next.new.self c.args.given.now c.loop.given
          c.match-serve_next.given c.loop.invariant.marks
          (elim c.match-serve_next.branch [
            | in-Sent w ↦ rw w.given-is
                (subst (λ outcome. Marks c.loop.self c.serve_next.new.self c.loop.given
                (marked_after outcome c.args.seat c.loop.given)) w.in-Sent.is marks)
            | in-Ended w ↦ rw w.given-is
                (subst (λ outcome. Marks c.loop.self c.serve_next.new.self c.loop.given
                (marked_after outcome c.args.seat c.loop.given)) w.in-Ended.is marks)
          ]);
      others = elim c.match-serve_next.branch [
        | in-Sent w ↦ rw w.given-is (λ other apart apart_first.
            get-set_other c.loop.given c.args.seat other true apart
            ∙ c.loop.invariant.others other apart apart_first)
        | in-Ended w ↦ rw w.given-is c.loop.invariant.others
      ];
      free =
          c.serve_next.ensures.free
          (elim c.match-serve_next.branch [
            | in-Sent w ↦ λ e. absurd (let f : next.Sent ≡ next.Full = sym w.in-Sent.is ∙ e in cc)
            | in-Ended w ↦ λ e. absurd (let f : next.Ended ≡ next.Full = sym w.in-Ended.is ∙ e in cc)
          ]);
      begins = λ e. absurd (cc e);
      serves =
          λ some. serves_more c.args.self.now c.loop.self c.serve_next.new.self c.args.seat _ c.loop.invariant.begins
          c.loop.invariant.serves
          (c.serve_next.ensures.serves
          (elim c.match-serve_next.branch [
            | in-Sent w ↦ λ e. absurd (let f : next.Sent ≡ next.Nothing = sym w.in-Sent.is ∙ e in cc)
            | in-Ended w ↦ λ e. absurd (let f : next.Ended ≡ next.Nothing = sym w.in-Ended.is ∙ e in cc)
          ]))
          c.serve_next.ensures.goes;
      some = λ more e. absurd (cc e);
    }
