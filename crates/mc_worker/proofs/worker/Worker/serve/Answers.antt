-- Where a reply is pending, a turn tries to send it, and requests are served after it.
use Rattle.std.proofs.Common.{◌≡◌, ◌≢◌, ◌<◌, ◌∙◌, ℕ, Bool, true, false, Some, None, List, length, slice_set, refl, sym}
use Rattle.std.proofs.Common.{ap, arith, inl, inr}
use Rattle.std.specs.Option.{option_map}
use Rattle.mc_ring.specs.EndsLaws.{get-set_other}
use Rattle.mc_worker.specs.declared.worker.Turn.{Turn}
use Rattle.mc_worker.specs.declared.worker.Turn.TheVariants.{Gave, Blocked, Nothing, Ended, Ran}
use Rattle.mc_worker.specs.WorkerState.{WorkerState}
use Rattle.mc_worker.specs.WorkerStateLaws.{goes_refl, goes_trans}
use Rattle.mc_worker.specs.Marks.{MarksNoOther}
use Rattle.mc_worker.specs.Turns.{GivesIt, Turned}
use Rattle.mc_worker.proofs.Turning.{goes_turn}
use Rattle.mc_worker.proofs.Marking.{is_gave, marks_gave, marks_none, marks_trans}
use Rattle.mc_worker.proofs.worker.Worker.serve.Goals as goal

-- A turn finds something to do where a reply is pending.
found_held : (old : WorkerState) (seat : ℕ) (turn : Turn) (new : WorkerState) (holder : ℕ) → Turned old seat turn new
    → option_map (λ held. held.0) old.hand ≡ Some holder → turn ≢ Nothing
found_held old seat Gave new holder turned held e = absurd (cc e)
found_held old seat Blocked new holder turned held e = absurd (cc e)
found_held old seat Nothing new holder turned held e =
    absurd (let f : None ≡ Some holder = sym (ap (option_map (λ held. held.0)) turned.free) ∙ held in cc)
found_held old seat Ended new holder turned held e = absurd (cc e)
found_held old seat (Ran ticket part moment) new holder turned held e = absurd (cc e)

not_gave : (turn : Turn) → (turn ≡ Gave → ⊥) → is_gave turn ≡ false
not_gave Gave other = absurd (other refl)
not_gave Blocked other = refl
not_gave Nothing other = refl
not_gave Ended other = refl
not_gave (Ran ticket part moment) other = refl

-- The seat that is sent the pending reply is one of those that may be marked.
others_after : (old mid : WorkerState) (seat holder : ℕ) (before marks : List Bool) → GivesIt old mid
    → option_map (λ held. held.0) old.hand ≡ Some holder → MarksNoOther mid seat (slice_set before holder true) marks
    → MarksNoOther old seat before marks
others_after old mid seat holder before marks gave held others other apart apart_first =
    others other apart
    (λ e. absurd (let f : None ≡ Some other =
    sym (ap (λ (d : WorkerState). option_map (λ held. held.0) d.hand) gave.rest) ∙ e in cc))
    ∙ get-set_other before holder other true (λ e. apart_first (held ∙ ap (λ (k : ℕ). Some k) (sym e)))

pub returns-in_default-turn : goal.returns-in_default-turn
returns-in_default-turn g c =
    let old = c.args.self.now in
    let new = c.turn.new.self in
    let held : option_map (λ held. held.0) old.hand ≡ Some c.in-Some.holder =
    sym c.holder.ensures.held ∙ c.in-Some.is in
    record {
      goes = goes_turn old c.args.seat c.turn.result new c.turn.ensures.keeps c.turn.ensures.grows;
      marks =
          marks_none old c.turn.result new c.args.given.now (not_gave c.turn.result c.in_default-turn.not-Gave)
          c.turn.ensures.gives;
      others = λ other apart apart_first. refl;
      serves = λ some. record {
        turn = c.turn.result;
        next = new;
        turned = c.turn.ensures.turned;
        found = found_held old c.args.seat c.turn.result new c.in-Some.holder c.turn.ensures.turned held;
        more = goes_refl new;
      };
      rests = λ none. absurd (cc none);
      all = λ all. absurd (cc all);
    }

pub returns-in-Nothing : goal.returns-in-Nothing
returns-in-Nothing g c =
    let old = c.args.self.now in
    let mid = c.turn.new.self in
    let new = c.serve_requests-2.new.self in
    let first = goes_turn old c.args.seat Gave mid c.in-Gave.ensures.keeps c.in-Gave.ensures.grows in
    let held : option_map (λ held. held.0) old.hand ≡ Some c.in-Some.holder =
    sym c.holder.ensures.held ∙ c.in-Some.is in
    let known : c.in-Some.holder < length c.args.given.now =
    (let a = c.in-Some.ensures.within in let b = c.requires.given in omega arith) in
    record {
      goes = goes_trans old mid new first c.serve_requests-2.ensures.goes;
      marks =
          marks_trans old mid new c.args.given.now (slice_set c.args.given.now c.in-Some.holder true)
          c.serve_requests-2.new.given
          (marks_gave old mid c.in-Some.holder c.args.given.now c.in-Gave.ensures.gives held known)
          c.serve_requests-2.ensures.marks;
      others =
          others_after old mid c.args.seat c.in-Some.holder c.args.given.now c.serve_requests-2.new.given
          c.in-Gave.ensures.turned held c.serve_requests-2.ensures.others;
      serves = λ some. record {
        turn = Gave;
        next = mid;
        turned = c.in-Gave.ensures.turned;
        found = λ e. absurd (cc e);
        more = c.serve_requests-2.ensures.goes;
      };
      rests = λ none. absurd (cc none);
      all = λ all. elim c.in-Nothing.is [
        | inl is ↦ record { last = mid; goes = first; found = c.serve_requests-2.ensures.rests is }
        | inr is ↦ let left = c.serve_requests-2.ensures.all is in
            record { last = left.last; goes = goes_trans old mid left.last first left.goes; found = left.found }
      ];
    }

pub returns-in-Part-clause-goes : goal.returns-in-Part-clause-goes
returns-in-Part-clause-goes g c =
    let old = c.args.self.now in
    let mid = c.turn.new.self in
    let new = c.serve_requests-2.new.self in
    let first = goes_turn old c.args.seat Gave mid c.in-Gave.ensures.keeps c.in-Gave.ensures.grows in
    goes_trans old mid new first c.serve_requests-2.ensures.goes

pub returns-in-Part-clause-marks : goal.returns-in-Part-clause-marks
returns-in-Part-clause-marks g c =
    let old = c.args.self.now in
    let mid = c.turn.new.self in
    let new = c.serve_requests-2.new.self in
    let held : option_map (λ held. held.0) old.hand ≡ Some c.in-Some.holder =
    sym c.holder.ensures.held ∙ c.in-Some.is in
    let known : c.in-Some.holder < length c.args.given.now =
    (let a = c.in-Some.ensures.within in let b = c.requires.given in omega arith) in
    marks_trans old mid new c.args.given.now (slice_set c.args.given.now c.in-Some.holder true)
    c.serve_requests-2.new.given
    (marks_gave old mid c.in-Some.holder c.args.given.now c.in-Gave.ensures.gives held known)
    c.serve_requests-2.ensures.marks

pub returns-in-Part-clause-others : goal.returns-in-Part-clause-others
returns-in-Part-clause-others g c =
    let old = c.args.self.now in
    let mid = c.turn.new.self in
    let held : option_map (λ held. held.0) old.hand ≡ Some c.in-Some.holder =
    sym c.holder.ensures.held ∙ c.in-Some.is in
    others_after old mid c.args.seat c.in-Some.holder c.args.given.now c.serve_requests-2.new.given
    c.in-Gave.ensures.turned held c.serve_requests-2.ensures.others
