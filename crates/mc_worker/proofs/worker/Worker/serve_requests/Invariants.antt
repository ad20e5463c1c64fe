use Rattle.std.specs.Prelude.{◌≡◌, ◌≢◌, ◌<◌, None}
use Rattle.mc_worker.specs.declared.worker.Served.TheVariants.{Nothing}
use Rattle.mc_worker.specs.WorkerState.{Goes}
use Rattle.mc_worker.specs.Marks.{Marks, MarksNoOther}
use Rattle.mc_worker.specs.Serves.{ServesSeat}
use Rattle.mc_worker.proofs.worker.Worker.serve_requests.Given as goal

abbrev pub invariant-loop : goal.invariant-loop
invariant-loop g l = record {
  goes : Goes l.fn.self l.self;
  marks : Marks l.fn.self l.self l.fn.given l.given;
  others : MarksNoOther l.fn.self l.fn.seat l.fn.given l.given;
  free : l.self.hand ≡ None;
  begins : l.served ≡ Nothing → l.self ≡ l.fn.self;
  serves : l.served ≢ Nothing → ServesSeat l.fn.self l.fn.seat l.self;
  some : 0 < l.counter → l.served ≢ Nothing;
}
