-- A free slot accepts; the connection that is out begins, is served, or has ended and is returned.
use Rattle.std.proofs.Common.{◌≡◌, refl}
use Rattle.mc_serve.proofs.Steps.{accepted, closes_on, serves_another, serves_on, stands_out}
use Rattle.mc_serve.proofs.connection_slot.ConnectionSlot.step.Goals as goal
use Rattle.mc_serve.proofs.connection_slot.ConnectionSlot.step.Goals.{in-Some, in_default}

pub returns-in-Free : goal.returns-in-Free
returns-in-Free g c shards rules was stands =
    rw c.accept.ensures.session
    (accepted shards rules (g.K.Clock.may_answer c.args.clock.now) (λ line. g.D.Transport.Transport.place line)
    (λ line. g.D.Transport.Transport.sight line) was (g.D.ConnectionSource.flow c.args.self.now.source)
    (g.D.ConnectionSource.flow c.accept.new.self.source) c.args.self.now.session c.accept.new.self.slot_state
    (λ past. past tt) c.accept.ensures.accepts (rw c.in-Free.is at stands))

pub returns-in-Closing : goal.returns-in-Closing
returns-in-Closing g c shards rules was stands =
    rw c.close.ensures.source
    (closes_on shards rules (g.K.Clock.may_answer c.args.clock.now) (λ line. g.D.Transport.Transport.place line)
    (λ line. g.D.Transport.Transport.sight line) was c.in-Closing.count
    (g.D.ConnectionSource.flow c.args.self.now.source) c.args.self.now.session c.close.new.self.session
    c.close.new.self.slot_state c.close.ensures.closes c.close.ensures.recorded (rw c.in-Closing.is at stands))

pub returns-then-not-begun : goal.returns-then-not-begun
returns-then-not-begun g c shards rules was stands =
    let may_answer = g.K.Clock.may_answer c.args.clock.now in
    let line : g.D.Transport.Transport.sight c.match-ready.line ≡ g.D.Transport.Transport.sight c.in-Out.line =
    elim c.match-ready.branch [
      | in-Some w ↦ rw w.line-is w.rouse.ensures.sight
      | in_default w ↦ rw w.line-is refl
    ] in
    let place : g.D.Transport.Transport.place c.match-ready.line ≡ g.D.Transport.Transport.place c.in-Out.line =
    elim c.match-ready.branch [
      | in-Some w ↦ rw w.line-is w.rouse.ensures.place
      | in_default w ↦ rw w.line-is refl
    ] in
    let out = stands_out shards rules may_answer (λ line. g.D.Transport.Transport.place line)
    (λ line. g.D.Transport.Transport.sight line)
    was (g.D.ConnectionSource.flow c.args.self.now.source) c.args.self.now.session c.args.self.now.slot_state
    c.in-Out.line c.match-ready.line c.in-Out.begun c.in-Out.is place line stands in
    c.begin.ensures shards rules was out

pub returns-in-Ended : goal.returns-in-Ended
returns-in-Ended g c shards rules was stands =
    let may_answer = g.K.Clock.may_answer c.args.clock.now in
    let line : g.D.Transport.Transport.sight c.match-ready.line ≡ g.D.Transport.Transport.sight c.in-Out.line =
    elim c.match-ready.branch [
      | in-Some w ↦ rw w.line-is w.rouse.ensures.sight
      | in_default w ↦ rw w.line-is refl
    ] in
    let place : g.D.Transport.Transport.place c.match-ready.line ≡ g.D.Transport.Transport.place c.in-Out.line =
    elim c.match-ready.branch [
      | in-Some w ↦ rw w.line-is w.rouse.ensures.place
      | in_default w ↦ rw w.line-is refl
    ] in
    let out = stands_out shards rules may_answer (λ line. g.D.Transport.Transport.place line)
    (λ line. g.D.Transport.Transport.sight line)
    was (g.D.ConnectionSource.flow c.args.self.now.source) c.args.self.now.session c.args.self.now.slot_state
    c.in-Out.line c.match-ready.line c.in-Out.begun c.in-Out.is place line stands in
    rw c.end.ensures.free
    (serves_another shards rules may_answer was _ _ _ _ _ _ _ _ c.end.ensures.renewed.0 c.args.self.now.session
    c.step.new.self c.end.new.self.session tt
    (λ begin before. rw c.in-Ended.is at (c.in-Ok.ensures.says shards rules begin before))
    c.end.ensures.flow c.end.ensures.renewed.1 c.in-Ok.ensures.line c.end.ensures.renewed.1.history
    (rw c.if-not-begun.false at out))

pub returns-in-Did : goal.returns-in-Did
returns-in-Did g c shards rules was stands =
    let may_answer = g.K.Clock.may_answer c.args.clock.now in
    let line : g.D.Transport.Transport.sight c.match-ready.line ≡ g.D.Transport.Transport.sight c.in-Out.line =
    elim c.match-ready.branch [
      | in-Some w ↦ rw w.line-is w.rouse.ensures.sight
      | in_default w ↦ rw w.line-is refl
    ] in
    let place : g.D.Transport.Transport.place c.match-ready.line ≡ g.D.Transport.Transport.place c.in-Out.line =
    elim c.match-ready.branch [
      | in-Some w ↦ rw w.line-is w.rouse.ensures.place
      | in_default w ↦ rw w.line-is refl
    ] in
    let out = stands_out shards rules may_answer (λ line. g.D.Transport.Transport.place line)
    (λ line. g.D.Transport.Transport.sight line)
    was (g.D.ConnectionSource.flow c.args.self.now.source) c.args.self.now.session c.args.self.now.slot_state
    c.in-Out.line c.match-ready.line c.in-Out.begun c.in-Out.is place line stands in
    rw c.if-not-begun.false
    (serves_on shards rules may_answer was _ _ _ _ _ c.args.self.now.session c.step.new.self
    (λ begin before. rw c.in-Did.is at (c.in-Ok.ensures.says shards rules begin before)) c.in-Ok.ensures.line
    (rw c.if-not-begun.false at out))

pub returns-in-Waits : goal.returns-in-Waits
returns-in-Waits g c shards rules was stands =
    let may_answer = g.K.Clock.may_answer c.args.clock.now in
    let line : g.D.Transport.Transport.sight c.match-ready.line ≡ g.D.Transport.Transport.sight c.in-Out.line =
    elim c.match-ready.branch [
      | in-Some w ↦ rw w.line-is w.rouse.ensures.sight
      | in_default w ↦ rw w.line-is refl
    ] in
    let place : g.D.Transport.Transport.place c.match-ready.line ≡ g.D.Transport.Transport.place c.in-Out.line =
    elim c.match-ready.branch [
      | in-Some w ↦ rw w.line-is w.rouse.ensures.place
      | in_default w ↦ rw w.line-is refl
    ] in
    let out = stands_out shards rules may_answer (λ line. g.D.Transport.Transport.place line)
    (λ line. g.D.Transport.Transport.sight line)
    was (g.D.ConnectionSource.flow c.args.self.now.source) c.args.self.now.session c.args.self.now.slot_state
    c.in-Out.line c.match-ready.line c.in-Out.begun c.in-Out.is place line stands in
    rw c.if-not-begun.false
    (serves_on shards rules may_answer was _ _ _ _ _ c.args.self.now.session c.step.new.self
    (λ begin before. rw c.in-Waits.is at (c.in-Ok.ensures.says shards rules begin before)) c.in-Ok.ensures.line
    (rw c.if-not-begun.false at out))
