-- The line took the first bytes of what waits, or what is behind the front becomes the front.
use Rattle.std.proofs.Common.{◌≡◌, ℕ, ◌≤◌, List, [], ◌++◌, OnErr, Result, Ok, Err, length, take, drop, vec_len, refl}
use Rattle.std.proofs.Common.{sym, ap, subst, ◌∙◌, arith, append_assoc}
use Rattle.std.specs.Result.{IsErr}
use Rattle.std.proofs.lemmas.Bool.{eqb-true}
use Rattle.std.proofs.lemmas.List.{nil_from_length, take-append-drop}
use Rattle.mc_wire.specs.Sink.{Sight, took}
use Rattle.mc_wire.proofs.Sinks.{took-append, took-nil}
use Rattle.mc_transport.specs.declared.write_buffer.WriteBuffer.{WriteBuffer}
use Rattle.mc_transport.specs.Chunks.{bytes_of}
use Rattle.mc_transport.specs.Later.{IsAtTail, behind, text_in}
use Rattle.mc_transport.specs.Lines.{TakesFront, flow}
use Rattle.mc_transport.proofs.Traces.{flow-grows}
use Rattle.mc_transport.proofs.Pieces.{some_tail, some_waits, tail_waits}
use Rattle.mc_transport.proofs.write_buffer.WriteBuffer.flush.Goals as goal
use Rattle.mc_transport.proofs.write_buffer.WriteBuffer.flush.Goals.{then-at_tail+else-is_empty+in_ok-wrote}
use Rattle.mc_transport.proofs.write_buffer.WriteBuffer.flush.Goals.{else-at_tail+else-is_empty-2+in_ok-count+else-count-eq0}
use Rattle.mc_transport.proofs.write_buffer.WriteBuffer.flush.Goals.{else-at_tail+then-is_empty-2}

-- the line took the first bytes, and the rest waits
took_front : (text left : List ℕ) (count : ℕ) (old new : Sight) → left ≡ drop count text → new
    ≡ took (take count text) old → took left new ≡ took text old
took_front text left count old new left_is taken =
    ap (λ bytes. took bytes new) left_is
    ∙ (ap (λ s. took (drop count text) s) taken
    ∙ (took-append old (take count text) (drop count text)
    ∙ ap (λ bytes. took bytes old) (take-append-drop count text)))

grown_by : (old new : Sight) (bytes : List ℕ) → new ≡ took bytes old → flow old.taken ≤ flow new.taken
grown_by old new bytes taken = let P : Sight → Type 0 =
    λ s. flow old.taken ≤ flow s.taken in subst P (sym taken) (flow-grows old.taken bytes)

-- it took more of what waited
front_more : (waited text left : List ℕ) (count : ℕ) (old mid new : Sight) → TakesFront waited text old mid → left
    ≡ drop count text → new ≡ took (take count text) mid → TakesFront waited left old new
front_more waited text left count old mid new some left_is taken = record {
  front = some.front ++ take count text;
  parts =
      append_assoc some.front (take count text) left
      ∙ (ap (λ l. some.front ++ l) (ap (λ l. take count text ++ l) left_is ∙ take-append-drop count text) ∙ some.parts);
  now =
      taken ∙ (ap (λ s. took (take count text) s) some.now ∙ took-append old some.front (take count text));
}

front_still : (waited text left : List ℕ) (old now : Sight) → TakesFront waited text old now → left ≡ text
    → TakesFront waited left old now
front_still waited text left old now some same =
    record { front = some.front; parts = ap (λ l. some.front ++ l) same ∙ some.parts; now = some.now }

-- where the first bytes of a text that may be written were written, the rest may be
may_rest : (may : Sight → List ℕ → Type 0) (text left : List ℕ) (count : ℕ) (mid new : Sight)
    → ((bytes more : List ℕ) → may mid (bytes ++ more) → may (took bytes mid) more) → left ≡ drop count text → new
    ≡ took (take count text) mid → may mid text → may new left
may_rest may text left count mid new behind left_is taken allowed =
    subst (λ s. may s left) (sym taken)
    (subst (λ l. may (took (take count text) mid) l) (sym left_is)
    (behind (take count text) (drop count text) (subst (λ l. may mid l) (sym (take-append-drop count text)) allowed)))

pub loop-init : goal.loop-init
loop-init g c =
    let now = g.L.Transport.sight c.args.line.now in
    (refl, omega arith, record { front = []; parts = refl; now = sym (took-nil now) }, refl, c.requires.may)

-- the text that is offered where nothing waits before the tail
tail_offered : (waits : WriteBuffer) (offered : List ℕ) → IsAtTail waits → offered ≡ waits.tail.items
    → offered ≡ text_in waits
tail_offered waits offered first is =
    is ∙ sym (tail_waits (drop waits.sent (bytes_of waits.front)) waits.later.items waits.tail.items first.0 first.1)

pub write_if_ready-requires : goal.write_if_ready-requires
write_if_ready-requires g c =
    let first : IsAtTail c.loop.self = (c.if-at_tail.ensures.front refl, c.if-at_tail.ensures.later refl) in
    record {
      may = subst
          (λ bytes.
          g.L.Warrant.Warrant.may_write (g.L.Transport.place c.loop.line) (g.L.Transport.sight c.loop.line) bytes
          c.args.seen.now)
          (sym (tail_offered c.loop.self _ first c.as_slice.ensures.value)) c.loop.invariant.4;
    }

pub pass_tail-requires : goal.pass_tail-requires
pass_tail-requires g c = record {
  first = (c.if-at_tail.ensures.front refl, c.if-at_tail.ensures.later refl);
  within = omega (arith, ap length c.as_slice.ensures.value, c.in_ok-wrote.ensures.within);
}

pub free_spare-requires : goal.free_spare-requires
free_spare-requires g c = (
  (c.if-at_tail.ensures.front refl, c.if-at_tail.ensures.later refl),
  nil_from_length c.loop.self.tail.items
      (sym c.loop.self.tail.ok.0 ∙ eqb-true (vec_len c.loop.self.tail) 0 (sym c.if-is_empty.ensures)),
)

pub loop-preserved : goal.loop-preserved
loop-preserved g c = elim c.if-at_tail.branch [
  | then-at_tail+else-is_empty+in_ok-wrote w ↦
      let waits = text_in c.loop.self in
      let left = text_in w.pass_tail.new.self in
      let count = w.in_ok-wrote.wrote in
      let old = g.L.Transport.sight c.loop.line in
      let new = g.L.Transport.sight w.write_if_ready.new.self in
      let first : IsAtTail c.loop.self = (w.if-at_tail.ensures.front refl, w.if-at_tail.ensures.later refl) in
      let offered = tail_offered c.loop.self _ first w.as_slice.ensures.value in
      let ok : new ≡ took (take count waits) old = w.in_ok-wrote.ensures.ok
      ∙ ap (λ bytes. took (take count bytes) old) offered in
      let grown = grown_by old new (take count waits) ok in
      let before = c.loop.invariant.1 in
      let W = g.L.Warrant.Warrant in
      let place = g.L.Transport.place w.write_if_ready.new.self in
      rw (w.self-is, w.line-is) (
        took_front waits left count old new w.pass_tail.ensures ok ∙ c.loop.invariant.0,
        omega (arith, grown, before),
        front_more _ waits left count _ old new c.loop.invariant.2 w.pass_tail.ensures ok,
        w.in_ok-wrote.ensures.place ∙ c.loop.invariant.3,
        may_rest (λ s bytes. W.may_write place s bytes c.args.seen.now) waits left count old new
            (λ bytes more. W.behind place old bytes more c.args.seen.now) w.pass_tail.ensures ok
            (subst (λ p. W.may_write p old waits c.args.seen.now) (sym w.in_ok-wrote.ensures.place) c.loop.invariant.4),
      )
  | else-at_tail+else-is_empty-2+in_ok-count+else-count-eq0 w ↦
      let waits = text_in c.loop.self in
      let left = text_in w.pass.new.self in
      let count = w.in_ok-count.count in
      let old = g.L.Transport.sight c.loop.line in
      let new = g.L.Transport.sight w.offer.new.line in
      let ok = w.in_ok-count.ensures.ok in
      let grown = grown_by old new (take count waits) ok in
      let before = c.loop.invariant.1 in
      let W = g.L.Warrant.Warrant in
      let place = g.L.Transport.place w.offer.new.line in
      rw (w.self-is, w.line-is) (
        took_front waits left count old new w.pass.ensures ok ∙ c.loop.invariant.0,
        omega (arith, grown, before),
        front_more _ waits left count _ old new c.loop.invariant.2 w.pass.ensures ok,
        w.in_ok-count.ensures.place ∙ c.loop.invariant.3,
        may_rest (λ s bytes. W.may_write place s bytes c.args.seen.now) waits left count old new
            (λ bytes more. W.behind place old bytes more c.args.seen.now) w.pass.ensures ok
            (subst (λ p. W.may_write p old waits c.args.seen.now) (sym w.in_ok-count.ensures.place) c.loop.invariant.4),
      )
  | else-at_tail+then-is_empty-2 w ↦
      let rest = drop c.loop.self.sent (bytes_of c.loop.self.front) in
      let now = g.L.Transport.sight c.loop.line in
      let none : rest ≡ [] = nil_from_length rest (grind (arith, w.if-is_empty-2.ensures, w.rest.ensures.left)) in
      let same : text_in w.go_on.new.self ≡ text_in c.loop.self = w.go_on.ensures.text
      ∙ sym (ap (λ xs. xs ++ behind c.loop.self) none) in
      rw (w.self-is, w.line-is) (
        ap (λ bytes. took bytes now) same ∙ c.loop.invariant.0,
        c.loop.invariant.1,
        front_still _ _ _ _ now c.loop.invariant.2 same,
        c.loop.invariant.3,
        subst
            (λ bytes. g.L.Warrant.Warrant.may_write (g.L.Transport.place c.loop.line) now bytes c.args.seen.now)
            (sym same) c.loop.invariant.4,
      )
]

-- of a fault this is known
at_fault : {X E : Type 0} (result : Result X E) (Known : Type 0) → IsErr result → Known → OnErr result Known
at_fault (Ok done) Known failed known = tt
at_fault (Err fault) Known failed known = known

pub returns-in_err-count-clause-some : goal.returns-in_err-count-clause-some
returns-in_err-count-clause-some g c =
    let waits = c.loop.self in
    at_fault c.from_residual-in_err-count.result _ c.from_residual-in_err-count.ensures.0
    (some_waits (drop waits.sent (bytes_of waits.front)) _ (behind waits) c.rest.ensures.left c.if-is_empty-2.ensures)

pub returns-in_err-wrote-clause-some : goal.returns-in_err-wrote-clause-some
returns-in_err-wrote-clause-some g c =
    let waits = c.loop.self in
    at_fault c.from_residual.result _ c.from_residual.ensures.0
    (some_tail (drop waits.sent (bytes_of waits.front)) waits.later.items waits.tail.items (vec_len waits.tail)
    waits.tail.ok.0 c.if-is_empty.ensures)
