-- The bytes that a line took, as far as they are counted.
use Rattle.std.proofs.Common.{◌≡◌, ℕ, ◌+◌, ◌-◌, ◌≤◌, List, ◌++◌, length, take, length-append, refl, sym, ap, ◌∙◌, arith}
use Rattle.std.proofs.lemmas.List.{length-take, take_at}
use Rattle.std.proofs.Math.Seq.{take-append-add}
use Rattle.mc_wire.specs.Sink.{Trace, Unlisted, Counted, Listed, with_bytes}
use Rattle.mc_transport.specs.Lines.{flow}

-- a list that begins with another, where the end was cut off
front_of : (now waits old text : List ℕ) → now ++ waits ≡ old ++ text → length old ≤ length now
    → now ≡ old ++ take (length text - length waits) text
front_of now waits old text same grown =
    let lengths : length now + length waits ≡ length old + length text = sym (length-append now waits)
    ∙ (ap length same ∙ length-append old text) in
    let at : length now ≡ length old + (length text - length waits) = omega (arith, lengths, grown) in
    sym (take_at now waits (length now) refl)
    ∙ (ap (take (length now)) same
    ∙ (ap (λ n. take n (old ++ text)) at ∙ take-append-add old text (length text - length waits)))

-- the bytes that the line took, where the last ones still wait
pub traces : (old now : Trace) (waits text : List ℕ) → with_bytes now waits ≡ with_bytes old text → flow old ≤ flow now
    → now ≡ with_bytes old (take (length text - length waits) text)
traces Unlisted Unlisted waits text same grown = refl
traces (Counted n) (Counted m) waits text same grown =
    let sums : m + length waits ≡ n + length text = cc in
    ap (λ k. Counted k) (omega (arith, sums, grown, length-take (length text - length waits) text))
traces (Listed ys) (Listed xs) waits text same grown =
    let all : xs ++ waits ≡ ys ++ text = cc in
    ap (λ bytes. Listed bytes) (front_of xs waits ys text all grown)
traces old now waits text same grown = absurd (cc)

-- a line that took more bytes has grown
pub flow-grows : (trace : Trace) (bytes : List ℕ) → flow trace ≤ flow (with_bytes trace bytes)
flow-grows Unlisted bytes = omega arith
flow-grows (Counted count) bytes = omega arith
flow-grows (Listed before) bytes = omega (arith, length-append before bytes)
