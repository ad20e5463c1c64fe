-- What is fed comes behind the bytes, so a line end that was found stays where it is; else it is looked for
-- in what is fed.
use Rattle.std.proofs.Common.{◌≡◌, ◌<◌, ℕ, ◌+◌, true, List, ◌∷◌, ◌++◌, length, Option, Some, None, IsTrue, nat_lt, ap}
use Rattle.std.proofs.Common.{sym, ◌∙◌, append_assoc, length-append, arith}
use Rattle.std.specs.Option.{is_some}
use Rattle.std.proofs.lemmas.Bool.Decides.{nat_tests}
use Rattle.mc_reader.specs.internal.State.{EndsAt, fits_in}
use Rattle.mc_reader.proofs.States.{found_in_piece, none_in_piece}
use Rattle.mc_reader.proofs.state.feed_line.Goals as goal

-- A number below a length is below that of more bytes.
more : (old behind : List ℕ) (n : ℕ) → IsTrue (nat_lt n (length old)) → IsTrue (nat_lt n (length (old ++ behind)))
more old behind n below = grind (arith, nat_tests, length-append old behind)

-- A place in what comes behind is a place in all.
below_all : (old behind : List ℕ) (at : ℕ) → at < length behind
    → IsTrue (nat_lt (length old + at) (length (old ++ behind)))
below_all old behind at below = grind (arith, nat_tests, length-append old behind)

-- A line end in the bytes is also in any extension of them.
still_fits : (old behind new : List ℕ) (long : Option ℕ) → new ≡ old ++ behind → IsTrue (fits_in long old)
    → IsTrue (fits_in long new)
still_fits old behind new None is fits = fits
still_fits old behind new (Some long) is fits = rw is (more old behind long fits)

-- A line that has ended is the first of more bytes too.
still_ends : (old behind new : List ℕ) (long : Option ℕ) → is_some long ≡ true → new ≡ old ++ behind → EndsAt old long
    → EndsAt new long
still_ends old behind new None ended is h = absurd cc
still_ends old behind new (Some long) ended is h = record {
  line = h.line;
  rest = h.rest ++ behind;
  bytes_are = is ∙ (ap (λ bytes. bytes ++ behind) h.bytes_are ∙ append_assoc h.line (10 ∷ h.rest) behind);
  no_end = h.no_end;
  long_is = h.long_is;
}

-- A line end found in the new bytes is in all bytes.
found_fits : (held old behind new : List ℕ) (at : ℕ) → held ≡ old → new ≡ old ++ behind → at < length behind
    → IsTrue (nat_lt (length held + at) (length new))
found_fits held old behind new at same is below = rw (same, is) (below_all old behind at below)

pub returns-then-is_some-clause-fits : goal.returns-then-is_some-clause-fits
returns-then-is_some-clause-fits c = still_fits _ _ _ c.args.long.now c.push.ensures.bytes c.requires

pub returns-then-is_some-clause-ends : goal.returns-then-is_some-clause-ends
returns-then-is_some-clause-ends c =
    still_ends _ _ _ c.args.long.now (sym c.is_some.ensures ∙ c.if-is_some.true) c.push.ensures.bytes

pub returns-in-Some-clause-fits : goal.returns-in-Some-clause-fits
returns-in-Some-clause-fits c =
    let all = c.push_all-count.ensures.bytes
    ∙ ap (λ xs. c.args.buffer.now.bytes ++ xs) (sym c.split_at.ensures.front) in
    found_fits _ _ _ _ _ c.unread-searched.ensures.bytes all c.in-Some.ensures.0.high

pub returns-in-Some-clause-ends : goal.returns-in-Some-clause-ends
returns-in-Some-clause-ends c h =
    let same = c.unread-searched.ensures.bytes in
    let all = c.push_all-count.ensures.bytes
    ∙ ap (λ xs. c.args.buffer.now.bytes ++ xs) (sym c.split_at.ensures.front) in
    rw same (found_in_piece c.args.buffer.now.bytes c.split_at.result.0.now c.push_all-count.new.self.bytes
    c.args.long.now c.in-Some.at (sym c.is_some.ensures ∙ c.if-is_some.false) h c.in-Some.ensures all)

pub returns-in_default-clause-fits : goal.returns-in_default-clause-fits
returns-in_default-clause-fits c = still_fits _ _ _ c.args.long.now c.push_all-count.ensures.bytes c.requires

pub returns-in_default-clause-ends : goal.returns-in_default-clause-ends
returns-in_default-clause-ends c h =
    let all = c.push_all-count.ensures.bytes
    ∙ ap (λ xs. c.args.buffer.now.bytes ++ xs) (sym c.split_at.ensures.front) in
    none_in_piece c.args.buffer.now.bytes c.split_at.result.0.now c.push_all-count.new.self.bytes c.args.long.now
    (sym c.is_some.ensures ∙ c.if-is_some.false) h c.in_default.ensures all
