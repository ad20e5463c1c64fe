-- The line at the front of the buffer and its block are passed to the receiver unchanged, and are consumed.
use Rattle.std.proofs.Common.{◌≡◌, ℕ, ◌+◌, ◌<◌, ◌≤◌, List, ◌∷◌, ◌++◌, length, take, drop, Some, rules, sym, ap, ◌∙◌}
use Rattle.std.proofs.Common.{arith}
use Rattle.std.proofs.lemmas.List.{drop-drop}
use Rattle.mc_command.specs.declared.command.Command.{Command}
use Rattle.mc_command.specs.declared.rules.Rules.{Rules}
use Rattle.mc_reader.specs.declared.state.State.{State}
use Rattle.mc_reader.specs.declared.state.State.TheVariants as state
use Rattle.mc_reader.specs.internal.Plain.{GivesCommand, GivesLine}
use Rattle.mc_reader.specs.internal.State.{IsFirstLine}
use Rattle.mc_reader.proofs.Lines.{at_line, line_in}
use Rattle.mc_reader.proofs.plain.give_plain.Goals as goal

-- What is given of the first line of the bytes is given of them, where what remains is what comes behind.
gives_command : (rules : Rules) (at : State) (long used : ℕ) (line rest behind held old new : List ℕ)
    (Took : Command → Type 0) → at ≡ state.Line (Some long)
    → held ≡ old → line ≡ take long held → length line ≡ long → rest ≡ drop long held → behind ≡ drop 1 rest → new
    ≡ drop (long + 1 + used) old
    → GivesLine rules line behind used Took → GivesCommand rules at old new Took
gives_command rules at long used line rest behind held old new Took at_is held_is line_is long_is rest_is behind_is
    new_is g =
    let left : behind ≡ drop (long + 1) old = rw (behind_is, rest_is, held_is) (drop-drop 1 long old) in
    let remains : new ≡ drop used behind = rw (new_is, left) (sym (drop-drop used (long + 1) old)) in
    record {
      shown = g.shown;
      took = g.took;
      goes_on = g.goes_on;
      not_closed = λ closed. cc;
      whole = λ unread held.
          let holds : (unread ≡ old) × (length old ≤ rules.line_limit) × IsFirstLine old long = rw at_is at held in
          let cut = at_line old long holds.2 in
          let is : line ≡ take long old = line_is ∙ ap (take long) held_is in
          let unread_is : unread ≡ line ++ 10 ∷ behind = rw (holds.0, is, left) cut.bytes_are in
          let within = line_in old long holds.2 in
          let short : length line < rules.line_limit = omega (arith, within, holds.1) in
          rw (unread_is, remains) (g.whole (rw is cut.no_end) short);
    }

pub returns-clause-given : goal.returns-clause-given
returns-clause-given g c _ =
    let front : c.args.state.now ≡ state.Line (Some c.in-Line-Some.long) = search rules in
    gives_command _ _ _ _ _ _ _ _ _ _ _ front c.unread.ensures.bytes c.split_at.ensures.front
    c.split_at.ensures.front_len c.split_at.ensures.back
    c.split_at-2.ensures.back c.consume.ensures.bytes c.in-Some.ensures.some
