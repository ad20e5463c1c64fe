use Rattle.std.proofs.Common.{ap, rules, sym}
use Rattle.mc_command.specs.Hiding.{shown_line}
use Rattle.std.proofs.lemmas.Int.{to_z-of_z}
use mir.Val.{SFits}
use mir.Syntax.{w64}
use Rattle.mc_fast.proofs.Lines.{set_line, no_fault}
use Rattle.mc_fast.proofs.fast_command.read_set.Goals as goal

pub returns : goal.returns
returns c hides =
    let arm = c.in-Some-Some-Some-Some-default-None in
    let first = rw arm.is-0 at c.next.ensures.steps in
    let second = rw arm.is-1 at c.next-2.ensures.steps in
    let third = rw arm.is-2 at c.next-3.ensures.steps in
    let fourth = rw arm.is-3 at c.next-4.ensures.steps in
    let none = rw arm.is-5 at c.next-5.ensures.steps in
    let good = no_fault arm.key.now c.key_fault.result c.is_some.result
    c.key_fault.ensures c.is_some.ensures c.if-is_some.false in
    let read = c.in-Ok-Ok-Some-Ok in
    let flags = rw read.is-0 at c.read_u32.ensures in
    let exptime = rw read.is-1 at c.read_exptime.ensures in
    let count = rw read.is-2 at c.read_count.ensures in
    let noreply = rw read.is-3 at c.read_last_word.ensures in
    let fits : SFits w64 read.exptime = search rules in
    rw (to_z-of_z w64 read.exptime fits) (
      good,
      ap (shown_line hides)
          (set_line c.args.rules _ _ _ _ _ _ _ arm.key arm.flags arm.exptime arm.count c.next-noreply.result read.flags
          read.exptime read.count read.noreply first second third fourth c.next-noreply.ensures.steps none good
          (sym flags) (sym exptime) count.0 (sym noreply) count.1),
    )
