use Rattle.std.proofs.Common.{◌≡◌, ◌<◌, false, get_or, None, sym, ◌∙◌, arith}
use Rattle.mc_command.proofs.MetaCounts.{room, counted_shown, counted_bare}
use Rattle.mc_command.specs.Meta.{return_flag}
use Rattle.mc_command.proofs.meta_flags.FlagReader.read.Goals as goal
use Rattle.mc_command.proofs.meta_flags.FlagReader.read.Goals.{in-Some-return_flag, in_default-return_flag}

pub push-requires : goal.push-requires
push-requires c =
    let fresh : get_or c.args.self.now.seen c.in-Some.letter.now false ≡ false =
    rw c.from.ensures at c.if-self-from.false in
    rw c.add.ensures (room c.args.self.now c.in-Some.letter.now c.in_ok-flag.flag c.in-Some-return_flag.shown
    c.requires fresh (sym c.in-Some-return_flag.ensures))

pub returns-clause-counted : goal.returns-clause-counted
returns-clause-counted c =
    let fresh : get_or c.args.self.now.seen c.in-Some.letter.now false ≡ false =
    rw c.from.ensures at c.if-self-from.false in
    let within : c.in-Some.letter.now < 256 = omega arith in
    elim c.match-return_flag.branch [
      | in-Some-return_flag w ↦
          rw (w.self-is, c.from-2.ensures)
          (counted_shown c.args.self.now c.in-Some.letter.now c.in_ok-flag.flag c.add.new.self
          w.in-Some-return_flag.shown w.push.new.self c.requires within fresh
          c.add.ensures w.in-Some-return_flag.ensures w.push.ensures)
      | in_default-return_flag w ↦
          let none : None ≡ return_flag c.in-Some.letter.now = sym w.in_default-return_flag.is
          ∙ c.return_flag.ensures in
          rw (w.self-is, c.from-2.ensures)
          (counted_bare c.args.self.now c.in-Some.letter.now c.in_ok-flag.flag c.add.new.self c.requires within fresh
          c.add.ensures none)
    ]
