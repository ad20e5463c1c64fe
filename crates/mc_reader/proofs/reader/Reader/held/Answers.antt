use Rattle.std.proofs.Common.{ap, length, arith}
use Rattle.mc_reader.specs.Reader.{IsReader}
use Rattle.mc_reader.proofs.Readers.{held_line, held_unread, held_within, limit_is, nothing_in_blocks}
use Rattle.mc_reader.proofs.reader.Reader.held.Goals as goal

pub returns-clause-skipped : goal.returns-clause-skipped
unfolding IsReader
returns-clause-skipped c rules fed ended given h amid =
    let none = nothing_in_blocks rules c.args.self.now fed ended given h amid in
    omega (arith, none, c.held.ensures.value, c.unread.ensures.fits, limit_is c.args.self.now rules h.rules_are)

pub returns-clause-most : goal.returns-clause-most
unfolding IsReader
returns-clause-most c rules fed ended given h =
    let most = held_within rules c.args.self.now fed ended given h in
    omega (arith, most, c.held.ensures.value, c.unread.ensures.fits, limit_is c.args.self.now rules h.rules_are)

pub returns-clause-unread : goal.returns-clause-unread
unfolding IsReader
returns-clause-unread c rules fed ended given h rest goes_on front =
    let within = held_unread rules c.args.self.now fed ended given rest h goes_on front in
    omega (arith, within, c.held.ensures.value, ap length c.unread.ensures.bytes)

pub returns-clause-line : goal.returns-clause-line
unfolding IsReader
returns-clause-line c rules fed ended given h rest goes_on front none =
    let whole = held_line rules c.args.self.now fed ended given rest h goes_on front none in
    omega (arith, whole, c.held.ensures.value, ap length c.unread.ensures.bytes)
