use Rattle.std.proofs.Common.{◌≡◌, Some, IsTrue, rules}
use Rattle.mc_reader.specs.internal.State.{is_opened}
use Rattle.mc_reader.specs.declared.state.State.TheVariants as state
use Rattle.mc_reader.proofs.States.{whole_awaited, whole_found}
use Rattle.mc_reader.proofs.state.State.is_whole.Goals as goal

pub returns-in-Line-Some-clause-whole : goal.returns-in-Line-Some-clause-whole
returns-in-Line-Some-clause-whole c unread h =
    let is : c.args.self.now ≡ state.Line (Some c.in-Line-Some.long) = search rules in
    let same = c.unread.ensures.bytes in
    let front = rw same at c.split_at.ensures.front in
    let announced = rw (c.without_return.ensures, front)
    at (c.announced_bytes_with_rules.ensures c.args.rules.value_limit) in
    whole_found c.args.rules c.args.self.now c.args.buffer.now.bytes unread c.split_at.result.1.now c.in-Line-Some.long
    c.announced_bytes_with_rules.result is (rw same at c.split_at.ensures.back) announced h

pub returns-in_default-clause-whole : goal.returns-in_default-clause-whole
returns-in_default-clause-whole c unread h =
    let opened : IsTrue (is_opened c.args.self.now) = search rules in
    whole_awaited c.args.rules c.args.self.now c.args.buffer.now.bytes unread c.is_complete.result
    (rw c.requires.limit at c.is_complete.ensures) opened h
