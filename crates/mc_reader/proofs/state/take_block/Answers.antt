use Rattle.std.proofs.Common.{◌≡◌, ◌+◌, ◌-◌, length, take, arith, length-take}
use Rattle.mc_reader.specs.Spelling.{block_entry}
use Rattle.mc_reader.proofs.Machine.{given_up_at_once, whole_at_once}
use Rattle.mc_reader.proofs.state.take_block.Goals as goal

pub returns-in-Ok-clause-whole : goal.returns-in-Ok-clause-whole
returns-in-Ok-clause-whole c line none short says =
    let count = c.args.count in
    let bytes : c.split_at.result.0.now ≡ take (count + 2) c.args.buffer.now.bytes =
    rw c.unread.ensures.bytes at c.split_at.ensures.front in
    let long : length (take (count + 2) c.args.buffer.now.bytes) - 2 ≡ count =
    (let enough = c.requires.come in omega (arith, length-take (count + 2) c.args.buffer.now.bytes)) in
    let entry : c.in-Ok.entry
    ≡ block_entry c.args.rules c.args.command count (take (count + 2) c.args.buffer.now.bytes) =
    rw (bytes, long) at c.in-Ok.ensures in
    rw (entry, c.consume.ensures.bytes)
    (whole_at_once c.args.rules line c.args.command count c.args.buffer.now.bytes none short says c.requires.come)

pub returns-in-Err-clause-whole : goal.returns-in-Err-clause-whole
returns-in-Err-clause-whole c line none short says =
    rw c.consume.ensures.bytes
    (given_up_at_once c.args.rules line c.args.command c.args.count c.args.buffer.now.bytes none short says
    c.requires.come)
