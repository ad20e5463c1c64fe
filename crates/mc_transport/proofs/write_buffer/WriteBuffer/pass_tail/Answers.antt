-- The tail was written whole, or it becomes the front.
use Rattle.std.proofs.Common.{◌++◌, length, drop, length-append, sym, ap, ◌∙◌, arith}
use Rattle.std.specs.List.{flat_map}
use Rattle.mc_transport.specs.Chunks.{bytes_of}
use Rattle.mc_transport.specs.Later.{behind}
use Rattle.mc_transport.proofs.Pieces.{tail_passed}
use Rattle.mc_transport.proofs.write_buffer.WriteBuffer.pass_tail.Goals as goal

pub returns-then-count-len : goal.returns-then-count-len
returns-then-count-len c =
    let waits = c.args.self.now in
    let all = c.if-count-len.true in
    tail_passed (drop waits.sent (bytes_of waits.front)) waits.later.items waits.tail.items _ c.args.count
    c.requires.first.0 c.requires.first.1 c.clear.ensures.items (omega (arith, all, c.len.ensures, waits.tail.ok.0))

pub pass-requires : goal.pass-requires
pass-requires c =
    let waits = c.args.self.now in
    omega (
      arith,
      ap length c.go_on.ensures.text,
      length-append (flat_map bytes_of waits.later.items) waits.tail.items,
      c.requires.within,
    )

pub returns : goal.returns
returns c =
    let waits = c.args.self.now in
    c.pass.ensures ∙ ap (drop c.args.count)
    (c.go_on.ensures.text ∙ sym (ap (λ rest. rest ++ behind waits) c.requires.first.0))
