-- A chunk, the tail behind the last of them, or nothing.
use Rattle.std.proofs.Common.{refl, sym, ◌∙◌, arith}
use Rattle.std.proofs.lemmas.Option.{slice_get_read}
use Rattle.mc_transport.proofs.Pieces.{piece_chunk, piece_past, piece_tail}
use Rattle.mc_transport.proofs.write_buffer.WriteBuffer.piece.Goals as goal

pub returns-in-Some : goal.returns-in-Some
returns-in-Some c =
    let chunks = c.args.self.now.later.items in
    let item = c.in-Some.ensures.item in
    c.bytes.ensures ∙ sym (piece_chunk chunks c.args.self.now.tail.items c.args.place c.in-Some.chunk.now
    (slice_get_read chunks _ c.args.place c.in-Some.chunk.now refl item.3.0 item.1))

pub returns-in-None : goal.returns-in-None
returns-in-None c =
    let last = c.if-place-len.true ∙ (c.len.ensures ∙ c.args.self.now.later.ok.0) in
    rw (c.as_slice.ensures.value, last) (sym (piece_tail c.args.self.now.later.items c.args.self.now.tail.items))

pub returns-in-None-2 : goal.returns-in-None-2
returns-in-None-2 c =
    let past = c.in-None-2.ensures.item.3 in
    let len = c.len.ensures in
    let other = c.if-place-len.false in
    sym (piece_past c.args.self.now.later.items c.args.self.now.tail.items c.args.place
    (grind (arith, past, len, other)))
