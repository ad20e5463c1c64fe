-- What was offered is a beginning of what waits.
use Rattle.std.proofs.Common.{[], ◌∷◌, sym, subst, ◌∙◌}
use Rattle.std.specs.Io.Slices.{io_slices_bytes}
use Rattle.mc_transport.specs.Later.{text_in}
use Rattle.mc_transport.proofs.Pieces.{begins_offered, first_offered, offer_ok, offer_within}
use Rattle.mc_transport.proofs.write_buffer.WriteBuffer.offer.Goals as goal

pub returns-clause-within : goal.returns-clause-within
returns-clause-within g c =
    let waits = c.args.self.now in
    let offered = io_slices_bytes (c.new.result ∷ c.new-2.result ∷ c.new-3.result ∷ c.new-4.result ∷ []) in
    offer_within c.write_vectored_if_ready.result (text_in waits) offered
    (first_offered _ waits.later.items waits.tail.items c.new.result c.new-2.result c.new-3.result c.new-4.result
    (c.new.ensures ∙ c.rest.ensures.left) (c.new-2.ensures ∙ c.piece.ensures) (c.new-3.ensures ∙ c.piece-2.ensures)
    (c.new-4.ensures ∙ c.piece-3.ensures))
    c.write_vectored_if_ready.ensures.within

pub returns-clause-ok : goal.returns-clause-ok
returns-clause-ok g c =
    let waits = c.args.self.now in
    let offered = io_slices_bytes (c.new.result ∷ c.new-2.result ∷ c.new-3.result ∷ c.new-4.result ∷ []) in
    offer_ok c.write_vectored_if_ready.result (text_in waits) offered (g.L.Transport.sight c.args.line.now)
    (g.L.Transport.sight c.write_vectored_if_ready.new.self)
    (first_offered _ waits.later.items waits.tail.items c.new.result c.new-2.result c.new-3.result c.new-4.result
    (c.new.ensures ∙ c.rest.ensures.left) (c.new-2.ensures ∙ c.piece.ensures) (c.new-3.ensures ∙ c.piece-2.ensures)
    (c.new-4.ensures ∙ c.piece-3.ensures))
    c.write_vectored_if_ready.ensures.within c.write_vectored_if_ready.ensures.ok

pub write_vectored_if_ready-requires : goal.write_vectored_if_ready-requires
write_vectored_if_ready-requires g c =
    let waits = c.args.self.now in
    let W = g.L.Warrant.Warrant in
    let place = g.L.Transport.place c.args.line.now in
    let now = g.L.Transport.sight c.args.line.now in
    let offered = begins_offered _ waits.later.items waits.tail.items c.new.result c.new-2.result c.new-3.result
    c.new-4.result (c.new.ensures ∙ c.rest.ensures.left) (c.new-2.ensures ∙ c.piece.ensures)
    (c.new-3.ensures ∙ c.piece-2.ensures) (c.new-4.ensures ∙ c.piece-3.ensures) in
    record {
      may = W.front place now _ offered.rest c.args.seen.now
          (subst (λ bytes. W.may_write place now bytes c.args.seen.now) (sym offered.all_is) c.requires.may);
    }
