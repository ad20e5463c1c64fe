-- What is offered is a beginning of what may be written.
use Rattle.std.proofs.Common.{◌++◌, length, drop, sym, ap, subst, ◌∙◌}
use Rattle.std.proofs.lemmas.List.{take-append-drop}
use Rattle.std.specs.Io.Slices.{io_slices_bytes}
use Rattle.mc_transport.proofs.transport.Transport.write_vectored_if_ready.Goals as goal

pub write_if_ready-requires : goal.write_if_ready-requires
write_if_ready-requires g c =
    let all = io_slices_bytes c.args.bufs.now in
    let first = c.first_filled.result.now in
    let more = drop (length first) all in
    let W = g.Self.Warrant.Warrant in
    let place = g.Self.Transport.place c.args.self.now in
    let now = g.Self.Transport.sight c.args.self.now in
    record {
      may = W.front place now first more c.args.seen.now
          (subst (λ bytes. W.may_write place now bytes c.args.seen.now)
          (sym (ap (λ l. l ++ more) (sym c.first_filled.ensures) ∙ take-append-drop (length first) all))
          c.requires.may);
    }
