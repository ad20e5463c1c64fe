use Rattle.std.proofs.Common.{◌≡◌, ℕ, ◌+◌, ◌-◌, ◌≤◌, List, length, take, drop, sym, ap, ◌∙◌, arith, length-take}
use Rattle.std.proofs.lemmas.List.{drop-take, drop-drop}
use Rattle.mc_transport.proofs.read_buffer.ReadBuffer.advance.Goals as goal

-- fewer bytes are left, from the front
advanced : (bytes : List ℕ) (start end count : ℕ) → start ≤ end → count ≤ length (take (end - start) (drop start bytes))
    → take (end - (start + count)) (drop (start + count) bytes) ≡ drop count (take (end - start) (drop start bytes))
advanced bytes start end count within fits =
    let room : count + (end - (start + count)) ≡ end - start =
    omega (arith, length-take (end - start) (drop start bytes)) in
    ap (λ xs. take (end - (start + count)) xs) (sym (drop-drop count start bytes))
    ∙ (sym (drop-take count (end - (start + count)) (drop start bytes))
    ∙ ap (λ n. drop count (take n (drop start bytes))) room)

pub returns : goal.returns
returns c =
    let fits = rw (← c.self.view_is) at c.requires in
    rw (← c.self.view_is) (advanced c.self.inside.room.items c.self.inside.start c.self.inside.end c.args.count
    c.self.invariant.0 fits)
