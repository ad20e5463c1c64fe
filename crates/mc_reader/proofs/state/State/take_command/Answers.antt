use Rattle.std.proofs.Common.{◌≡◌, ◌∙◌, ℕ, List, IsTrue}
use Rattle.mc_reader.specs.Spelling.{SpellsNothing}
use Rattle.mc_reader.specs.internal.State.{Holds, Waits, is_opened}
use Rattle.mc_reader.proofs.States.{none_of_both}
use Rattle.mc_reader.proofs.state.State.take_command.Goals as goal

pub returns-in-None-clause-none : goal.returns-in-None-clause-none
returns-in-None-clause-none c =
    none_of_both c.finish.result
    (λ (same : (c.finish.new.self ≡ c.read_line.new.self) × (c.finish.new.buffer ≡ c.read_line.new.buffer))
    (nothing : (unread : List ℕ) → c.read_line.new.buffer.limit ≡ c.args.rules.line_limit
    → IsTrue (is_opened c.read_line.new.self)
    → Holds c.args.rules c.read_line.new.self c.read_line.new.buffer.bytes unread → SpellsNothing c.args.rules unread
    × Waits c.read_line.new.buffer.limit c.read_line.new.self c.read_line.new.buffer.bytes). λ unread h.
    let held = c.in-None.ensures.none unread h in
    let next = nothing unread (c.in-None.ensures.limit ∙ c.requires.limit) c.in-None.ensures.opened held in
    (rw (same.0, same.1) held, next.0, rw (same.0, same.1) next.1))
    c.finish.ensures.none c.finish.ensures.nothing
