use Rattle.std.proofs.Common.{◌⊎◌, inl, inr, true, ◌≡◌, ◌||◌, ◌==◌, ◌∙◌, refl, rules}
use Rattle.mc_reader.specs.declared.state.State.TheVariants as state
use Rattle.mc_reader.specs.Spelling.{closes}
use Rattle.mc_reader.specs.Reader.{IsReader, IsWaiting}
use Rattle.mc_reader.proofs.Readers.{came_to_end, gave, limit_is, waited}
use Rattle.mc_reader.proofs.States.{not_complete}
use Rattle.mc_reader.proofs.reader.Reader.next.Goals as goal
use Rattle.mc_reader.proofs.reader.Reader.next.Goals.{then-self-via-then-self, then-self-via-else-self+then-is_closed}
use Rattle.mc_reader.proofs.reader.Reader.next.Goals.{then-closes, else-closes}

pub returns-in_default : goal.returns-in_default
unfolding IsReader IsWaiting
returns-in_default c under fed ended given h =
    let found = c.in_default.ensures in
    waited under c.args.self.now _ fed ended given refl refl refl c.if-self.false (λ e. (found.closed e).0)
    (not_complete c.is_closed.result c.if-is_closed.false c.is_closed.ensures.1)
    (rw (found.limit ∙ c.args.self.now.limited, h.rules_are) at found.none) h

pub returns : goal.returns
unfolding IsReader IsWaiting
returns c under fed ended given h =
    let shown = c.in-Some.command in
    let left = c.saturating_sub-self.result in
    let last_is : c.if-closes.last ≡ closes shown || (left == 0) =
    elim c.if-closes.branch [ then-closes w ↦ search rules | else-closes w ↦ search rules ] in
    gave under c.args.self.now _ fed ended given shown refl refl
    (λ e. let none = (c.in-Some.ensures.closed e).1 in absurd cc) (rw h.rules_are at c.in-Some.ensures.some)
    c.saturating_sub-self.ensures c.if-closes.last last_is
    (c.go_on.ensures.state under (c.in-Some.ensures.limit ∙ limit_is c.args.self.now under h.rules_are)) h

pub returns-then-self : goal.returns-then-self
unfolding IsReader
returns-then-self c under fed ended given h =
    let found = c.in_default.ensures in
    let over : (c.args.self.now.ended ≡ true) ⊎ (c.take_command.new.self ≡ state.Closed) =
    elim c.then-self.branch [
      | then-self-via-then-self w ↦ inl w.if-self.true
      | then-self-via-else-self+then-is_closed w ↦ inr (w.is_closed.ensures.0 w.if-is_closed.true)
    ] in
    came_to_end under c.args.self.now _ fed ended given refl refl refl over (λ e. (found.closed e).0)
    (rw (found.limit ∙ c.args.self.now.limited, h.rules_are) at found.none) h
