-- Without a line end, within the limit, nothing is spelled yet.
use Rattle.std.proofs.Common.{◌≡◌, ℕ, Bool, true, false, not, None, IsTrue, List, length, refl, rules, sym, ap, ◌∙◌}
use Rattle.mc_command.specs.declared.rules.Rules.{Rules}
use Rattle.mc_reader.specs.declared.reader.Reader.{Reader}
use Rattle.mc_reader.specs.declared.state.State.TheVariants as state
use Rattle.mc_reader.specs.Spelling.{Given}
use Rattle.mc_reader.specs.Reader.{IsGivenWhole, IsReader, IsWaiting}
use Rattle.mc_reader.specs.internal.Inside.{HasGiven}
use Rattle.mc_reader.specs.internal.State.{Completes, Waits}
use Rattle.mc_reader.proofs.Readers.{waited}
use Rattle.mc_reader.proofs.States.{not_complete, nothing_awaited}
use Rattle.mc_reader.proofs.reader.Reader.awaits_line_end.Goals as goal

is_false : (b : Bool) → IsTrue (not b) → b ≡ false
is_false true no_more = absurd (let e : false ≡ true = no_more in cc)
is_false false no_more = refl

awaits : (self : Reader) (full : Bool) → self.state ≡ state.Line None → self.ended ≡ false
    → (length self.buffer.bytes ≡ self.rules.line_limit → IsTrue full) → IsTrue (not full) →
    (rules : Rules) (fed : List ℕ) (ended : Bool) (given : List Given) → HasGiven self rules fed ended given
    → (ended ≡ false) × IsGivenWhole rules fed given × Waits self.rules.line_limit self.state self.buffer.bytes
awaits self full is goes_on full_is room rules fed ended given h =
    let short : Completes rules.line_limit self.state self.buffer.bytes → ⊥ = λ complete.
    let at : length self.buffer.bytes ≡ rules.line_limit = rw is at complete in
    not_complete full (is_false full room) full_is (at ∙ ap (λ (r : Rules). r.line_limit) (sym h.rules_are)) in
    let says = waited rules self self fed ended given refl refl refl goes_on (λ e. e)
    (λ closed. absurd (let e : state.Line None ≡ state.Closed = sym is ∙ closed in cc))
    (λ unread holds. let none = nothing_awaited rules self.state self.buffer.bytes unread short (rw is refl) holds in
    (holds, none.0, none.1)) h in
    (says.0, says.1, says.3)

pub returns-then-not-self : goal.returns-then-not-self
unfolding IsReader IsWaiting
returns-then-not-self c = λ room.
    let is : c.args.self.now.state ≡ state.Line None = search rules in
    awaits c.args.self.now c.is_full.result is c.if-not-self.true
    (λ full. c.is_full.ensures.1 (full ∙ sym c.args.self.now.limited)) room
