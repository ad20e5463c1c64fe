-- The first word is the name, and as many bytes follow as the words behind it announce; a line without a name
-- has none.
use Rattle.std.proofs.Common.{◌≡◌, ℕ, List, Option, Some, None, Bor, sym, ap, ◌∙◌}
use Rattle.std.specs.Prelude.{MatchOption}
use Rattle.mc_wire.specs.Words.{words_left, words_of}
use Rattle.mc_command.specs.Blocks.{bytes_with}
use Rattle.mc_command.specs.Line.{bytes_behind}
use Rattle.mc_command.specs.Name.{name_of}
use Rattle.mc_command.specs.Table.{line_if_named, line_of}
use Rattle.mc_command.specs.declared.name.CommandName.{CommandName}
use Rattle.mc_command.specs.declared.rules.Rules.{Rules}
use Rattle.mc_command.proofs.Behind.{behind_shown}
use Rattle.mc_command.proofs.StorageLines.{Steps}
use Rattle.mc_command.proofs.announced.announced_bytes_with_rules.Goals as goal

-- The first step of a walk over a line's words finds its name, if it has one, and leaves the words behind the
-- name.
behind_line : (rules : Rules) (line words rest : List (List ℕ)) (found : Option (Bor (List ℕ)))
    (named : Option CommandName) →
    words ≡ line → Steps words found rest → MatchOption found (named ≡ None) (λ word. named ≡ name_of word.now)
    → bytes_behind (line_if_named rules named rest) ≡ bytes_behind (line_of rules line)
unfolding line_of
behind_line rules line words rest None named same step is = rw (← same, step.0, is)
behind_line rules line words rest (Some word) named same step is = rw (← same, step, is)

pub returns-in-Some : goal.returns-in-Some
returns-in-Some c = λ limit.
    let rest = words_left c.next.new.self in
    let under : Rules = record c.args.rules { value_limit = limit } in
    let behind = behind_line under (words_of c.args.line.now) _ rest c.next.result (Some c.in-Some.name)
    c.words-walk.ensures c.next.ensures.steps c.in-Some.ensures in
    c.block_bytes.ensures ∙ (ap bytes_with c.announced_behind.ensures ∙
    (sym (behind_shown c.args.rules limit c.in-Some.name rest) ∙ behind))

pub returns-in-None : goal.returns-in-None
returns-in-None c = λ limit.
    let under : Rules = record c.args.rules { value_limit = limit } in
    behind_line under (words_of c.args.line.now) _ (words_left c.next.new.self) c.next.result None
    c.words-walk.ensures c.next.ensures.steps c.in-None.ensures
