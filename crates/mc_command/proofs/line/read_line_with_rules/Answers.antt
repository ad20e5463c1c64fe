use Rattle.std.proofs.Common.{◌≡◌, ℕ, false, List, Option, Some, None, Bor, MatchOption, refl, rules, sym}
use Rattle.mc_wire.specs.Words.{words_left, words_of}
use Rattle.mc_command.specs.declared.name.CommandName.{CommandName}
use Rattle.mc_command.specs.Name.{name_of}
use Rattle.mc_command.specs.Hiding.{hides_faults, shown_line}
use Rattle.mc_command.specs.Table.{line_named, line_of, may_take_memory, takes_memory}
use Rattle.mc_command.proofs.Hidings.{says_shown}
use Rattle.mc_command.proofs.StorageLines.{Steps}
use Rattle.mc_command.proofs.line.read_line_with_rules.Goals as goal

pub returns-clause-says : goal.returns-clause-says
unfolding line_of
returns-clause-says c =
    let name = c.in-Some.name in
    let behind = words_left c.next.new.self in
    let line : line_of c.args.rules (words_of c.args.line.now)
    ≡ shown_line (hides_faults c.args.rules name behind) (line_named c.args.rules name behind) = search rules in
    rw (line, c.hide_fault.ensures, c.text-behind.ensures)
    (says_shown (hides_faults c.args.rules name behind) (line_named c.args.rules name behind) c.read_named-read.result
    c.read_named-read.ensures.says)

named_takes : (words : List (List ℕ)) (first : Option (Bor (List ℕ))) (rest : List (List ℕ)) (name : CommandName)
    → Steps words first rest →
    MatchOption first (Some name ≡ None) (λ word. Some name ≡ name_of word.now) → may_take_memory words ≡ false
    → takes_memory name ≡ false
named_takes words None rest name steps named few =
    absurd (let none : ◌≡◌ {A = Option CommandName} (Some name) None = named in cc)
named_takes words (Some word) rest name steps named few = rw (steps, sym named) at few

pub returns-clause-told : goal.returns-clause-told
unfolding line_of
returns-clause-told c few =
    let name = c.in-Some.name in
    let behind = words_left c.next.new.self in
    let line : line_of c.args.rules (words_of c.args.line.now)
    ≡ shown_line (hides_faults c.args.rules name behind) (line_named c.args.rules name behind) = search rules in
    let takes = named_takes (words_of c.args.line.now) c.next.result behind name
    (rw (sym c.words-walk.ensures) c.next.ensures.steps) c.in-Some.ensures few in
    rw (line, c.hide_fault.ensures, c.text-behind.ensures, c.read_named-read.ensures.told takes) refl
