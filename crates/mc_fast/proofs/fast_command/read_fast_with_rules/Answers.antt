-- The first word is the name of its arm, and the words behind it are read as the command table has them
-- behind that name.
use Rattle.std.proofs.Common.{◌≡◌, ◌≤◌, ◌<◌, ℕ, suc, List, ◌∷◌, ◌&&◌, false, arith, codes, rules, sym}
use Rattle.std.proofs.lemmas.Slice.Eq.{text_from_reads}
use Rattle.mc_wire.specs.Words.{words_left}
use Rattle.mc_command.specs.declared.line.Line.{Line}
use Rattle.mc_command.specs.declared.rules.Rules.{Rules}
use Rattle.mc_command.specs.Hiding.{ends_in_noreply, shown_line}
use Rattle.mc_command.specs.Name.{name_of}
use Rattle.mc_command.specs.Rules.{is_drop_in}
use Rattle.mc_command.specs.Table.{line_if_named, line_of}
use Rattle.mc_command.specs.Meta.{meta_line_of}
use Rattle.mc_command.proofs.Hidings.{shown_as_it_is}
use Rattle.mc_fast.specs.declared.fast_command.FastCommand.{FastCommand}
use Rattle.mc_fast.specs.FastCommand.{IsFastCommand}
use Rattle.mc_fast.proofs.fast_command.read_fast_with_rules.Goals as goal

-- A length between a bound and the next is the bound.
just : (length bound : ℕ) → bound ≤ length → length < suc bound → length ≡ bound
just length bound least below = omega arith

-- A line is what its name and the words behind it make it.
named : (by : Rules) (line left behind : List (List ℕ)) (word name : List ℕ) (found : FastCommand) → left ≡ line → left
    ≡ word ∷ behind → word ≡ name
    → IsFastCommand by (line_if_named by (name_of name) behind) found → IsFastCommand by (line_of by line) found
unfolding line_of
named by line left behind word name found line_is first name_is is = rw (sym line_is, first, name_is) is

-- A line with nothing to hide is shown as it is.
shown : (by : Rules) (line : Line) (found : FastCommand) → IsFastCommand by line found
    → IsFastCommand by (shown_line false line) found
shown by line found is = rw shown_as_it_is is

pub returns-in-Some-get : goal.returns-in-Some-get
unfolding name_of
returns-in-Some-get c =
    let name = text_from_reads c.in-Some-get.field-0.now (codes "get")
    (just _ _ c.in-Some-get.len_at_least c.in-Some-get.len_below) (search rules) in
    named c.args.rules _ _ _ _ (codes "get") _ c.words-walk.ensures c.in-Some-get.ensures.steps name
    (shown c.args.rules _ _ c.read_get.ensures)

pub returns-in-Some-set : goal.returns-in-Some-set
unfolding name_of
returns-in-Some-set c =
    let name = text_from_reads c.in-Some-set.field-0.now (codes "set")
    (just _ _ c.in-Some-set.len_at_least c.in-Some-set.len_below) (search rules) in
    named c.args.rules _ _ _ _ (codes "set") _ c.words-walk.ensures c.in-Some-set.ensures.steps name
    (c.read_set.ensures (is_drop_in c.args.rules && ends_in_noreply (words_left c.next.new.self)))

pub returns-in-Some-mg : goal.returns-in-Some-mg
unfolding name_of meta_line_of
returns-in-Some-mg c =
    let name = text_from_reads c.in-Some-mg.field-0.now (codes "mg")
    (just _ _ c.in-Some-mg.len_at_least c.in-Some-mg.len_below) (search rules) in
    named c.args.rules _ _ _ _ (codes "mg") _ c.words-walk.ensures c.in-Some-mg.ensures.steps name
    (shown c.args.rules _ _ c.read_meta_get.ensures)

pub returns-in-Some-mn : goal.returns-in-Some-mn
unfolding name_of line_of
returns-in-Some-mn c =
    let name = text_from_reads c.in-Some-mn.field-0.now (codes "mn")
    (just _ _ c.in-Some-mn.len_at_least c.in-Some-mn.len_below) (search rules) in
    rw (sym c.words-walk.ensures, c.in-Some-mn.ensures.steps, name)

pub returns-in-Some-ms : goal.returns-in-Some-ms
unfolding name_of meta_line_of
returns-in-Some-ms c =
    let name = text_from_reads c.in-Some-ms.field-0.now (codes "ms")
    (just _ _ c.in-Some-ms.len_at_least c.in-Some-ms.len_below) (search rules) in
    named c.args.rules _ _ _ _ (codes "ms") _ c.words-walk.ensures c.in-Some-ms.ensures.steps name
    (shown c.args.rules _ _ c.read_meta_set.ensures)

pub returns-in-Some-gets : goal.returns-in-Some-gets
unfolding name_of
returns-in-Some-gets c =
    let name = text_from_reads c.in-Some-gets.field-0.now (codes "gets")
    (just _ _ c.in-Some-gets.len_at_least c.in-Some-gets.len_below) (search rules) in
    named c.args.rules _ _ _ _ (codes "gets") _ c.words-walk.ensures c.in-Some-gets.ensures.steps name
    (shown c.args.rules _ _ c.read_get-in-Some-gets.ensures)
