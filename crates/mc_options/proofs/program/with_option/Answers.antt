-- The option is added with the rule that the table has for it.
use Rattle.std.proofs.Common.{◌≡◌, ℕ, Bool, false, List, Option, None, Some, Bor, refl, ap, ◌∙◌, if◌then◌else◌}
use Rattle.std.proofs.lemmas.Result.{IfOk-weaker}
use Rattle.clap.specs.Words.{Rule, app_of, new_rule, rule_of, with_rule}
use Rattle.clap.specs.declared.builder.ArgAction.{ArgAction}
use Rattle.clap.specs.declared.builder.ArgAction.TheVariants.{SetTrue}
use Rattle.clap.specs.declared.builder.arg.Arg.{Arg}
use Rattle.mc_options.specs.Program.{flag_rule, valued_rule, with_letter}
use Rattle.mc_options.specs.internal.Told.{action_of, by_letter}
use Rattle.mc_options.proofs.program.with_option.Goals as goal

-- the rule of an option with its name, its letter, its help and what it does
acting : (new long help hide letter arg : Arg) (name text : Bor (List ℕ)) (hidden : Bool) (given : Option ℕ)
    (action : ArgAction) → rule_of new ≡ new_rule name.now
    → new.global ≡ false → long ≡ record new { long = Some name } → help ≡ record long { help = Some text } → hide
    ≡ record help { hide = hidden } → letter ≡ by_letter given hide
    → arg ≡ record letter { action = Some action }
    → (arg.global ≡ false) ×
    (rule_of arg ≡ with_letter given (record (new_rule name.now) { long = Some name.now; action = Some action }))
acting new long help hide letter arg name text hidden None action rule local named helped hides letters acts =
    let told : letter ≡ record new { long = Some name; help = Some text; hide = hidden } =
    letters ∙ (hides ∙ ap (λ (a : Arg). record a { hide = hidden })
    (helped ∙ ap (λ (a : Arg). record a { help = Some text }) named)) in
    let whole = acts ∙ ap (λ (a : Arg). record a { action = Some action }) told in (
      ap (λ (a : Arg). a.global) whole ∙ local,
      ap rule_of whole ∙ ap (λ (r : Rule). record r { long = Some name.now; action = Some action }) rule,
    )
acting new long help hide letter arg name text hidden (Some given) action rule local named helped hides letters acts =
    let told : hide ≡ record new { long = Some name; help = Some text; hide = hidden } = hides
    ∙ ap (λ (a : Arg). record a { hide = hidden }) (helped ∙ ap (λ (a : Arg). record a { help = Some text }) named) in
    let whole = acts ∙ ap (λ (a : Arg). record a { action = Some action })
    (letters ∙ ap (λ (a : Arg). record a { short = Some given }) told) in (
      ap (λ (a : Arg). a.global) whole ∙ local,
      ap rule_of whole ∙ ap (λ (r : Rule). record r { long = Some name.now; short = Some given; action = Some action })
          rule,
    )

-- the name of a value and the letter are set in either order
valued : (given : Option ℕ) (rule : Rule) → record (with_letter given rule) { value_names = 1 }
    ≡ with_letter given (record rule { value_names = 1 })
valued None rule = refl
valued (Some given) rule = refl

pub returns-then-is_empty : goal.returns-then-is_empty
returns-then-is_empty c =
    let name = c.args.told.now.0 in
    let given = c.args.told.now.1 in
    let is = acting c.new.result c.long.result c.help.result c.hide-named.result c.by_letter-option.result
    c.action.result name c.args.told.now.3 c.is_empty.result given SetTrue c.new.ensures.rule c.new.ensures.optional.1
    c.long.ensures c.help.ensures c.hide-named.ensures c.by_letter-option.ensures c.action.ensures in
    let rule = is.1 ∙ ap (λ (empty : Bool). with_letter given
    (if empty then flag_rule name.now else valued_rule (action_of c.args.told.now.2.now) name.now))
    c.if-is_empty.ensures in
    IfOk-weaker c.arg.result _ _ (λ more adds. adds.shape is.0 ∙ ap (with_rule (app_of c.args.program)) rule)
    c.arg.ensures

pub returns-else-is_empty : goal.returns-else-is_empty
returns-else-is_empty c =
    let name = c.args.told.now.0 in
    let given = c.args.told.now.1 in
    let is = acting c.new.result c.long.result c.help.result c.hide-named.result c.by_letter-option.result
    c.action-else-is_empty.result name c.args.told.now.3 c.is_empty.result given (action_of c.args.told.now.2.now)
    c.new.ensures.rule c.new.ensures.optional.1
    c.long.ensures c.help.ensures c.hide-named.ensures c.by_letter-option.ensures (c.action-else-is_empty.ensures ∙ ap
    (λ (a : ArgAction). record c.by_letter-option.result { action = Some a }) c.action_of.ensures) in
    let local = ap (λ (a : Arg). a.global) c.value_name.ensures ∙ is.0 in
    let rule = ap rule_of c.value_name.ensures
    ∙ (ap (λ (r : Rule). record r { value_names = 1 }) is.1
    ∙ (valued given _ ∙ ap (λ (empty : Bool). with_letter given
    (if empty then flag_rule name.now else valued_rule (action_of c.args.told.now.2.now) name.now))
    c.if-is_empty.ensures)) in
    IfOk-weaker c.arg-else-is_empty.result _ _
    (λ more adds. adds.shape local ∙ ap (with_rule (app_of c.args.program)) rule) c.arg-else-is_empty.ensures
