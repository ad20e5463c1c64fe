-- Flags that are refused refuse the line, then the key does, and else the two make the command.
use Rattle.std.proofs.Common.{Result, Ok, ap, refl}
use Rattle.mc_command.specs.declared.command.Command.{Command}
use Rattle.mc_command.specs.declared.command.Command.TheVariants as command
use Rattle.mc_command.specs.declared.meta.MetaGet.{MetaGet}
use Rattle.mc_command.specs.declared.error.CommandError.{CommandError}
use Rattle.mc_wire.specs.Words.{words_of}
use Rattle.mc_command.specs.declared.meta.MetaKind.TheVariants.{Get}
use Rattle.mc_command.specs.Meta.{as_meta_get}
use Rattle.mc_command.proofs.MetaLaws.{flags_refused, key_refused, reads_command, reads_refused}
use Rattle.mc_command.proofs.meta_line.read_meta_get.Goals as goal

pub returns : goal.returns
returns c =
    reads_command c.args.rules Get c.args.word.now (words_of c.args.flags.rest.now) c.in_ok-asked.asked c.in_ok-key.key
    (Ok (command.MetaGet c.into_get.result))
    c.in_ok-asked.ensures c.in_ok-key.ensures (ap
    (λ (get : MetaGet). let r : Result Command CommandError = Ok (command.MetaGet get) in r) c.into_get.ensures)

pub returns-in_err-asked : goal.returns-in_err-asked
returns-in_err-asked c =
    reads_refused _ as_meta_get c.from_residual.result c.in_err-asked.field-0.0 (λ e. refl) c.from_residual.ensures.1
    (λ other. flags_refused c.args.rules Get c.args.word.now (words_of c.args.flags.rest.now) _ c.in_err-asked.ensures)

pub returns-in_err-key : goal.returns-in_err-key
returns-in_err-key c =
    reads_refused _ as_meta_get c.from_residual-in_err-key.result c.in_err-key.field-0.0 (λ e. refl)
    c.from_residual-in_err-key.ensures.1
    (λ other. key_refused c.args.rules Get c.args.word.now (words_of c.args.flags.rest.now) c.in_ok-asked.asked _
    c.in_ok-asked.ensures (c.in_err-key.ensures other))
