use Rattle.std.proofs.Common.{refl, ◌∙◌, ap}
use Rattle.std.proofs.lemmas.Result.{err_from_is_err_and}
use Rattle.mc_wire.specs.Words.{words_of}
use Rattle.mc_command.proofs.MetaCounts.{counted_first}
use Rattle.mc_command.proofs.MetaWalks.{read_from, read_whole, read_refused}
use Rattle.mc_command.proofs.meta_flags.read_flags.Goals as goal

pub loop-word-init : goal.loop-word-init
loop-word-init c = record {
  can_next = tt;
  is_finite = tt;
  counted = counted_first c.args.rules.profile c.new-reader.result c.new-reader.ensures.seen c.new-reader.ensures.asked;
  left = refl;
}

pub returns-in_err-read : goal.returns-in_err-read
returns-in_err-read c =
    let p = err_from_is_err_and c.from_residual.result c.from_residual.ensures.1 in
    let left = c.loop-word.invariant.left
    ∙ ap (λ walk. read_from c.args.rules c.args.name c.new-reader.result (words_of walk.rest.now))
    c.into_iter-word-iterator.ensures.into_iter_gives in
    rw (p.1, p.2)
    (read_refused c.args.rules c.args.name c.loop-word.reader c.new-reader.result
    (words_of c.loop-word.word-iterator.rest.now) (words_of c.args.walk.rest.now) c.in-Some.word.now
    (words_of c.next.new.self.rest.now) c.in_err-read.field-0.0
    c.new-reader.ensures.seen c.new-reader.ensures.asked left c.in-Some.ensures.steps c.in_err-read.ensures.err)

pub returns : goal.returns
returns c =
    let left = c.loop-word.invariant.left
    ∙ ap (λ walk. read_from c.args.rules c.args.name c.new-reader.result (words_of walk.rest.now))
    c.into_iter-word-iterator.ensures.into_iter_gives in
    read_whole c.args.rules c.args.name c.loop-word.reader c.new-reader.result
    (words_of c.loop-word.word-iterator.rest.now) (words_of c.args.walk.rest.now)
    c.new-reader.ensures.seen c.new-reader.ensures.asked left c.in-None.ensures.steps.0
