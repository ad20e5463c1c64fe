use Rattle.std.proofs.Common.{◌++◌, [], sym, append-nil}
use Rattle.mc_reader.proofs.Texts.{same_spelled}
use Rattle.mc_reader.proofs.laws.no_text_begins_another.Goals as goal

pub returns : goal.returns
returns c rules text more entry other spelled longer =
    let same = same_spelled rules text (text ++ more) more [] entry other spelled longer
    (sym (append-nil (text ++ more))) in
    (same.rest, same.entry)
