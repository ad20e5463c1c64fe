-- What the kit's decoder answers, said of key words.
use Rattle.std.proofs.Common.{take, arith}
use Rattle.mc_wire.proofs.Base64Keys.{IsKeyWord, decoded_key, decoded_err, undecoded_key}
use Rattle.mc_wire.proofs.key.decode.Goals as goal
use Rattle.mc_wire.proofs.key.decode.Goals.{In-Ok}

key_word : (c : In-Ok) → IsKeyWord c.args.word.now (take c.in-Ok.len c.decode_slice_unchecked.new.output)
key_word c =
    decoded_key c.args.word.now (take c.in-Ok.len c.decode_slice_unchecked.new.output)
    (λ i. let fits = c.type_inv.word i in omega arith)
    c.requires.some c.requires.short c.in-Ok.ensures.ok.0

pub returns-in-Ok-clause-key : goal.returns-in-Ok-clause-key
returns-in-Ok-clause-key c = (key_word c).key

pub returns-in-Ok-clause-text : goal.returns-in-Ok-clause-text
returns-in-Ok-clause-text c = (key_word c).text

pub returns-in-Ok-clause-fits : goal.returns-in-Ok-clause-fits
returns-in-Ok-clause-fits c = (key_word c).fault

pub returns-in-Err-clause-fault : goal.returns-in-Err-clause-fault
returns-in-Err-clause-fault c =
    (undecoded_key c.args.word.now c.requires.some c.requires.short
    (decoded_err c.args.word.now c.in-Err.field-0 c.in-Err.ensures.err)).0

pub returns-in-Err-clause-none : goal.returns-in-Err-clause-none
returns-in-Err-clause-none c =
    (undecoded_key c.args.word.now c.requires.some c.requires.short
    (decoded_err c.args.word.now c.in-Err.field-0 c.in-Err.ensures.err)).1
