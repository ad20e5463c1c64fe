-- The line has four words, and perhaps one more, or it is refused for the number of its words.
use Rattle.std.proofs.Common.{◌≡◌, Err, rules, sym}
use Rattle.mc_wire.specs.Words.{words_left}
use Rattle.mc_command.specs.Classic.{storage_words}
use Rattle.mc_command.specs.Field.{word_count_refusal}
use Rattle.mc_command.proofs.StorageLines.{fourth_word, storage_says}
use Rattle.mc_command.proofs.storage.read_storage.Goals as goal

pub returns-in-Some-Some-Some-Some-None : goal.returns-in-Some-Some-Some-Some-None
returns-in-Some-Some-Some-Some-None c =
    let arm = c.in-Some-Some-Some-Some-None in
    let first = rw arm.is-0 at c.next-key.ensures.steps in
    let second = rw arm.is-1 at c.next-flags.ensures.steps in
    let third = rw arm.is-2 at c.next-exptime.ensures.steps in
    let fourth = rw arm.is-3 at c.next-count.ensures.steps in
    let none = rw arm.is-4 at c.next-more.ensures.steps in
    let block = rw arm.is-3 at c.announced-block.ensures in
    let said = storage_says c.args.rules c.args.mode _ _ _ _ _ _ _ arm.key arm.flags arm.exptime arm.field-0-3
    c.next-noreply.result c.storage.result first second third fourth c.next-noreply.ensures.steps none
    c.storage.ensures in
    rw (c.block_line.ensures, block) said

pub returns-in_default : goal.returns-in_default
returns-in_default c =
    let words = words_left c.args.walk in
    let fourth = fourth_word words _ _ _ _ _ _ _ _ c.next-key.ensures.steps c.next-flags.ensures.steps
    c.next-exptime.ensures.steps c.next-count.ensures.steps in
    let few : storage_words c.args.rules c.args.mode words ≡ Err (word_count_refusal c.args.rules) = search rules in
    rw (fourth, few, sym c.announced-block.ensures) c.miscounted.ensures
