-- The slot at the place is stepped, perhaps twice, and the others stay.
use Rattle.std.proofs.Common.{◌<◌, length, refl, arith}
use Rattle.std.proofs.lemmas.Option.{slice_get_read}
use Rattle.mc_serve.proofs.Parts.{seat_steps}
use Rattle.mc_serve.proofs.Zipped.{zips_set}
use Rattle.mc_serve.proofs.slot_table.SlotTable.step_at.Goals as goal

pub returns-then-place-len : goal.returns-then-place-len
returns-then-place-len g c shards rules were zips = zips

pub step-requires : goal.step-requires
step-requires g c =
    let items = c.args.self.now.all.items in
    let below : c.args.place < length items = omega arith in
    let old = c.index_mut-slot.result.now in
    let here = slice_get_read items (length items) c.args.place old refl below c.index_mut-slot.ensures.value in
    seat_steps items c.requires.2 c.args.place old old (λ line. g.D.Transport.Transport.place line)
    (λ line. g.D.Transport.Transport.sight line)
    (λ one. g.D.ConnectionSource.flow one.source) (λ one. one.session) (λ one. one.slot_state) c.requires.0 c.requires.1
    (g.K.Clock.may_answer c.args.clock.now) here (λ was stands. stands) c.requires.3

pub step-requires-in-Did : goal.step-requires-in-Did
step-requires-in-Did g c =
    let items = c.args.self.now.all.items in
    let below : c.args.place < length items = omega arith in
    let old = c.index_mut-slot.result.now in
    let here = slice_get_read items (length items) c.args.place old refl below c.index_mut-slot.ensures.value in
    seat_steps items c.requires.2 c.args.place old c.step.new.self (λ line. g.D.Transport.Transport.place line)
    (λ line. g.D.Transport.Transport.sight line)
    (λ one. g.D.ConnectionSource.flow one.source) (λ one. one.session) (λ one. one.slot_state) c.requires.0 c.requires.1
    (g.K.Clock.may_answer c.args.clock.now) here (c.step.ensures c.requires.0 c.requires.1) c.requires.3

pub returns-in-Did : goal.returns-in-Did
returns-in-Did g c shards rules were zips =
    let items = c.args.self.now.all.items in
    let below : c.args.place < length items = omega arith in
    let old = c.index_mut-slot.result.now in
    let here = slice_get_read items (length items) c.args.place old refl below c.index_mut-slot.ensures.value in
    zips_set _ were items c.args.place old c.step-in-Did.new.self here
    (λ was stands. c.step-in-Did.ensures shards rules was (c.step.ensures shards rules was stands)) zips

pub returns-in_default : goal.returns-in_default
returns-in_default g c shards rules were zips =
    let items = c.args.self.now.all.items in
    let below : c.args.place < length items = omega arith in
    let old = c.index_mut-slot.result.now in
    let here = slice_get_read items (length items) c.args.place old refl below c.index_mut-slot.ensures.value in
    zips_set _ were items c.args.place old c.step.new.self here (λ was. c.step.ensures shards rules was) zips
