-- The places are those that were found.
use Rattle.std.proofs.Common.{codes, is_some, map, option_map, ap, sym, ◌∙◌}
use Rattle.std.proofs.lemmas.Result.{IfOk-weaker}
use Rattle.clap.specs.Words.{found_of, rows_of}
use Rattle.clap.proofs.WalkLemmas.{first_value-rows, raw_values-rows}
use Rattle.mc_options.proofs.Places.{listed_places, no_places, own_place}
use Rattle.mc_options.proofs.options.places_of.Goals as goal

pub returns-in-Some : goal.returns-in-Some
returns-in-Some c =
    let found = found_of c.args.matches.now in
    let words = sym (raw_values-rows found (codes "listen"))
    ∙ (sym c.get_strs.ensures ∙ ap (option_map (λ words. map (λ word. word.now) words.now)) c.in-Some.is) in
    IfOk-weaker c.to_vec.result _ _
    (λ places same. ap (map (λ word. word.now)) (same (λ word copy is. is))
    ∙ sym (listed_places (rows_of found) _ words)) c.to_vec.ensures.items_if_clones_equal

pub returns-in-None : goal.returns-in-None
returns-in-None c =
    let found = found_of c.args.matches.now in
    let words = sym (raw_values-rows found (codes "listen"))
    ∙ (sym c.get_strs.ensures ∙ ap (option_map (λ words. map (λ word. word.now) words.now)) c.in-None.is) in
    let path = ap is_some (sym (first_value-rows found (codes "unix-socket")))
    ∙ (sym c.is_given.ensures ∙ c.if-is_given.true) in
    ap (map (λ word. word.now)) c.new.ensures.items ∙ sym (no_places (rows_of found) words path)

pub returns-in_ok-push-in-None-2 : goal.returns-in_ok-push-in-None-2
returns-in_ok-push-in-None-2 c =
    let found = found_of c.args.matches.now in
    let words = sym (raw_values-rows found (codes "listen"))
    ∙ (sym c.get_strs.ensures ∙ ap (option_map (λ words. map (λ word. word.now) words.now)) c.in-None-2.is) in
    let path = ap is_some (sym (first_value-rows found (codes "unix-socket")))
    ∙ (sym c.is_given.ensures ∙ c.if-is_given.false) in
    rw (c.in_ok-push-in-None-2.ensures.items, c.new-places.ensures.items) (sym (own_place (rows_of found) words path))
