-- A name that is none of the four is that of no event.
use Rattle.std.proofs.Common.{◌≡◌, ℕ, false, List, [], ◌∷◌, None, bytes_eq, codes, arith, ap, sym, ◌∙◌}
use Rattle.std.proofs.lemmas.Bool.{false_from_ne_true}
use Rattle.std.proofs.lemmas.Slice.Eq.{bytes_eq-Decides}
use Rattle.mc_sizes.specs.declared.sizes.Sizes.{Sizes}
use Rattle.mc_replay.specs.Event.{event_of}
use Rattle.mc_replay.proofs.event.event_between.Goals as goal

-- none of these words names the event
unnamed : (sizes : Sizes) (name first second : List ℕ) → bytes_eq name (codes "receive") ≡ false
    → (name ≡ codes "feed" → ⊥) → (name ≡ codes "take" → ⊥) → (name ≡ codes "pop" → ⊥)
    → None ≡ event_of sizes (name ∷ first ∷ second ∷ [])
unnamed sizes name first second receive feed take pop =
    let differs : (word : List ℕ) → (name ≡ word → ⊥) → bytes_eq name word ≡ false =
    λ word other. false_from_ne_true (bytes_eq name word) (λ same. other ((bytes_eq-Decides name word).0 same)) in
    rw (receive, differs (codes "feed") feed, differs (codes "take") take, differs (codes "pop") pop)

pub returns-in_default : goal.returns-in_default
returns-in_default c =
    let receive = ap (bytes_eq c.args.name.now) (sym c.as_slice.ensures) ∙ sym c.if-eq.ensures in
    unnamed c.args.sizes c.args.name.now c.args.first.now c.args.second.now receive (λ is. grind arith)
    (λ is. grind arith) (λ is. grind arith)
