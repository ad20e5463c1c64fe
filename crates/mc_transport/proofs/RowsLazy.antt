-- A server that reports a new line broken, unread and unanswered, is explained by no log.
use Rattle.std.proofs.Common.{◌≡◌, ℕ, inl, inr, Bool, true, false, List, [], ◌∷◌, ◌++◌, length, length-append, map}
use Rattle.std.proofs.Common.{Some, refl, ap, ◌∙◌, arith}
use Rattle.std.proofs.lemmas.List.{length-map, nil_from_length}
use Rattle.std.specs.List.{concat}
use Rattle.mc_wire.specs.Sink.{Listed, Read, Sight}
use Rattle.mc_sizes.specs.declared.sizes.Sizes.{Sizes}
use Rattle.mc_model.specs.Log.{Entry}
use Rattle.mc_conn.specs.History.{text_done}
use Rattle.mc_transport.specs.Explains.{ExplainsLine}
use Rattle.mc_transport.specs.Story.{Breaks, FailsAtRead, FailsAtWrite}

-- a new line, which has failed or not
abbrev fresh : Bool → Sight
fresh failed = record { given = Listed []; ended = false; reads = Some []; taken = Listed []; failed = failed }

unread : (failed : Bool) → FailsAtRead (fresh false) (fresh failed) → ⊥
unread failed read =
    let mark : Read = record { given = Listed []; taken = Listed [] } in
    let all : [] ≡ read.before ++ mark ∷ [] =
    (let e : Some [] ≡ Some (read.before ++ mark ∷ []) = read.reads_are in cc) in
    omega (arith, ap length all, length-append read.before (mark ∷ []))

unwritten : (failed : Bool) (texts : List (List ℕ)) → texts ≡ [] → FailsAtWrite (fresh false) (fresh failed) texts → ⊥
unwritten failed texts none write =
    let some = write.some in
    let e : Listed write.rest ≡ Listed (concat texts) = write.owed in
    let all : write.rest ≡ concat texts = cc in
    omega (arith, some, ap length (all ∙ ap concat none))

no_cause : (failed : Bool) (texts : List (List ℕ)) → texts ≡ [] → Breaks (fresh false) (fresh failed) texts → ⊥
no_cause failed texts none (inl own) =
    elim own.1 [ inl read ↦ unread failed read | inr write ↦ unwritten failed texts none write ]
no_cause failed texts none (inr up) = let more = up.more in omega (arith, more, ap length none)

pub refused : (sizes : Sizes) (may_answer : ℕ → Type 0) (log : List Entry) (failed : Bool)
    → ExplainsLine sizes may_answer log 0
    (record { begin = fresh false; now = fresh failed; commands = 0; broke = true }) → ⊥
refused sizes may_answer log failed explains =
    let counted = explains.counted in
    let none : map text_done explains.history ≡ [] =
    nil_from_length _ (omega (arith, counted, length-map explains.history text_done)) in
    no_cause failed _ none (explains.story.breaks refl)
