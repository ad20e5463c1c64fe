-- What is in a queue, and what its calls make of that.
use Rattle.std.proofs.Common.{◌≡◌, ◌==◌, ℕ, zero, suc, ◌<◌, Bool, true, false, List, [], ◌∷◌, ◌++◌, length, Option}
use Rattle.std.proofs.Common.{Some, None, is_some, not, refl, ap, sym, ◌∙◌, append_assoc, append-nil, arith, flat_map}
use Rattle.std.proofs.Common.{length-append}
use Rattle.std.proofs.lemmas.Bool.{false≢true}
use Rattle.std.proofs.lemmas.List.Concat.{flat_map-append}
use Rattle.std.specs.List.{AllByRecursion}
use Rattle.mc_fast.proofs.Lines.{is_zero}
use Rattle.mc_split.specs.declared.queue.Entry.{Entry}
use Rattle.mc_split.specs.declared.run.Run.{Run}
use Rattle.mc_split.specs.internal.Queue.{IsBegun, IsFilled, begun_left, pieces_in, queued}

-- The pieces of an entry that is put behind the others come last.
pub queued_push : (begun : Option Run) (entries : List Entry) (entry : Entry) → queued begun (entries ++ entry ∷ [])
    ≡ queued begun entries ++ pieces_in entry
queued_push begun entries entry =
    let more : flat_map pieces_in (entries ++ entry ∷ []) ≡ flat_map pieces_in entries ++ pieces_in entry =
    flat_map-append pieces_in entries (entry ∷ [])
    ∙ ap (λ ps. flat_map pieces_in entries ++ ps) (append-nil (pieces_in entry)) in
    ap (λ ps. begun_left begun ++ ps) more
    ∙ sym (append_assoc (begun_left begun) (flat_map pieces_in entries) (pieces_in entry))

-- A number that is not 0 is above 0.
pub some_is : (n : ℕ) → (n == 0) ≡ false → 0 < n
some_is zero none = absurd (false≢true (sym none))
some_is (suc n) some = omega arith

none_zero_by : (n : ℕ) (found : Bool) → 0 < n → (n == 0) ≡ found → found ≡ false
none_zero_by n true some is = absurd (omega (arith, some, is_zero n is))
none_zero_by n false some is = refl

none_zero : (n : ℕ) → 0 < n → (n == 0) ≡ false
none_zero n some = none_zero_by n (n == 0) some refl

-- Where no run was begun, a queue has no piece just where it has no entry.
pub empty_without : (begun : Option Run) (entries : List Entry) (none empty : Bool) → AllByRecursion IsFilled entries
    → is_some begun ≡ not none → none ≡ true → empty ≡ (length entries == 0) → empty
    ≡ (length (queued begun entries) == 0)
empty_without None [] none empty filled none_is is_none empty_is = empty_is
empty_without None (entry ∷ entries) none empty filled none_is is_none empty_is =
    let first = filled.0 in
    empty_is ∙ none_zero (length (entry ∷ entries)) (omega arith)
    ∙ sym (none_zero (length (pieces_in entry ++ flat_map pieces_in entries))
    (omega (arith, first, length-append (pieces_in entry) (flat_map pieces_in entries))))
empty_without (Some run) entries none empty filled none_is is_none empty_is =
    absurd (false≢true (sym (none_is ∙ ap not is_none)))

-- Where a run was begun, a queue has a piece.
pub some_with : (begun : Option Run) (entries : List Entry) (none : Bool) → IsBegun begun → is_some begun ≡ not none
    → none ≡ false → none ≡ (length (queued begun entries) == 0)
some_with None entries none begun_is none_is is_filled = absurd (false≢true (none_is ∙ ap not is_filled))
some_with (Some run) entries none begun_is none_is is_filled =
    is_filled ∙ sym (none_zero (length (begun_left (Some run) ++ flat_map pieces_in entries))
    (omega (arith, begun_is, length-append (begun_left (Some run)) (flat_map pieces_in entries))))
