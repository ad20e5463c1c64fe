-- Halves that are put in use and made vacant.
use Rattle.std.proofs.Common.{◌≡◌, ◌≢◌, ℕ, zero, suc, ◌+◌, ◌-◌, ◌*◌, ◌/◌}
use Rattle.std.proofs.Common.{◌%◌, ◌<◌, ◌≤◌, Bool, true, false, cond, inl, inr, List}
use Rattle.std.proofs.Common.{[], ◌∷◌, ◌++◌, length, set, Option, Some, None, IsSome, refl, sym, ap, ◌∙◌, arith}
use Rattle.std.proofs.Common.{eq-eqb, ne_eqb, true≢false, length-append, length-set}
use Rattle.std.proofs.lemmas.Bool.{cases_eq, lt-ltb, le-ltb}
use Rattle.std.proofs.lemmas.List.{get_or-set_same, get_or-set_other}
use Rattle.std.proofs.lemmas.Option.{none-some, same_Some, slice_get_past}
use Rattle.std.specs.List.{slice_get}
use Rattle.mc_cells.specs.declared.TheConstants.{SPLIT}
use Rattle.mc_cells.specs.declared.cell.Cell.{Cell}
use Rattle.mc_cells.specs.Chain.{Slots, cell_at, cell_of, next_in, bytes_in}
use Rattle.mc_cells.specs.Pool.{IsAdded}
use Rattle.mc_cells.specs.Halves.{is_number, half_of, half_beside, piece_in}
use Rattle.mc_cells.specs.Halves.{pieces_in, AreLinked, IsHalfAdded, IsHalfRemoved}
use Rattle.mc_cells.proofs.Vacant.{within}
use Rattle.mc_cells.proofs.Listed.{get_last, get_front, get_either, get_set_same, get_set_other, get_inside}
use Rattle.mc_cells.proofs.Listed.{test_last, test_set, halves_few}
use Rattle.mc_cells.proofs.Halved.{piece_at, piece_same, pieces_added}

-- a half of a split cell
pub piece_split : (halves : List ℕ) (n at : ℕ) (slot : Option Cell) (cell : Cell) (found : Option ℕ)
    → slot ≡ Some cell → cell.next ≡ SPLIT + at → slice_get halves at ≡ found
    → piece_in halves n slot ≡ cond (is_number n found) None (Some (cell_of 0 (half_of n cell.bytes)))
piece_split halves n at slot cell found is link get =
    let test = le-ltb cell.next SPLIT (omega (arith, link)) in
    let place : cell.next - SPLIT ≡ at = omega (arith, link) in
    rw (is, test, place, get) refl

-- a vacant half has no piece
pub piece_vacant : (halves : List ℕ) (n at : ℕ) (slot : Option Cell) (cell : Cell)
    → slot ≡ Some cell → cell.next ≡ SPLIT + at → slice_get halves at ≡ Some n → piece_in halves n slot ≡ None
piece_vacant halves n at slot cell is link get =
    piece_split halves n at slot cell (Some n) is link get
    ∙ ap (λ (b : Bool). cond b None (Some (cell_of 0 (half_of n cell.bytes)))) (eq-eqb n n refl)

-- a half in use is a piece
pub piece_used : (halves : List ℕ) (n at : ℕ) (slot : Option Cell) (cell : Cell)
    → slot ≡ Some cell → cell.next ≡ SPLIT + at → is_number n (slice_get halves at) ≡ false
    → piece_in halves n slot ≡ Some (cell_of 0 (half_of n cell.bytes))
piece_used halves n at slot cell is link test =
    piece_split halves n at slot cell (slice_get halves at) is link refl
    ∙ ap (λ (b : Bool). cond b None (Some (cell_of 0 (half_of n cell.bytes)))) test

not_last : (halves : List ℕ) (n last : ℕ) → n ≢ last
    → is_number n (slice_get (halves ++ last ∷ []) (length halves)) ≡ false
not_last halves n last apart = rw (get_last halves last) (ne_eqb last n (λ e. apart (sym e)))

none_past : (halves : List ℕ) (n : ℕ) → is_number n (slice_get halves (length halves)) ≡ false
none_past halves n = rw (slice_get_past halves (length halves) (omega arith)) refl

one_linked : (number : ℕ) (slots : Slots) → next_in (cell_at slots (number / 2)) ≡ SPLIT
    → AreLinked (number ∷ []) slots
one_linked number slots link zero other here =
    rw (← same_Some number other here) (link ∙ omega arith)
one_linked number slots link (suc at) other here = absurd (none-some other here)

-- A vacant cell is split.
pub split_off : (old new : Slots) (number : ℕ) (cell : Cell) (bytes : List ℕ) → IsAdded old new number cell
    → cell.next ≡ SPLIT → half_of 0 cell.bytes ≡ bytes
    → IsHalfAdded [] old ((number * 2 + 1) ∷ []) new (number * 2) (cell_of 0 bytes)
split_off old new number cell bytes added link front =
    let half : number * 2 / 2 ≡ number = omega arith in
    let other_half : (number * 2 + 1) / 2 ≡ number = omega arith in
    let even : number * 2 % 2 ≡ 0 = omega arith in
    let first : half_of (number * 2) cell.bytes ≡ bytes = rw even front in
    let zeroth : cell.next ≡ SPLIT + 0 = link ∙ omega arith in
    let halves : List ℕ = (number * 2 + 1) ∷ [] in
    record {
      added = pieces_added [] old halves new (number * 2) (cell_of 0 bytes)
          (rw (half, added.vacant) refl)
          (piece_used halves (number * 2) 0 (cell_at new (number * 2 / 2)) cell (rw half added.here) zeroth
          (ne_eqb (number * 2 + 1) (number * 2) (λ e. absurd (omega (arith, e))))
          ∙ ap (λ xs. Some (cell_of 0 xs)) first)
          (λ other apart. elim (cases_eq (other / 2) number) [
            | inl same ↦
                let is : number * 2 + 1 ≡ other = omega (arith, same, apart) in
                let none : piece_in [] other (cell_at old (other / 2)) ≡ None = rw (same, added.vacant) refl in
                piece_vacant halves other 0 (cell_at new (other / 2)) cell (rw same added.here) zeroth
                (ap (λ (n : ℕ). Some n) is) ∙ sym none
            | inr differ ↦
                rw (added.others (other / 2) differ) (piece_same [] halves other (cell_at old (other / 2))
                (λ at. test_last [] (number * 2 + 1) other at (λ e. differ (omega (arith, e)))))
          ]);
      linked = one_linked (number * 2 + 1) new (rw (other_half, added.here) link);
    }

-- The last of the vacant halves is put in use.
pub filled : (halves : List ℕ) (number : ℕ) (old : Slots) (cell changed : Cell) (bytes : List ℕ)
    → AreLinked (halves ++ number ∷ []) old → cell_at old (number / 2) ≡ Some cell → changed.next ≡ cell.next
    → half_of number changed.bytes ≡ bytes
    → ((other : ℕ) → other % 2 ≢ number % 2 → half_of other changed.bytes ≡ half_of other cell.bytes)
    → IsHalfAdded (halves ++ number ∷ []) old halves (set old (number / 2) (Some changed)) number (cell_of 0 bytes)
filled halves number old cell changed bytes linked is next here beside =
    let all = halves ++ number ∷ [] in
    let last = get_last halves number in
    let link : cell.next ≡ SPLIT + length halves = rw is at (linked (length halves) number last) in
    let new = set old (number / 2) (Some changed) in
    let is_new : cell_at new (number / 2) ≡ Some changed
    = get_or-set_same old (number / 2) (Some changed) None (within old (number / 2) cell is) in
    let same_new = λ (n : ℕ) (apart : n ≢ number / 2). get_or-set_other old (number / 2) n (Some changed) None apart in
    let link_new : changed.next ≡ SPLIT + length halves = next ∙ link in
    record {
      added = pieces_added all old halves new number (cell_of 0 bytes)
          (piece_vacant all number (length halves) (cell_at old (number / 2)) cell is link last)
          (piece_used halves number (length halves) (cell_at new (number / 2)) changed is_new link_new
          (none_past halves number) ∙ ap (λ xs. Some (cell_of 0 xs)) here)
          (λ other apart. elim (cases_eq (other / 2) (number / 2)) [
            | inl same ↦
                piece_used halves other (length halves) (cell_at new (other / 2)) changed (rw same is_new) link_new
                (none_past halves other)
                ∙ ap (λ xs. Some (cell_of 0 xs)) (beside other (λ e. apart (omega (arith, e, same))))
                ∙ sym (piece_used all other (length halves) (cell_at old (other / 2)) cell (rw same is) link
                (not_last halves other number apart))
            | inr differ ↦
                rw (same_new (other / 2) differ)
                (sym (piece_same halves all other (cell_at old (other / 2))
                (λ at. test_last halves number other at apart)))
          ]);
      linked = λ at n found.
          let that = linked at n (get_front halves (number ∷ []) at n found) in
          let less = get_inside halves at n found in
          rw (same_new (n / 2) (λ same. absurd (omega (arith, less, link, rw (same, is) at that)))) that;
    }

-- the other number with the same half is that of the other half
pub beside_is : (number other : ℕ) → other / 2 ≡ number / 2 → other ≢ number → other ≡ half_beside number
beside_is number other same apart =
    elim (cases_eq (number % 2) 0) [
      | inl even ↦ rw even (omega (arith, even, same, apart))
      | inr odd ↦ rw (ne_eqb (number % 2) 0 odd) (omega (arith, odd, same, apart))
    ]

-- both halves have one cell
pub beside_half : (number : ℕ) → half_beside number / 2 ≡ number / 2
beside_half number =
    elim (cases_eq (number % 2) 0) [
      | inl even ↦ rw even (omega (arith, even))
      | inr odd ↦ rw (ne_eqb (number % 2) 0 odd) (omega (arith, odd))
    ]

-- neither half of a cell that is in use is among the vacant ones
not_there : (halves : List ℕ) (number at place n : ℕ) → is_number number (slice_get halves at) ≡ false
    → is_number (half_beside number) (slice_get halves at) ≡ false → n / 2 ≡ number / 2 → place ≡ at
    → slice_get halves place ≡ Some n → ⊥
not_there halves number at place n this that same is found =
    let here : slice_get halves at ≡ Some n = rw is at found in
    elim (cases_eq n number) [
      | inl e ↦ true≢false (sym (eq-eqb n number e) ∙ rw here at this)
      | inr apart ↦ true≢false (sym (eq-eqb n (half_beside number) (beside_is number n same apart)) ∙ rw here at that)
    ]

-- A half is made vacant beside one in use.
pub vacated_half : (halves : List ℕ) (number at : ℕ) (old : Slots) (cell : Cell) → AreLinked halves old
    → cell_at old (number / 2) ≡ Some cell → cell.next ≡ SPLIT + at
    → is_number number (slice_get halves at) ≡ false → is_number (half_beside number) (slice_get halves at) ≡ false
    → IsHalfRemoved halves old (halves ++ number ∷ [])
    (set old (number / 2) (Some (cell_of (SPLIT + length halves) cell.bytes))) number
vacated_half halves number at old cell linked is link this that =
    let all = halves ++ number ∷ [] in
    let changed = cell_of (SPLIT + length halves) cell.bytes in
    let new = set old (number / 2) (Some changed) in
    let is_new : cell_at new (number / 2) ≡ Some changed
    = get_or-set_same old (number / 2) (Some changed) None (within old (number / 2) cell is) in
    let same_new = λ (n : ℕ) (apart : n ≢ number / 2). get_or-set_other old (number / 2) n (Some changed) None apart in
    record {
      removed = λ piece here. pieces_added all new halves old number piece
          (piece_vacant all number (length halves) (cell_at new (number / 2)) changed is_new refl
          (get_last halves number))
          (sym (piece_at halves old number) ∙ here)
          (λ other apart. elim (cases_eq (other / 2) (number / 2)) [
            | inl same ↦
                piece_used halves other at (cell_at old (other / 2)) cell (rw same is) link
                (rw (beside_is number other same apart) that)
                ∙ sym (piece_used all other (length halves) (cell_at new (other / 2)) changed (rw same is_new) refl
                (not_last halves other number apart))
            | inr differ ↦
                rw (same_new (other / 2) differ)
                (sym (piece_same halves all other (cell_at old (other / 2))
                (λ at. test_last halves number other at apart)))
          ]);
      linked = λ place n found. elim (get_either halves number place n found) [
        | inl front ↦
            let that_link = linked place n front in
            rw (same_new (n / 2) (λ same. not_there halves number at place n this that same
            (omega (arith, link, rw (same, is) at that_link)) front)) that_link
        | inr end ↦ rw (end.0, end.1, is_new) refl
      ];
    }

-- the halves but the last one, and the cells without that one's
pub joined_last : (halves : List ℕ) (number : ℕ) (old new : Slots) (cell : Cell)
    → AreLinked (halves ++ half_beside number ∷ []) old → IsAdded new old (number / 2) cell
    → IsHalfRemoved (halves ++ half_beside number ∷ []) old halves new number
joined_last halves number old new cell linked gone =
    let other_half = half_beside number in
    let all = halves ++ other_half ∷ [] in
    let half = beside_half number in
    let last = get_last halves other_half in
    let link : cell.next ≡ SPLIT + length halves = rw (half, gone.here) at (linked (length halves) other_half last) in
    record {
      removed = λ piece here. pieces_added halves new all old number piece
          (rw gone.vacant refl)
          (sym (piece_at all old number) ∙ here)
          (λ other apart. elim (cases_eq (other / 2) (number / 2)) [
            | inl same ↦
                let is = beside_is number other same apart in
                let none : piece_in halves other (cell_at new (other / 2)) ≡ None = rw (same, gone.vacant) refl in
                piece_vacant all other (length halves) (cell_at old (other / 2)) cell (rw same gone.here) link
                (last ∙ ap (λ (n : ℕ). Some n) (sym is)) ∙ sym none
            | inr differ ↦
                rw (gone.others (other / 2) differ) (piece_same halves all other (cell_at new (other / 2))
                (λ at. test_last halves other_half other at (λ e. differ (ap (λ (n : ℕ). n / 2) e ∙ half))))
          ]);
      linked = λ at n found.
          let that = linked at n (get_front halves (other_half ∷ []) at n found) in
          let less = get_inside halves at n found in
          rw (← gone.others (n / 2) (λ same. absurd (omega (arith, less, link, rw (same, gone.here) at that)))) that;
    }

-- the last half in place of the other one, and the cells without that one's
pub joined : (halves : List ℕ) (number at last : ℕ) (old new : Slots) (cell moved : Cell)
    → AreLinked (halves ++ last ∷ []) old → at < length halves → slice_get halves at ≡ Some (half_beside number)
    → cell_at old (last / 2) ≡ Some moved
    → IsAdded new (set old (last / 2) (Some (cell_of (SPLIT + at) moved.bytes))) (number / 2) cell
    → IsHalfRemoved (halves ++ last ∷ []) old (set halves at last) new number
joined halves number at last old new cell moved linked less there is_old gone =
    let other_half = half_beside number in
    let all = halves ++ last ∷ [] in
    let few = set halves at last in
    let half = beside_half number in
    let changed = cell_of (SPLIT + at) moved.bytes in
    let mid = set old (last / 2) (Some changed) in
    let is_mid : cell_at mid (last / 2) ≡ Some changed
    = get_or-set_same old (last / 2) (Some changed) None (within old (last / 2) moved is_old) in
    let same_mid = λ (n : ℕ) (apart : n ≢ last / 2). get_or-set_other old (last / 2) n (Some changed) None apart in
    let front = get_front halves (last ∷ []) at other_half there in
    let end = get_last halves last in
    let link_last : moved.next ≡ SPLIT + length halves = rw is_old at (linked (length halves) last end) in
    let link_at : next_in (cell_at old (number / 2)) ≡ SPLIT + at = rw half at (linked at other_half front) in
    let far : last / 2 ≢ number / 2
    = λ same. absurd (omega (arith, less, link_last, rw (← same, is_old) at link_at)) in
    let is_cell : cell_at old (number / 2) ≡ Some cell
    = sym (same_mid (number / 2) (λ e. far (sym e))) ∙ gone.here in
    let link : cell.next ≡ SPLIT + at = rw is_cell at link_at in
    let is_new : cell_at new (last / 2) ≡ Some changed = sym (gone.others (last / 2) far) ∙ is_mid in
    let same_new = λ (n : ℕ) (a : n ≢ last / 2) (b : n ≢ number / 2). sym (gone.others n b) ∙ same_mid n a in
    record {
      removed = λ piece here. pieces_added few new all old number piece
          (rw gone.vacant refl)
          (sym (piece_at all old number) ∙ here)
          (λ other apart. elim (cases_eq (other / 2) (number / 2)) [
            | inl same ↦
                let is = beside_is number other same apart in
                let none : piece_in few other (cell_at new (other / 2)) ≡ None = rw (same, gone.vacant) refl in
                piece_vacant all other at (cell_at old (other / 2)) cell (rw same is_cell) link
                (front ∙ ap (λ (n : ℕ). Some n) (sym is)) ∙ sym none
            | inr differ ↦ elim (cases_eq (other / 2) (last / 2)) [
              | inl same ↦
                  piece_split all other (length halves) (cell_at old (other / 2)) moved (Some last)
                  (rw same is_old) link_last end
                  ∙ sym (piece_split few other at (cell_at new (other / 2)) changed (Some last)
                  (rw same is_new) refl (get_set_same halves at last less))
              | inr away ↦
                  rw (same_new (other / 2) away differ) (piece_same few all other (cell_at old (other / 2))
                  (λ place. test_last halves last other place (λ e. away (ap (λ (n : ℕ). n / 2) e))
                  ∙ sym (test_set halves at last other place other_half there
                  (λ e. differ (ap (λ (n : ℕ). n / 2) e ∙ half)) (λ e. away (ap (λ (n : ℕ). n / 2) e)))))
            ]
          ]);
      linked = λ place n found. elim (cases_eq place at) [
        | inl same ↦
            let is : Some last ≡ Some n = sym (get_set_same halves at last less) ∙ rw same at found in
            rw (same, ← same_Some last n is, is_new) refl
        | inr differ ↦
            let was : slice_get halves place ≡ Some n = sym (get_set_other halves at last place differ) ∙ found in
            let that = linked place n (get_front halves (last ∷ []) place n was) in
            let before = get_inside halves place n was in
            rw (same_new (n / 2)
            (λ same. absurd (omega (arith, before, link_last, rw (same, is_old) at that)))
            (λ same. differ (omega (arith, link, rw (same, is_cell) at that)))) that
      ];
    }

-- what holds for each cell that there may be holds
pub with_cell : (slot : Option Cell) (P : Type 0) → IsSome slot → ((cell : Cell) → slot ≡ Some cell → P) → P
with_cell None P some f = absurd (true≢false (sym some))
with_cell (Some cell) P some f = f cell refl

-- a cell that is linked is one
pub linked_some : (slot : Option Cell) (at : ℕ) → next_in slot ≡ SPLIT + at → IsSome slot
linked_some None at link = absurd (omega (arith, link))
linked_some (Some cell) at link = refl

-- a cell in use stays one where one is changed
pub some_set : (slots : Slots) (place n : ℕ) (cell : Cell) → IsSome (cell_at slots n)
    → IsSome (cell_at (set slots place (Some cell)) n)
some_set slots place n cell some =
    with_cell (cell_at slots n) (IsSome (cell_at (set slots place (Some cell)) n)) some (λ was is.
    elim (cases_eq n place) [
      | inl same ↦
          let there = get_or-set_same slots n (Some cell) None (within slots n was is) in
          rw (← same, there) refl
      | inr apart ↦
          let there = get_or-set_other slots place n (Some cell) None apart in
          rw (there, is) refl
    ])

-- a half in use is not among the vacant ones
pub used_test : (halves : List ℕ) (n at : ℕ) (slot : Option Cell) → next_in slot ≡ SPLIT + at
    → IsSome (piece_in halves n slot) → is_number n (slice_get halves at) ≡ false
used_test halves n at None link some = absurd (omega (arith, link))
used_test halves n at (Some cell) link some =
    by (is_number n (slice_get halves at))
    (rw (piece_split halves n at (Some cell) cell (slice_get halves at) refl link refl) at some)
  where
    by : (test : Bool) → IsSome (cond test None (Some (cell_of 0 (half_of n cell.bytes)))) → test ≡ false
    by true some = absurd (true≢false (sym some))
    by false some = refl

-- a piece is in a cell that is in use
pub piece_some : (halves : List ℕ) (slots : Slots) (n : ℕ) → IsSome (cell_at (pieces_in halves slots) n)
    → IsSome (cell_at slots (n / 2))
piece_some halves slots n some = by (cell_at slots (n / 2)) (rw (piece_at halves slots n) at some)
  where
    by : (slot : Option Cell) → IsSome (piece_in halves n slot) → IsSome slot
    by None some = some
    by (Some cell) some = refl

-- a whole cell has the number of its first half
pub whole_even : (halves : List ℕ) (n : ℕ) (slot : Option Cell) (cell : Cell) → slot ≡ Some cell → cell.next < SPLIT
    → IsSome (piece_in halves n slot) → n % 2 ≡ 0
whole_even halves n slot cell is whole some =
    elim (cases_eq (n % 2) 0) [
      | inl even ↦ even
      | inr odd ↦ absurd (true≢false (sym (rw (is, lt-ltb cell.next SPLIT whole, ne_eqb (n % 2) 0 odd) at some)))
    ]

-- a whole cell is its piece
pub piece_whole : (halves : List ℕ) (n : ℕ) (slot : Option Cell) (cell : Cell) → slot ≡ Some cell → cell.next < SPLIT
    → n % 2 ≡ 0 → piece_in halves n slot ≡ Some cell
piece_whole halves n slot cell is whole even = rw (is, lt-ltb cell.next SPLIT whole, even) refl

-- what is left once a half is made vacant beside one in use, and that the vacant ones are few
pub record IsVacatedHalf (halves : List ℕ) (number : ℕ) (old : Slots) : Type 0 where
  pub room : length halves + 1 ≤ length old
  pub removed : IsHalfRemoved halves old (halves ++ number ∷ [])
      (set old (number / 2) (Some (cell_of (SPLIT + length halves) (bytes_in (cell_at old (number / 2)))))) number

-- A half is made vacant beside one in use, and there is room for it.
pub vacated_from : (halves : List ℕ) (number at : ℕ) (old : Slots) → AreLinked halves old
    → next_in (cell_at old (number / 2)) ≡ SPLIT + at → is_number number (slice_get halves at) ≡ false
    → is_number (half_beside number) (slice_get halves at) ≡ false → IsVacatedHalf halves number old
vacated_from halves number at old linked link this that =
    let slot = cell_at old (number / 2) in
    with_cell slot (IsVacatedHalf halves number old) (linked_some slot at link) (λ cell is.
    let link_cell : cell.next ≡ SPLIT + at = rw is at link in
    let after = vacated_half halves number at old cell linked is link_cell this that in
    let new = set old (number / 2) (Some (cell_of (SPLIT + length halves) cell.bytes)) in
    let few = halves_few (halves ++ number ∷ []) new after.linked in
    let more = length-append halves (number ∷ []) in
    record {
      room = omega (arith, few, more, length-set old (number / 2) (Some (cell_of (SPLIT + length halves) cell.bytes)));
      removed = rw is after;
    })

-- the cell of a vacant half is in use
pub the_other_some : (halves : List ℕ) (number at : ℕ) (old : Slots) → AreLinked halves old
    → slice_get halves at ≡ Some (half_beside number) → IsSome (cell_at old (number / 2))
the_other_some halves number at old linked there =
    linked_some (cell_at old (number / 2)) at (rw (beside_half number) at (linked at (half_beside number) there))

-- the cells and halves once the other half was the last
pub joined_end : (front : List ℕ) (last number at : ℕ) (old new : Slots) (cell : Cell)
    → AreLinked (front ++ last ∷ []) old → slice_get (front ++ last ∷ []) at ≡ Some (half_beside number)
    → at ≡ length front → IsAdded new old (number / 2) cell
    → IsHalfRemoved (front ++ last ∷ []) old front new number
joined_end front last number at old new cell linked there end gone =
    let is : last ≡ half_beside number
    = same_Some last (half_beside number) (sym (get_last front last) ∙ rw end at there) in
    rw is (joined_last front number old new cell (rw is at linked) gone)

-- the cells and halves once the last one is in place of the other
pub joined_from : (front : List ℕ) (last number at : ℕ) (old new : Slots) (cell : Cell)
    → AreLinked (front ++ last ∷ []) old → slice_get (front ++ last ∷ []) at ≡ Some (half_beside number)
    → at ≢ length front
    → IsAdded new (set old (last / 2) (Some (cell_of (SPLIT + at) (bytes_in (cell_at old (last / 2))))))
    (number / 2) cell
    → IsHalfRemoved (front ++ last ∷ []) old (set front at last) new number
joined_from front last number at old new cell linked there apart gone =
    elim (get_either front last at (half_beside number) there) [
      | inl here ↦
          with_cell (cell_at old (last / 2)) (IsHalfRemoved (front ++ last ∷ []) old (set front at last) new number)
          (linked_some (cell_at old (last / 2)) (length front) (linked (length front) last (get_last front last)))
          (λ moved is.
          joined front number at last old new cell moved linked (get_inside front at (half_beside number) here) here is
          (rw is at gone))
      | inr end ↦ absurd (apart end.0)
    ]

-- the piece that a whole cell is
pub found_whole : (halves : List ℕ) (slots : Slots) (n : ℕ) (cell : Cell) → cell_at slots (n / 2) ≡ Some cell
    → cell.next < SPLIT → IsSome (cell_at (pieces_in halves slots) n) → cell_at (pieces_in halves slots) n ≡ Some cell
found_whole halves slots n cell is whole some =
    let at = piece_at halves slots n in
    at ∙ piece_whole halves n (cell_at slots (n / 2)) cell is whole
    (whole_even halves n (cell_at slots (n / 2)) cell is whole (rw at at some))

-- the piece that a half is
pub found_half : (halves : List ℕ) (slots : Slots) (n : ℕ) (cell : Cell) → cell_at slots (n / 2) ≡ Some cell
    → SPLIT ≤ cell.next → IsSome (cell_at (pieces_in halves slots) n)
    → cell_at (pieces_in halves slots) n ≡ Some (cell_of 0 (half_of n cell.bytes))
found_half halves slots n cell is split some =
    let at = piece_at halves slots n in
    let link : cell.next ≡ SPLIT + (cell.next - SPLIT) = omega (arith, split) in
    let link_slot : next_in (cell_at slots (n / 2)) ≡ SPLIT + (cell.next - SPLIT) = rw is link in
    at ∙ piece_used halves n (cell.next - SPLIT) (cell_at slots (n / 2)) cell is link
    (used_test halves n (cell.next - SPLIT) (cell_at slots (n / 2)) link_slot (rw at at some))
