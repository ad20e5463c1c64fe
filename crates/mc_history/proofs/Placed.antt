-- Each command of a lawful history was taken on its connection's seat.
use Rattle.std.proofs.Common.{◌≡◌, ℕ, ◌≤◌, ◌==◌, true, false, cond, List, [], ◌∷◌, ◌++◌, length, Some, refl, sym, ap}
use Rattle.std.proofs.Common.{◌∙◌, arith, subst, eq-eqb, ne_eqb}
use Rattle.std.specs.List.{AllByRecursion, slice_get}
use Rattle.std.proofs.lemmas.Option.{same_Some, slice_get_within}
use Rattle.mc_ring.proofs.Lists.{all_append, all_weaken}
use Rattle.mc_sizes.specs.declared.sizes.Sizes.{Sizes}
use Rattle.mc_conn.specs.History.{Taken}
use Rattle.mc_conn.proofs.Gets.{get_front}
use Rattle.mc_history.specs.declared.event.Event.{Event}
use Rattle.mc_history.specs.declared.event.Event.TheVariants.{Opened, Took, Ran}
use Rattle.mc_history.specs.declared.knowledge.Role.TheVariants.{Seat}
use Rattle.mc_history.specs.Worlds.{seats_in, seats_of, taken_in}
use Rattle.mc_history.specs.Lawful.{IsHistory, MayFollow}
use Rattle.mc_history.specs.Roles.{own_part}
use Rattle.mc_history.proofs.Lists.{picked_push}
use Rattle.mc_history.proofs.Follows.{holds_of_all}

-- The command was taken on the seat that its connection has among these.
abbrev pub IsPlaced : List ℕ → Event → Type 0
IsPlaced seats (Opened seat) = Unit {0}
IsPlaced seats (Took seat connection command moment server given_up) = slice_get seats connection ≡ Some seat
IsPlaced seats (Ran shard asker piece answer) = Unit {0}

placed_more : (seats more : List ℕ) (event : Event) → IsPlaced seats event → IsPlaced (seats ++ more) event
placed_more seats more (Opened seat) placed = tt
placed_more seats more (Took seat connection command moment server given_up) placed =
    get_front seats more connection seat placed
placed_more seats more (Ran shard asker piece answer) placed = tt

placed_next : (sizes : Sizes) (past : List Event) (event : Event) → MayFollow sizes past event
    → IsPlaced (seats_in past) event
placed_next sizes past (Opened seat) may = tt
placed_next sizes past (Took seat connection command moment server given_up) may = may.0.here
placed_next sizes past (Ran shard asker piece answer) may = tt

abbrev AllPlaced : List Event → Type 0
AllPlaced history = AllByRecursion (IsPlaced (seats_in history)) history

placed_push : (sizes : Sizes) (past : List Event) (event : Event) → AllPlaced past → MayFollow sizes past event
    → AllPlaced (past ++ event ∷ [])
placed_push sizes past event was may =
    let seats = seats_in past in
    let more = seats_of event in
    subst (λ all. AllByRecursion (IsPlaced all) (past ++ event ∷ [])) (sym (picked_push seats_of past event))
    (all_append (IsPlaced (seats ++ more)) past (event ∷ [])
    (all_weaken (IsPlaced seats) (IsPlaced (seats ++ more)) (placed_more seats more) past was)
    (placed_more seats more event (placed_next sizes past event may), tt))

pub all_placed : (sizes : Sizes) (history : List Event) → IsHistory sizes history → AllPlaced history
all_placed sizes history lawful = holds_of_all sizes AllPlaced (placed_push sizes) [] history tt lawful

-- A connection that wasn't opened took nothing.
none_taken : (seats : List ℕ) (k : ℕ) → length seats ≤ k → (history : List Event)
    → AllByRecursion (IsPlaced seats) history → taken_in k history ≡ []
none_taken seats k beyond [] placed = refl
none_taken seats k beyond (Opened seat ∷ history) placed = none_taken seats k beyond history placed.1
none_taken seats k beyond (Ran shard asker piece answer ∷ history) placed = none_taken seats k beyond history placed.1
none_taken seats k beyond (Took seat connection command moment server given_up ∷ history) placed =
    let one : Taken = record { entry = command; moment = moment; server = server; given_up = given_up } in
    let within = slice_get_within seats connection seat placed.0 in
    let other : (connection == k) ≡ false =
    ne_eqb connection k (λ same. absurd (omega (arith, same, within, beyond))) in
    ap (λ b. cond b (one ∷ []) [] ++ taken_in k history) other ∙ none_taken seats k beyond history placed.1

-- so in a lawful history
pub unopened_took : (sizes : Sizes) (history : List Event) → IsHistory sizes history → (k : ℕ)
    → length (seats_in history) ≤ k → taken_in k history ≡ []
unopened_took sizes history lawful k beyond =
    none_taken (seats_in history) k beyond history (all_placed sizes history lawful)

-- What a connection took is in its seat's part.
taken_part : (seats : List ℕ) (c k : ℕ) → slice_get seats k ≡ Some c → (history : List Event)
    → AllByRecursion (IsPlaced seats) history → taken_in k (own_part (Seat c) history) ≡ taken_in k history
taken_part seats c k on [] placed = refl
taken_part seats c k on (Opened seat ∷ history) placed =
    let rest = taken_part seats c k on history placed.1 in
    let part = own_part (Seat c) history in
    elim (seat == c) as (λ b. taken_in k (cond b (Opened seat ∷ part) part) ≡ taken_in k history) [
      | true ↦ rest
      | false ↦ rest
    ]
taken_part seats c k on (Ran shard asker piece answer ∷ history) placed = taken_part seats c k on history placed.1
taken_part seats c k on (Took seat connection command moment server given_up ∷ history) placed =
    let rest = taken_part seats c k on history placed.1 in
    let event = Took seat connection command moment server given_up in
    let one : Taken = record { entry = command; moment = moment; server = server; given_up = given_up } in
    let part = own_part (Seat c) history in
    elim (seat == c) as (λ b. (seat == c) ≡ b → taken_in k (cond b (event ∷ part) part)
    ≡ cond (connection == k) (one ∷ []) [] ++ taken_in k history) [
      | true ↦ λ is. ap (λ ts. cond (connection == k) (one ∷ []) [] ++ ts) rest
      | false ↦ λ is.
          let other : (connection == k) ≡ false = ne_eqb connection k (λ same.
          let here : slice_get seats k ≡ Some seat = subst (λ j. slice_get seats j ≡ Some seat) same placed.0 in
          let at : seat ≡ c = same_Some seat c (sym here ∙ on) in
          absurd (cc (is, eq-eqb seat c at))) in
          rest ∙ sym (ap (λ b. cond b (one ∷ []) [] ++ taken_in k history) other)
    ] refl

-- so in a lawful history
pub taken_is : (sizes : Sizes) (c k : ℕ) (history : List Event) → IsHistory sizes history
    → slice_get (seats_in history) k ≡ Some c → taken_in k (own_part (Seat c) history) ≡ taken_in k history
taken_is sizes c k history lawful on = taken_part (seats_in history) c k on history (all_placed sizes history lawful)
