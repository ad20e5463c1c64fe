-- The slots of one thread, and those of all threads.
use Rattle.std.proofs.Common.{◌≡◌, ◌≤◌, ◌+◌, ℕ, List, [], ◌∷◌, ◌++◌, length, map, take, Some, refl, sym, ap, subst, ◌∙◌}
use Rattle.std.proofs.Common.{append_assoc, append-nil}
use Rattle.std.specs.List.{AllByRecursion, flat_map, slice_get}
use Rattle.std.proofs.lemmas.List.{take_all}
use Rattle.mc_sizes.specs.Sizes.{rules_of}
use Rattle.mc_sizes.specs.declared.sizes.Sizes.{Sizes}
use Rattle.mc_model.proofs.Lists.{take_next}
use Rattle.mc_wire.specs.Sink.{Sight}
use Rattle.mc_ring.specs.Route.{Name}
use Rattle.mc_history.specs.declared.knowledge.Role.TheVariants.{Seat}
use Rattle.mc_history.specs.Tokens.{Acting}
use Rattle.mc_record.specs.Clerk.{IsSeatActor}
use Rattle.mc_record.specs.Opening.{ActInOrder}
use Rattle.mc_transport.specs.declared.clerk.Clerk.{Ghosts}
use Rattle.mc_transport.specs.declared.warrant.Warrant.{Ghosts as Warrants}
use Rattle.mc_transport.specs.Place.{Place}
use Rattle.mc_poll.specs.Zips.{Zips}
use Rattle.mc_session.specs.declared.session.Session.{Session}
use Rattle.mc_session.specs.Routes.{AreOnRoutes}
use Rattle.mc_net.specs.Flow.{SourceFlow}
use Rattle.mc_serve.specs.declared.connection_slot.SlotState.{SlotState}
use Rattle.mc_serve.specs.declared.connection_slot.SlotState.TheVariants as slot_state
use Rattle.mc_serve.specs.Seats.{CanStep, IsNewSeat, SeatAt, SeatServes, SeatHolds, seat_at}
use Rattle.mc_serve.specs.Recorded.{IsClerkOf, route_from}
use Rattle.mc_serve.proofs.Steps.{can_step, holds_first}
use Rattle.mc_serve.proofs.Zipped.{met_at, zips_append}
use Rattle.mc_serve.proofs.AtSources.{AreJoined}
use Rattle.mc_command.specs.declared.rules.Rules.{Rules}
use Rattle.mc_session.specs.Session.{seat_clerk, seat_ends}
use Rattle.mc_ring.proofs.Lists.{all_append}

-- The invariant of a slot that is any record, by functions for its source, its session and its state.
abbrev pub Stands : {S L : Type 0} {T : Type 0} {w : Warrants T} {g : Ghosts Acting T} → (L → Place) → (L → Sight)
    → (S → SourceFlow) → (S → Session T Acting w g) → (S → SlotState L) → ℕ → Rules → (ℕ → Type 0) → SeatAt → S
    → Type 0
Stands place sight flow session now shards rules may_answer was one =
    SeatHolds place sight shards rules may_answer was (flow one) (session one) (now one)

abbrev pub at : {S : Type 0} {T : Type 0} {w : Warrants T} {g : Ghosts Acting T} → (S → SourceFlow)
    → (S → Session T Acting w g) → S → SeatAt
at flow session one = seat_at (flow one) (seat_ends (session one)) (seat_clerk (session one))

-- New slots satisfy the invariant.
pub seats_begin : {S L : Type 0} {T : Type 0} {w : Warrants T} {g : Ghosts Acting T} (seats : List S)
    (place : L → Place)
    (sight : L → Sight)
    (flow : S → SourceFlow) (session : S → Session T Acting w g) (now : S → SlotState L) (shards : ℕ) (rules : Rules)
    (may_answer : ℕ → Type 0)
    → AllByRecursion (λ one. IsNewSeat shards rules (flow one) (session one) (now one)) seats
    → Zips (Stands place sight flow session now shards rules may_answer) (map (at flow session) seats) seats
seats_begin [] place sight flow session now shards rules may_answer all = tt
seats_begin {S} {L} (one ∷ seats) place sight flow session now shards rules may_answer all =
    let down = all.0 in
    let P : SlotState L → Type 0 =
    λ p. SeatHolds place sight shards rules may_answer (at flow session one) (flow one) (session one) p in (
      subst P (sym down.none)
          (holds_first shards rules may_answer (flow one)
          (session one) down.window down.free down.width down.vacant down.ruled),
      seats_begin seats place sight flow session now shards rules may_answer all.1,
    )

-- Slots whose channels are all closed have served their sources.
pub seats_over : {S L : Type 0} {T : Type 0} {w : Warrants T} {g : Ghosts Acting T} (seats : List S)
    (were : List SeatAt)
    (place : L → Place) (sight : L → Sight) (flow : S → SourceFlow) (session : S → Session T Acting w g)
    (now : S → SlotState L) (shards : ℕ)
    (rules : Rules) (may_answer : ℕ → Type 0)
    → AllByRecursion (λ one. now one ≡ slot_state.Over) seats
    → Zips (Stands place sight flow session now shards rules may_answer) were seats
    → Zips (SeatServes shards rules may_answer) were (map (at flow session) seats)
seats_over [] [] place sight flow session now shards rules may_answer all zips = tt
seats_over (one ∷ seats) [] place sight flow session now shards rules may_answer all zips = absurd zips
seats_over [] (was ∷ were) place sight flow session now shards rules may_answer all zips = absurd zips
seats_over {S} {L} (one ∷ seats) (was ∷ were) place sight flow session now shards rules may_answer all zips =
    let P : SlotState L → Type 0 = λ p. SeatHolds place sight shards rules may_answer was (flow one) (session one) p in
    (subst P all.0 zips.0, seats_over seats were place sight flow session now shards rules may_answer all.1 zips.1)

-- The slot at an index may be stepped, also after it has changed, if the invariant was kept.
pub seat_steps : {S L : Type 0} {T : Type 0} {w : Warrants T} {g : Ghosts Acting T} (seats : List S)
    (were : List SeatAt)
    (number : ℕ)
    (one next : S) (place : L → Place) (sight : L → Sight) (flow : S → SourceFlow) (session : S → Session T Acting w g)
    (now : S → SlotState L)
    (shards : ℕ) (rules : Rules) (may_answer : ℕ → Type 0)
    → slice_get seats number ≡ Some one
    → ((was : SeatAt) → Stands place sight flow session now shards rules may_answer was one
    → Stands place sight flow session now shards rules may_answer was next)
    → Zips (Stands place sight flow session now shards rules may_answer) were seats
    → CanStep place sight may_answer (now next) (session next)
seat_steps seats were number one next place sight flow session now shards rules may_answer here became zips =
    let met = met_at (Stands place sight flow session now shards rules may_answer) were seats number one zips here in
    can_step shards rules may_answer place sight met.one (flow next) (session next) (now next) (became met.one met.met)

-- What is true of the first elements and of the next one is true of one element more.
pub all_next : {A : Type 0} (xs : List A) (P : A → Type 0) (place : ℕ) (x : A) → slice_get xs place ≡ Some x → P x
    → AllByRecursion P (take place xs) → AllByRecursion P (take (place + 1) xs)
all_next {A} xs P place x here this all =
    let Q : List A → Type 0 = λ ys. AllByRecursion P ys in
    subst Q (sym (take_next place xs x here)) (all_append P (take place xs) (x ∷ []) all (this, tt))

-- What is true of at least as many elements as there are is true of all.
pub all_taken : {A : Type 0} (xs : List A) (P : A → Type 0) (count : ℕ) → length xs ≤ count
    → AllByRecursion P (take count xs) → AllByRecursion P xs
all_taken {A} xs P count whole all = let Q : List A → Type 0 =
    λ ys. AllByRecursion P ys in subst Q (take_all count xs whole) all

all_split : {A : Type 0} (first rest : List A) (P : A → Type 0) → AllByRecursion P (first ++ rest)
    → AllByRecursion P first × AllByRecursion P rest
all_split [] rest P all = (tt, all)
all_split (x ∷ first) rest P all = let others = all_split first rest P all.1 in ((all.0, others.0), others.1)

-- Lists in lists: the slots, or the workers, of all reactors.
flat_one : {P A : Type 0} (parts : List P) (own : P → List A) (part : P) → flat_map own (parts ++ part ∷ [])
    ≡ flat_map own parts ++ own part
flat_one [] own part = append-nil (own part)
flat_one (first ∷ parts) own part =
    ap (λ xs. own first ++ xs) (flat_one parts own part)
    ∙ sym (append_assoc (own first) (flat_map own parts) (own part))

-- One more reactor took the first of those that were left.
pub flat_more : {P A : Type 0} (parts parts' : List P) (own : P → List A) (part : P) (taken rest left all : List A)
    → parts' ≡ parts ++ part ∷ [] → own part ≡ taken → taken ++ rest ≡ left → flat_map own parts ++ left ≡ all
    → flat_map own parts' ++ rest ≡ all
flat_more parts parts' own part taken rest left all grown mine took was =
    ap (λ ps. flat_map own ps ++ rest) grown
    ∙ (ap (λ xs. xs ++ rest) (flat_one parts own part)
    ∙ (append_assoc (flat_map own parts) (own part) rest
    ∙ (ap (λ xs. flat_map own parts ++ (xs ++ rest)) mine
    ∙ (ap (λ xs. flat_map own parts ++ xs) took ∙ was))))

-- One more reactor was taken apart.
pub flat_next : {P A : Type 0} (done done' mine : List A) (own : P → List A) (part : P) (left left' : List P)
    (all : List A) → done' ≡ done ++ mine → mine ≡ own part → left ≡ part ∷ left' → done ++ flat_map own left ≡ all
    → done' ++ flat_map own left' ≡ all
flat_next done done' mine own part left left' all grown is step was =
    ap (λ xs. xs ++ flat_map own left') grown
    ∙ (append_assoc done mine (flat_map own left')
    ∙ (ap (λ xs. done ++ (xs ++ flat_map own left')) is
    ∙ (ap (λ ps. done ++ flat_map own ps) (sym step) ∙ was)))

-- What is true of all elements of a list under some sizes is true under equal sizes, for an equal list.
pub all_renamed : {A Z : Type 0} (xs ys : List A) (sizes sizes' : Z) (Q : Z → A → Type 0) → sizes' ≡ sizes → ys ≡ xs
    → AllByRecursion (Q sizes) xs → AllByRecursion (Q sizes') ys
all_renamed {A} {Z} xs ys sizes sizes' Q same same' all =
    let P : Z → List A → Type 0 = λ z zs. AllByRecursion (Q z) zs in
    subst (λ z. P z ys) (sym same) (subst (P sizes) (sym same') all)

-- All reactors were taken apart.
pub flat_last : {P A : Type 0} (done : List A) (own : P → List A) (left : List P) (all : List A) → left ≡ [] → done
    ++ flat_map own left ≡ all → done ≡ all
flat_last done own left all none was = sym (append-nil done) ∙ (ap (λ ps. done ++ flat_map own ps) (sym none) ∙ was)

-- What is true of all elements is true of the first ones and of the rest.
pub all_parted : {A : Type 0} (first rest all : List A) (P : A → Type 0) → first ++ rest ≡ all → AllByRecursion P all
    → AllByRecursion P first × AllByRecursion P rest
all_parted {A} first rest all P are holds = let Q : List A → Type 0 =
    λ xs. AllByRecursion P xs in all_split first rest P (subst Q (sym are) holds)

map_append : {A B : Type 0} (f : A → B) (xs ys : List A) → map f (xs ++ ys) ≡ map f xs ++ map f ys
map_append f [] ys = refl
map_append f (x ∷ xs) ys = ap (λ zs. f x ∷ zs) (map_append f xs ys)

-- If the slots of each reactor are related pair by pair, so are those of all.
pub zips_flat : {P A B : Type 0} (parts parts' : List P) (own : P → List A) (f : A → B) (R : B → B → Type 0)
    → Zips (λ part part'. Zips R (map f (own part)) (map f (own part'))) parts parts'
    → Zips R (map f (flat_map own parts)) (map f (flat_map own parts'))
zips_flat [] [] own f R zips = tt
zips_flat [] (part' ∷ parts') own f R zips = absurd zips
zips_flat (part ∷ parts) [] own f R zips = absurd zips
zips_flat {P} {A} {B} (part ∷ parts) (part' ∷ parts') own f R zips =
    let Z : List B → List B → Type 0 = λ xs ys. Zips R xs ys in
    subst (λ ys. Z (map f (flat_map own (part ∷ parts))) ys) (sym (map_append f (own part') (flat_map own parts')))
    (subst (λ xs. Z xs (map f (own part') ++ map f (flat_map own parts')))
    (sym (map_append f (own part) (flat_map own parts)))
    (zips_append R (map f (own part)) (map f (own part')) (map f (flat_map own parts)) (map f (flat_map own parts'))
    zips.0 (zips_flat parts parts' own f R zips.1)))

-- The facts about all slots, after the reactors of all threads are joined.
pub parts_joined : {P S D : Type 0} (thread_group parts : List P) (sources : List D) (own : P → List S)
    (at : S → SeatAt) (source_of : S → D) (flow : D → SourceFlow) (sizes : Sizes) (name : Name)
    (may_answer : ℕ → Type 0)
    → ((seat : S) → flow (source_of seat) ≡ (at seat).source)
    → map source_of (flat_map own thread_group) ≡ sources
    → ActInOrder Seat name sizes.seats (map (λ seat. (at seat).clerk) (flat_map own thread_group))
    → AllByRecursion (λ seat. IsClerkOf sizes (at seat).ends (at seat).clerk) (flat_map own thread_group)
    → Zips (λ part part'. Zips (SeatServes sizes.shards (rules_of sizes) may_answer) (map at (own part))
    (map at (own part'))) thread_group parts
    → AllByRecursion (λ seat. IsSeatActor (at seat).clerk) (flat_map own parts)
    → AllByRecursion (λ seat. AreOnRoutes (route_from (at seat).clerk) (at seat).ends) (flat_map own parts)
    → AreJoined sizes name may_answer (flat_map own thread_group) (flat_map own parts) sources at source_of flow
parts_joined thread_group parts sources own at source_of flow sizes name may_answer seen sources_are clerks fit done
    actors routes =
    record {
      seen = seen;
      sources_are = sources_are;
      clerks = clerks;
      fit = fit;
      served = zips_flat thread_group parts own at (SeatServes sizes.shards (rules_of sizes) may_answer) done;
      actors = actors;
      routes = routes;
    }
