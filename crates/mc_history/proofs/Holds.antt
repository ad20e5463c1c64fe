-- What holds after each lawful history.
use Rattle.std.proofs.Common.{◌≡◌, ℕ, ◌+◌, ◌<◌, ◌==◌, true, false, cond, inl, inr, List, [], ◌∷◌, ◌++◌, length, map}
use Rattle.std.proofs.Common.{Some, refl, sym, ap, subst, ◌∙◌, arith, append-nil}
use Rattle.std.specs.List.{AllByRecursion, slice_get}
use Rattle.std.proofs.lemmas.Bool.Decides.{eqb_tells}
use Rattle.std.proofs.lemmas.List.{length-map, map-append}
use Rattle.std.proofs.lemmas.Option.{slice_get_within}
use Rattle.mc_ring.proofs.Lists.{all_append, all_weaken}
use Rattle.mc_sizes.specs.declared.sizes.Sizes.{Sizes}
use Rattle.mc_split.specs.declared.plan.Piece.{Piece}
use Rattle.mc_conn.specs.History.{MayBeTaken, Taken}
use Rattle.mc_conn.specs.Due.{due, channel, pieces_from}
use Rattle.mc_conn.proofs.Fitting.{due-append}
use Rattle.mc_model.specs.Log.{Entry, IsLawful, Run, of_asker, on_shard, pieces_in}
use Rattle.mc_model.specs.Sized.{empty_shard}
use Rattle.mc_model.specs.Events.{RunsNext}
use Rattle.mc_model.proofs.Logs.{Run-push, of_asker-no, of_asker-yes, on_shard-no, on_shard-yes}
use Rattle.mc_history.specs.declared.event.Event.{Event}
use Rattle.mc_history.specs.declared.event.Event.TheVariants.{Opened, Took, Ran}
use Rattle.mc_history.specs.Worlds.{asked, entries_of, link_in, ran_in, ran_on, seats_in, seats_of, taken_in, taken_of}
use Rattle.mc_history.specs.Worlds.{work_on, world_in}
use Rattle.mc_history.specs.Lawful.{Holds, IsHistory, MayFollow}
use Rattle.mc_history.proofs.Lists.{Begins, begins_longer, begins_next, picked_push}
use Rattle.mc_history.proofs.Follows.{holds_of_all, seats_push}
use Rattle.mc_history.proofs.Placed.{unopened_took}
use Rattle.mc_history.proofs.Channels.{IsOwned, channels_push}

-- what a shard ran for a connection, of this log
abbrev ran_for : ℕ → ℕ → List Entry → List Piece
ran_for k s log = pieces_in (on_shard s (of_asker k log))

-- What a shard ran, for each connection and with one entry more, is the first of what is due.
ran_push : (sizes : Sizes) (past : List Event) (entry : Entry)
    → ((k s : ℕ) → Begins (ran_for k s (ran_in past)) (due sizes.shards s (taken_in k past)))
    → RunsNext sizes (world_in past) entry.shard entry.asker (link_in entry.asker past) entry
    → (k s : ℕ) → Begins (ran_for k s (ran_in past ++ entry ∷ [])) (due sizes.shards s (taken_in k past))
ran_push sizes past entry was runs k s =
    let log = ran_in past in
    elim (eqb_tells entry.asker k) [
      | inr other ↦ subst (λ es. Begins (pieces_in (on_shard s es)) (due sizes.shards s (taken_in k past)))
          (sym (of_asker-no k log entry other.1)) (was k s)
      | inl mine ↦ elim (eqb_tells entry.shard s) [
        | inr there ↦ subst (λ es. Begins (pieces_in es) (due sizes.shards s (taken_in k past)))
            (sym (ap (on_shard s) (of_asker-yes k log entry mine.1) ∙ on_shard-no s (of_asker k log) entry there.1))
            (was k s)
        | inl here ↦
            let own = on_shard s (of_asker k log) in
            let next : slice_get (due sizes.shards s (taken_in k past)) (length own) ≡ Some entry.piece =
            subst (λ t. slice_get (due sizes.shards t (taken_in k past)) (length (on_shard t (of_asker k log)))
            ≡ Some entry.piece) here.1
            (subst (λ j. slice_get (due sizes.shards entry.shard (taken_in j past))
            (length (on_shard entry.shard (of_asker j log))) ≡ Some entry.piece) mine.1 runs.next) in
            let at : slice_get (due sizes.shards s (taken_in k past)) (length (pieces_in own)) ≡ Some entry.piece =
            ap (λ n. slice_get (due sizes.shards s (taken_in k past)) n) (length-map own (λ (e : Entry). e.piece))
            ∙ next in
            subst (λ ps. Begins ps (due sizes.shards s (taken_in k past)))
            (sym (ap (λ es. pieces_in (on_shard s es)) (of_asker-yes k log entry mine.1)
            ∙ (ap pieces_in (on_shard-yes s (of_asker k log) entry here.1)
            ∙ map-append (λ (e : Entry). e.piece) own (entry ∷ []))))
            (begins_next (pieces_in own) (due sizes.shards s (taken_in k past)) entry.piece (was k s) at)
      ]
    ]

-- What a shard may do next leaves each shard's entries one run.
steps_push : (sizes : Sizes) (past : List Event) (entry : Entry) → IsLawful sizes (ran_in past)
    → RunsNext sizes (world_in past) entry.shard entry.asker (link_in entry.asker past) entry
    → IsLawful sizes (ran_in past ++ entry ∷ [])
steps_push sizes past entry was runs s below = elim (eqb_tells entry.shard s) [
  | inr other ↦ let old = was s below in (old.0, rw (on_shard-no s (ran_in past) entry other.1) old.1)
  | inl same ↦ subst (λ t. (last : _) × Run (empty_shard sizes t) (on_shard t (ran_in past ++ entry ∷ [])) last)
      same.1 (
        runs.after,
        rw (on_shard-yes entry.shard (ran_in past) entry refl)
            (Run-push (empty_shard sizes entry.shard) (on_shard entry.shard (ran_in past)) runs.before runs.after entry
            runs.left runs.step),
      )
]

-- What holds after a lawful history, of each shard and connection.
record Kept (sizes : Sizes) (history : List Event) : Type 0 where
  pub may : (k : ℕ) → AllByRecursion MayBeTaken (taken_in k history)
  pub in_order : (k s : ℕ) → Begins (ran_for k s (ran_in history)) (due sizes.shards s (taken_in k history))
  pub owned : AllByRecursion (IsOwned sizes (length (seats_in history))) (ran_in history)
  pub steps : IsLawful sizes (ran_in history)
  pub channels : (c s : ℕ) → Begins (map asked (ran_on c s history)) (work_on sizes.shards c s history)
  pub seated : AllByRecursion (λ seat. seat < sizes.seats) (seats_in history)

-- what the event adds to each of these may be added

may_of : (sizes : Sizes) (past : List Event) (event : Event) → MayFollow sizes past event → (k : ℕ)
    → AllByRecursion MayBeTaken (taken_of k event)
may_of sizes past (Opened seat) may k = tt
may_of sizes past (Ran shard asker piece answer) may k = tt
may_of sizes past (Took seat connection command moment server given_up) may k =
    let one : Taken = record { entry = command; moment = moment; server = server; given_up = given_up } in
    elim (connection == k) as (λ b. AllByRecursion MayBeTaken (cond b (one ∷ []) [])) [
      | true ↦ (may.1, tt)
      | false ↦ tt
    ]

order_of : (sizes : Sizes) (past : List Event) (event : Event) → Kept sizes past → MayFollow sizes past event
    → (k s : ℕ) → Begins (ran_for k s (ran_in past ++ entries_of event)) (due sizes.shards s (taken_in k past))
order_of sizes past (Opened seat) was may k s =
    subst (λ log. Begins (ran_for k s log) (due sizes.shards s (taken_in k past))) (sym (append-nil (ran_in past)))
    (was.in_order k s)
order_of sizes past (Took seat connection command moment server given_up) was may k s =
    subst (λ log. Begins (ran_for k s log) (due sizes.shards s (taken_in k past))) (sym (append-nil (ran_in past)))
    (was.in_order k s)
order_of sizes past (Ran shard asker piece answer) was may k s =
    ran_push sizes past (record { shard = shard; asker = asker; piece = piece; answer = answer }) was.in_order may.2 k s

owned_of : (sizes : Sizes) (past : List Event) (event : Event) → MayFollow sizes past event
    → AllByRecursion (IsOwned sizes (length (seats_in past))) (entries_of event)
owned_of sizes past (Opened seat) may = tt
owned_of sizes past (Took seat connection command moment server given_up) may = tt
owned_of sizes past (Ran shard asker piece answer) may =
    ((may.0, slice_get_within (seats_in past) asker may.1.seat may.1.on_seat), tt)

steps_of : (sizes : Sizes) (past : List Event) (event : Event) → IsLawful sizes (ran_in past)
    → MayFollow sizes past event → IsLawful sizes (ran_in past ++ entries_of event)
steps_of sizes past (Opened seat) was may = subst (λ log. IsLawful sizes log) (sym (append-nil (ran_in past))) was
steps_of sizes past (Took seat connection command moment server given_up) was may =
    subst (λ log. IsLawful sizes log) (sym (append-nil (ran_in past))) was
steps_of sizes past (Ran shard asker piece answer) was may =
    steps_push sizes past (record { shard = shard; asker = asker; piece = piece; answer = answer }) was may.2

seated_of : (sizes : Sizes) (past : List Event) (event : Event) → MayFollow sizes past event
    → AllByRecursion (λ seat. seat < sizes.seats) (seats_of event)
seated_of sizes past (Opened seat) may = (may, tt)
seated_of sizes past (Took seat connection command moment server given_up) may = tt
seated_of sizes past (Ran shard asker piece answer) may = tt

-- the first of what is due stay so where more is due
order_push : (sizes : Sizes) (past : List Event) (event : Event) (k s : ℕ)
    → Begins (ran_for k s (ran_in past ++ entries_of event)) (due sizes.shards s (taken_in k past))
    → Begins (ran_for k s (ran_in (past ++ event ∷ []))) (due sizes.shards s (taken_in k (past ++ event ∷ [])))
order_push sizes past event k s begins =
    let taken = taken_in k past in
    let more = channel s (pieces_from sizes.shards (0 + length taken) (taken_of k event)) in
    let dues : due sizes.shards s (taken_in k (past ++ event ∷ [])) ≡ due sizes.shards s taken ++ more =
    ap (λ ts. due sizes.shards s ts) (picked_push (taken_of k) past event)
    ∙ due-append sizes.shards s taken (taken_of k event) in
    subst (λ log. Begins (ran_for k s log) (due sizes.shards s (taken_in k (past ++ event ∷ []))))
    (sym (picked_push entries_of past event))
    (subst (λ ps. Begins (ran_for k s (ran_in past ++ entries_of event)) ps) (sym dues)
    (begins_longer (ran_for k s (ran_in past ++ entries_of event)) (due sizes.shards s taken) more begins))

kept_push : (sizes : Sizes) (past : List Event) (event : Event) → Kept sizes past → MayFollow sizes past event
    → Kept sizes (past ++ event ∷ [])
kept_push sizes past event was may =
    let history = past ++ event ∷ [] in
    let long = seats_push past event in
    let here = IsOwned sizes (length (seats_in past)) in
    let now = IsOwned sizes (length (seats_in history)) in
    let later : (entry : Entry) → here entry → now entry = λ entry own. let asked = own.1 in
    (own.0, omega (arith, asked, long)) in
    record {
      may =
          λ k. subst (λ ts. AllByRecursion MayBeTaken ts) (sym (picked_push (taken_of k) past event))
          (all_append MayBeTaken (taken_in k past) (taken_of k event) (was.may k) (may_of sizes past event may k));
      in_order = λ k s. order_push sizes past event k s (order_of sizes past event was may k s);
      owned =
          subst (λ es. AllByRecursion now es) (sym (picked_push entries_of past event))
          (all_weaken here now later (ran_in past ++ entries_of event)
          (all_append here (ran_in past) (entries_of event) was.owned (owned_of sizes past event may)));
      steps =
          subst (λ log. IsLawful sizes log) (sym (picked_push entries_of past event))
          (steps_of sizes past event was.steps may);
      channels = λ c s. channels_push sizes past event c s was.owned may (was.channels c s);
      seated =
          subst (λ ss. AllByRecursion (λ seat. seat < sizes.seats) ss) (sym (picked_push seats_of past event))
          (all_append (λ seat. seat < sizes.seats) (seats_in past) (seats_of event) was.seated
          (seated_of sizes past event may));
    }

kept_all : (sizes : Sizes) (history : List Event) → IsHistory sizes history → Kept sizes history
kept_all sizes history lawful = holds_of_all sizes (Kept sizes) (kept_push sizes) [] history
    (record {
      may = λ k. tt;
      in_order = λ k s. ([], refl);
      owned = tt;
      steps = λ s below. (empty_shard sizes s, refl);
      channels = λ c s. ([], refl);
      seated = tt;
    }) lawful

-- What the model promises of its worlds holds of each lawful history.
pub holds : (sizes : Sizes) (history : List Event) → IsHistory sizes history → Holds sizes history
holds sizes history lawful =
    let kept = kept_all sizes history lawful in
    record {
      may = kept.may;
      in_order = λ k s. kept.in_order k s;
      owned = kept.owned;
      steps = kept.steps;
      channels = kept.channels;
      unopened = unopened_took sizes history lawful;
      seated = kept.seated;
    }
