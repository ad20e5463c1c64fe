-- The replies of a history are in the order of their pieces.
use Rattle.std.proofs.Common.{◌≡◌, ℕ, ◌==◌, true, false, cond, inl, inr, List, [], ◌∷◌, ◌++◌, length, Some, refl, sym}
use Rattle.std.proofs.Common.{ap, subst, ◌∙◌, append-nil}
use Rattle.std.specs.List.{slice_get}
use Rattle.std.proofs.lemmas.Bool.Decides.{eqb_tells}
use Rattle.std.proofs.lemmas.List.{length-map, map-append}
use Rattle.mc_sizes.specs.declared.sizes.Sizes.{Sizes}
use Rattle.mc_ring.specs.Reply.{Shown}
use Rattle.mc_conn.specs.Due.{due}
use Rattle.mc_conn.specs.Fits.{Fits, ReceivesFromShard}
use Rattle.mc_conn.specs.History.{Taken}
use Rattle.mc_conn.proofs.Fitting.{fits_none, fits_take, next_fits}
use Rattle.mc_model.specs.Events.{RunsNext}
use Rattle.mc_model.specs.Log.{Entry, of_asker, on_shard, replies_in, reply_to}
use Rattle.mc_model.proofs.Logs.{of_asker-no, of_asker-yes, on_shard-no, on_shard-yes}
use Rattle.mc_history.specs.declared.event.Event.{Event}
use Rattle.mc_history.specs.declared.event.Event.TheVariants.{Opened, Took, Ran}
use Rattle.mc_history.specs.Worlds.{entries_of, link_in, ran_in, taken_in, taken_of, world_in}
use Rattle.mc_history.specs.Lawful.{IsHistory, MayFollow}
use Rattle.mc_history.proofs.Follows.{holds_of_all}
use Rattle.mc_history.proofs.Lists.{picked_push}

-- of these entries the replies of each shard
abbrev pub by_shard : List Entry → ℕ → List Shown
by_shard log s = replies_in (on_shard s log)

-- The replies of these entries to a connection that took this.
abbrev pub LogFits : ℕ → ℕ → List Taken → List Entry → Type 0
LogFits shards k taken log = Fits shards taken (replies_in (of_asker k log)) (by_shard (of_asker k log))

-- a shard runs the connection's next piece
entry_fits : (sizes : Sizes) (past : List Event) (k : ℕ) (entry : Entry)
    → LogFits sizes.shards k (taken_in k past) (ran_in past)
    → RunsNext sizes (world_in past) entry.shard entry.asker (link_in entry.asker past) entry
    → LogFits sizes.shards k (taken_in k past) (ran_in past ++ entry ∷ [])
entry_fits sizes past k entry was runs =
    let log = ran_in past in
    let taken = taken_in k past in
    elim (eqb_tells entry.asker k) [
      | inr other ↦ subst (λ es. Fits sizes.shards taken (replies_in es) (by_shard es))
          (sym (of_asker-no k log entry other.1)) was
      | inl mine ↦
          let own = of_asker k log in
          let s = entry.shard in
          let receives : ReceivesFromShard (by_shard own) s (reply_to entry) (by_shard (own ++ entry ∷ [])) = record {
            here = ap replies_in (on_shard-yes s own entry refl) ∙ map-append reply_to (on_shard s own) (entry ∷ []);
            others = λ t other. ap replies_in (on_shard-no t own entry (λ same. other (sym same)));
          } in
          let next : slice_get (due sizes.shards s taken) (length (by_shard own s)) ≡ Some entry.piece =
          ap (λ n. slice_get (due sizes.shards s taken) n) (length-map (on_shard s own) reply_to)
          ∙ subst (λ j. slice_get (due sizes.shards s (taken_in j past)) (length (on_shard s (of_asker j log)))
          ≡ Some entry.piece) mine.1 runs.next in
          let fits = next_fits sizes.shards s taken (replies_in own) (by_shard own) (by_shard (own ++ entry ∷ []))
          entry.piece (reply_to entry) was next (record { ticket = refl; part = refl; kind = refl }) receives in
          subst (λ es. Fits sizes.shards taken (replies_in es) (by_shard es)) (sym (of_asker-yes k log entry mine.1))
          (subst (λ rs. Fits sizes.shards taken rs (by_shard (own ++ entry ∷ [])))
          (sym (map-append reply_to own (entry ∷ []))) fits)
    ]

-- with a command more, or an entry more
event_fits : (sizes : Sizes) (past : List Event) (event : Event) (k : ℕ)
    → LogFits sizes.shards k (taken_in k past) (ran_in past) → MayFollow sizes past event
    → LogFits sizes.shards k (taken_in k past ++ taken_of k event) (ran_in past ++ entries_of event)
event_fits sizes past (Opened seat) k was may =
    subst (λ log. LogFits sizes.shards k (taken_in k past ++ []) log) (sym (append-nil (ran_in past)))
    (subst (λ ts. LogFits sizes.shards k ts (ran_in past)) (sym (append-nil (taken_in k past))) was)
event_fits sizes past (Took seat connection command moment server given_up) k was may =
    let one : Taken = record { entry = command; moment = moment; server = server; given_up = given_up } in
    subst (λ log. LogFits sizes.shards k (taken_in k past ++ cond (connection == k) (one ∷ []) []) log)
    (sym (append-nil (ran_in past)))
    (elim (connection == k) as (λ b. LogFits sizes.shards k (taken_in k past ++ cond b (one ∷ []) []) (ran_in past)) [
      | true ↦ fits_take sizes.shards (taken_in k past) one (replies_in (of_asker k (ran_in past)))
          (by_shard (of_asker k (ran_in past))) was
      | false ↦ subst (λ ts. LogFits sizes.shards k ts (ran_in past)) (sym (append-nil (taken_in k past))) was
    ])
event_fits sizes past (Ran shard asker piece answer) k was may =
    let entry : Entry = record { shard = shard; asker = asker; piece = piece; answer = answer } in
    subst (λ ts. LogFits sizes.shards k ts (ran_in past ++ entry ∷ [])) (sym (append-nil (taken_in k past)))
    (entry_fits sizes past k entry was may.2)

push_fits : (sizes : Sizes) (k : ℕ) (past : List Event) (event : Event)
    → LogFits sizes.shards k (taken_in k past) (ran_in past) → MayFollow sizes past event
    → LogFits sizes.shards k (taken_in k (past ++ event ∷ [])) (ran_in (past ++ event ∷ []))
push_fits sizes k past event was may =
    subst (λ log. LogFits sizes.shards k (taken_in k (past ++ event ∷ [])) log)
    (sym (picked_push entries_of past event))
    (subst (λ ts. LogFits sizes.shards k ts (ran_in past ++ entries_of event))
    (sym (picked_push (taken_of k) past event))
    (event_fits sizes past event k was may))

-- In a lawful history each reply has the place of its piece.
pub history_fits : (sizes : Sizes) (k : ℕ) (history : List Event) → IsHistory sizes history
    → LogFits sizes.shards k (taken_in k history) (ran_in history)
history_fits sizes k history lawful =
    holds_of_all sizes (λ past. LogFits sizes.shards k (taken_in k past) (ran_in past)) (push_fits sizes k) [] history
    (fits_none sizes.shards) lawful
