-- A connection that the shards served alone, with no memory wanting, is handed at rest what it would get alone.
use Rattle.std.proofs.Common.{◌≡◌, ◌≢◌, ℕ, ◌+◌, ◌<◌, ◌==◌, inl, inr, true, false, cond, List, [], ◌∷◌, ◌++◌, length}
use Rattle.std.proofs.Common.{map, take, Some, None, refl, sym, ap, ◌∙◌, subst, arith, eq-eqb}
use Rattle.std.specs.Prelude.{MatchBool}
use Rattle.std.specs.List.{AllByRecursion}
use Rattle.std.proofs.lemmas.Bool.{cases_Bool, eqb-true}
use Rattle.std.proofs.lemmas.List.{length-map, take_all}
use Rattle.mc_sizes.specs.declared.sizes.Sizes.{Sizes}
use Rattle.mc_item.specs.declared.op.Op.{Op}
use Rattle.mc_item.specs.declared.answer.Answer.{Answer}
use Rattle.mc_item.specs.declared.answer.Answer.TheVariants.{NoMemory}
use Rattle.mc_ring.specs.Reply.{Shown}
use Rattle.mc_reply.specs.declared.ticket.Ticket.{Ticket}
use Rattle.mc_split.specs.Pieces.{ShardOp, pieces_of}
use Rattle.mc_split.specs.Plan.{no_answers, parts_from}
use Rattle.mc_reply.specs.Text.{text_of}
use Rattle.mc_split.proofs.Shards.{pieces_within}
use Rattle.mc_item.specs.Kind.{key_of}
use Rattle.mc_store.specs.State.{State, settle}
use Rattle.mc_store.specs.Step.{Answers, IsStep, Outcome, noted_in}
use Rattle.mc_join.specs.Replies.{answer_to, answers_of, is_to, slots_after}
use Rattle.mc_conn.specs.History.{AnsweredCommand, IsAnswered, Taken, planned, taken_of, texts_of}
use Rattle.mc_conn.specs.Due.{Ran, due, history_from, history_of, log_from, log_of, ran_by, ran_on}
use Rattle.mc_conn.specs.Due as due
use Rattle.mc_conn.specs.Fits.{reply_of}
use Rattle.mc_conn.proofs.Telling.{ran_on-same}
use Rattle.mc_model.specs.Sized.{empty_shard}
use Rattle.mc_model.specs.Log.{Entry, IsLawful, Run, of_asker, on_shard, pieces_in, replies_in, reply_to}
use Rattle.mc_model.specs.World.{Link, World}
use Rattle.mc_model.specs.Rest.{AtRest, IsAllReceived, IsAllSent, IsAllTaken}
use Rattle.mc_model.specs.Headline.{handed_bytes}
use Rattle.mc_model.specs.Law.{LinkLaw}
use Rattle.mc_model.specs.Alone.{HadMemory, IsAlone, States, alone, alone_from, empty_shards, ended, outcome_at}
use Rattle.mc_model.specs.Alone.{with_state}
use Rattle.mc_model.proofs.Links.{ran_within}
use Rattle.mc_model.proofs.Follows.{come_in_log, flow}

-- A shard may have run these, one after another.
abbrev pub RunOf : State → List Ran → State → Type 0
RunOf old [] new = new ≡ old
RunOf old (entry ∷ log) new =
    (mid : State) × IsStep old entry.piece.op entry.piece.moment entry.answer mid × RunOf mid log new

-- a step that didn't want memory is determined
determined : (old : State) (op : Op) (moment : ℕ) (answer : Answer) (new : State) → answer ≢ NoMemory
    → IsStep old op moment answer new → ◌≡◌ {A = Outcome} (answer, new) (outcome_at old op moment)
unfolding IsStep Answers
determined old op moment answer new some step = elim step.1 [
  | inl none ↦ absurd (some none.0)
  | inr same ↦ ap (λ (s : State). (answer, s)) step.2
      ∙ ap (λ (o : Outcome). (o.0, noted_in (settle old (key_of op) moment) o.1 op o.0)) same
]

-- from these states on, what is logged of each shard is a run
abbrev pub Continues : ℕ → States → List Ran → Type 0
Continues shards states log =
    (shard : ℕ) → shard < shards → (last : State) × RunOf (states shard) (due.on_shard shard log) last

first_run : (old last : State) (entry : Ran) (log : List Ran) → entry.answer ≢ NoMemory → RunOf old (entry ∷ log) last
    → (entry.answer ≡ (outcome_at old entry.piece.op entry.piece.moment).0)
    × RunOf (outcome_at old entry.piece.op entry.piece.moment).1 log last
first_run old last entry log some run =
    let is = determined old entry.piece.op entry.piece.moment entry.answer run.0 some run.1 in (
      ap (λ o. o.0) is,
      let new : run.0 ≡ (outcome_at old entry.piece.op entry.piece.moment).1 = ap (λ o. o.1) is in
          rw (← new) run.2,
    )

-- Each number passes the test of being equal to itself.
pub self_equal : (n : ℕ) → (n == n) ≡ true
self_equal n = eq-eqb n n refl

-- the pieces of one command: they were answered as they would be alone, and later entries continue from there
pieces_alone : (shards : ℕ) (ticket : Ticket) (moment part : ℕ) (states : States) (pieces : List ShardOp)
    (answers : List Answer) (later : List Ran) →
    length answers ≡ length pieces → AllByRecursion (λ asked. asked.shard < shards) pieces
    → AllByRecursion (λ answer. answer ≢ NoMemory) answers →
    Continues shards states (ran_by (parts_from part ticket moment pieces) answers ++ later) →
    (answers ≡ (ended states moment pieces).answers) × Continues shards (ended states moment pieces).states later
pieces_alone shards ticket moment part states [] [] later long below some continues = (refl, continues)
pieces_alone shards ticket moment part states [] (answer ∷ answers) later long below some continues =
    absurd (omega arith)
pieces_alone shards ticket moment part states (asked ∷ pieces) [] later long below some continues = absurd (omega arith)
pieces_alone shards ticket moment part states (asked ∷ pieces) (answer ∷ answers) later long below some continues =
    let entry : Ran = record {
      shard = asked.shard;
      piece = record { ticket = ticket; part = part; op = asked.op; moment = moment };
      answer = answer;
    } in
    let log = ran_by (parts_from (part + 1) ticket moment pieces) answers ++ later in
    let outcome = outcome_at (states asked.shard) asked.op moment in
    let own = continues asked.shard below.0 in
    let step = first_run (states asked.shard) own.0 entry (due.on_shard asked.shard log) some.0
    (rw (self_equal asked.shard) at own.1) in
    let goes : Continues shards (with_state states asked.shard outcome.1) log =
    λ shard less. elim (cases_Bool (asked.shard == shard)) [
      | inl t ↦
          let same : asked.shard ≡ shard = eqb-true asked.shard shard t in
          rw t (own.0, rw (← same) step.1)
      | inr f ↦
          let was = continues shard less in
          rw f (was.0, rw f at was.1)
    ] in
    let rest = pieces_alone shards ticket moment (part + 1) (with_state states asked.shard outcome.1) pieces answers
    later (omega arith) below.1 some.1 goes in
    (λ i. step.0 i ∷ rest.0 i, rest.1)

-- what is left of a history, from these states on
pub alone_goes : (shards ticket : ℕ) (states : States) (history : List AnsweredCommand) → 0 < shards
    → AllByRecursion HadMemory history → AllByRecursion (IsAnswered shards) history
    → Continues shards states (log_from shards ticket history) → texts_of history
    ≡ alone_from shards states (map taken_of history)
alone_goes shards ticket states [] places had answered continues = refl
alone_goes shards ticket states (done ∷ history) places had answered continues =
    let pieces = pieces_of shards done.entry in
    let kept = had.0.kept in
    let now = ended states done.moment pieces in
    let long : length done.answers ≡ length pieces = rw kept at answered.0 in
    let goes : Continues shards states
    (ran_by (parts_from 0 (due.ticket_at ticket) done.moment pieces) done.answers
    ++ log_from shards (ticket + 1) history) =
    subst (λ b. Continues shards states
    (ran_by (parts_from 0 (due.ticket_at ticket) done.moment
    (pieces_of shards (planned
    (record { entry = done.entry; moment = done.moment; server = done.server; given_up = b })))) done.answers
    ++ log_from shards (ticket + 1) history)) kept continues in
    let one = pieces_alone shards (due.ticket_at ticket) done.moment 0 states pieces done.answers
    (log_from shards (ticket + 1) history) long (pieces_within shards places done.entry) had.0.answered goes in
    let rest = alone_goes shards (ticket + 1) now.states history places had.1 answered.1 one.1 in
    rw kept (ap (λ answers. text_of done.server done.entry answers ++ texts_of history) one.0
    ∙ ap (λ texts. text_of done.server done.entry now.answers ++ texts) rest)

-- an entry without who asked
abbrev pub ran_of : Entry → Ran
ran_of entry = record { shard = entry.shard; piece = entry.piece; answer = entry.answer }

-- A run of a shard's log is one too where who asked is left out.
pub run_of : (old : State) (log : List Entry) (last : State) → Run old log last → RunOf old (map ran_of log) last
run_of old [] last run = run
run_of old (entry ∷ log) last run = (run.0, run.1, run_of run.0 log last run.2)

-- The pieces of a log don't depend on the connections.
pub pieces_of_ran : (log : List Entry) → map (λ (r : Ran). r.piece) (map ran_of log) ≡ pieces_in log
pieces_of_ran [] = refl
pieces_of_ran (entry ∷ log) = ap (λ ps. entry.piece ∷ ps) (pieces_of_ran log)

-- The replies of a log don't depend on the connections.
pub replies_of_ran : (log : List Entry) → map reply_of (map ran_of log) ≡ replies_in log
replies_of_ran [] = refl
replies_of_ran (entry ∷ log) = ap (λ rs. reply_to entry ∷ rs) (replies_of_ran log)

-- If one connection asked all that is in a log, what is done for it is the whole log.
pub all_mine : (k : ℕ) (log : List Entry) → AllByRecursion (λ (entry : Entry). entry.asker ≡ k) log → of_asker k log
    ≡ log
all_mine k [] all = refl
all_mine k (entry ∷ log) all =
    ap (λ b. cond b (entry ∷ of_asker k log) (of_asker k log)) (eq-eqb entry.asker k all.0)
    ∙ ap (λ es. entry ∷ es) (all_mine k log all.1)

-- What a log has of a shard is that shard's, where who asked is left out too.
pub on_its_shard : (s : ℕ) (log : List Entry) → AllByRecursion (λ (r : Ran). r.shard ≡ s) (map ran_of (on_shard s log))
on_its_shard s [] = tt
on_its_shard s (entry ∷ log) = elim (cases_Bool (entry.shard == s)) [
  | inl t ↦ rw t (eqb-true entry.shard s t, on_its_shard s log)
  | inr f ↦ rw f (on_its_shard s log)
]

-- an answer that was accepted isn't "out of memory", where none of the replies is
abbrev pub AllHad : List Shown → Type 0
AllHad accepted = AllByRecursion (λ reply. reply.answer ≢ NoMemory) accepted

had_replies : (log : List Entry) → AllByRecursion (λ (entry : Entry). entry.answer ≢ NoMemory) log
    → AllHad (replies_in log)
had_replies [] all = tt
had_replies (entry ∷ log) all = (all.0, had_replies log all.1)

had_answer : (accepted : List Shown) (ticket : Ticket) (part : ℕ) (answer : Answer) → AllHad accepted
    → answer_to accepted ticket part ≡ Some answer → answer ≢ NoMemory
had_answer [] ticket part answer all here none = absurd (cc)
had_answer (reply ∷ accepted) ticket part answer all here none =
    elim (is_to ticket part reply) as
    (λ b. cond b (Some reply.answer) (answer_to accepted ticket part) ≡ Some answer → ⊥) [
      | true ↦ λ this. all.0 (let same : reply.answer ≡ answer = cc in same ∙ none)
      | false ↦ λ later. had_answer accepted ticket part answer all.1 later none
    ] here

had_slots : (accepted : List Shown) (ticket : Ticket) (part : ℕ) (asked : List ShardOp) → AllHad accepted
    → AllByRecursion (λ answer. answer ≢ NoMemory) (answers_of (slots_after accepted ticket part (no_answers asked)))
had_slots accepted ticket part [] all = tt
had_slots accepted ticket part (one ∷ asked) all =
    elim (answer_to accepted ticket part) as
    (λ o. answer_to accepted ticket part ≡ o
    → AllByRecursion (λ answer. answer ≢ NoMemory)
    (answers_of (o ∷ slots_after accepted ticket (part + 1) (no_answers asked)))) [
      | None ↦ λ is. had_slots accepted ticket (part + 1) asked all
      | Some answer ↦ λ is. (
        had_answer accepted ticket part answer all is,
        had_slots accepted ticket (part + 1) asked all,
      )
    ] refl

-- If no accepted answer is "out of memory" and no command was given up, the whole history had memory.
pub had_history : (shards : ℕ) (accepted : List Shown) (number : ℕ) (taken : List Taken) → AllHad accepted
    → AllByRecursion (λ (one : Taken). one.given_up ≡ false) taken
    → AllByRecursion HadMemory (history_from shards accepted number taken)
had_history shards accepted number [] all kept = tt
had_history shards accepted number (one ∷ taken) all kept = (
  record { kept = kept.0; answered = had_slots accepted (due.ticket_at number) 0 (pieces_of shards (planned one)) all },
  had_history shards accepted (number + 1) taken all kept.1,
)

-- If the law holds and no other connection was served, an unbroken connection at rest that never lacked
-- memory was handed the replies that its commands get alone.
pub gets_alone : (sizes : Sizes) (w : World) (k : ℕ) (link : Link) → 0 < sizes.shards
    → LinkLaw sizes (of_asker k w.log) link → IsLawful sizes w.log → link.broken ≡ false → AtRest sizes link
    → IsAlone w k link → handed_bytes sizes w k link ≡ alone sizes link.taken
gets_alone sizes w k link some l lawful unbroken rest by =
    let own = of_asker k w.log in
    let mine : own ≡ w.log = all_mine k w.log by.mine in
    let all : IsAllTaken sizes link × IsAllSent sizes link × (link.handed ≡ length link.taken) =
    subst (λ b. MatchBool b (IsAllSent sizes link × IsAllReceived sizes link)
    (IsAllTaken sizes link × IsAllSent sizes link × (link.handed ≡ length link.taken))) unbroken rest in
    let handed = all.2 in
    let whole : take link.handed link.taken ≡ link.taken = take_all link.handed link.taken (omega (arith, handed)) in
    let t = flow sizes own link l in
    let accepted = replies_in own in
    let history = history_of sizes.shards accepted (take link.handed link.taken) in
    let had_all : AllHad accepted = subst (λ es. AllHad (replies_in es)) (sym mine) (had_replies w.log by.had) in
    let kept : AllByRecursion (λ (one : Taken). one.given_up ≡ false) (take link.handed link.taken) =
    subst (λ ts. AllByRecursion (λ (one : Taken). one.given_up ≡ false) ts) (sym whole) by.kept in
    let goes : Continues sizes.shards (empty_shards sizes) (log_of sizes.shards history) = λ s below.
    let es = on_shard s own in
    let within = ran_within sizes own link l s in
    let come = come_in_log sizes own link l s in
    let dues = ap (λ ts. length (due.due sizes.shards s ts)) whole in
    let served : pieces_in es ≡ due.due sizes.shards s link.taken =
    l.served s ∙ take_all (length es) (due.due sizes.shards s link.taken)
    (omega (arith, within, come, dues, length-map es reply_to)) in
    let is : due.on_shard s (log_of sizes.shards history) ≡ map ran_of es =
    t.ran s
    ∙ (ap (λ ts. ran_on s (due.due sizes.shards s ts) (replies_in es)) whole
    ∙ (ap (λ ps. ran_on s ps (replies_in es)) (sym served)
    ∙ (ap (λ ps. ran_on s ps (replies_in es)) (sym (pieces_of_ran es))
    ∙ (ap (λ rs. ran_on s (map (λ (r : Ran). r.piece) (map ran_of es)) rs) (sym (replies_of_ran es))
    ∙ ran_on-same s (map ran_of es) (on_its_shard s own))))) in
    let run = lawful s below in
    let run_own : RunOf (empty_shard sizes s) (map ran_of es) run.0 =
    run_of (empty_shard sizes s) es run.0
    (subst (λ log. Run (empty_shard sizes s) (on_shard s log) run.0) (sym mine) run.1) in
    (run.0, subst (λ log. RunOf (empty_shard sizes s) log run.0) (sym is) run_own) in
    t.bytes
    ∙ (alone_goes sizes.shards 0 (empty_shards sizes) history some
    (had_history sizes.shards accepted 0 (take link.handed link.taken) had_all kept) t.answered goes
    ∙ ap (λ ts. alone sizes ts) (t.same ∙ whole))
