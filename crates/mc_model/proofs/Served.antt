-- A connection that the shards served alone was handed, at rest, what its commands get alone.
use Rattle.std.proofs.Common.{◌≡◌, ℕ, ◌<◌, false, List, length, map, take, sym, ap, subst, ◌∙◌, arith}
use Rattle.std.specs.Prelude.{MatchBool}
use Rattle.std.specs.List.{AllByRecursion}
use Rattle.std.proofs.lemmas.List.{take_all}
use Rattle.mc_sizes.specs.declared.sizes.Sizes.{Sizes}
use Rattle.mc_ring.specs.Reply.{Shown}
use Rattle.mc_conn.specs.declared.conn.Conn.{Conn}
use Rattle.mc_conn.specs.Conn.{IsConn}
use Rattle.mc_conn.specs.Due.{Ran, due, history_of, log_of, ran_on}
use Rattle.mc_conn.specs.Due as channels
use Rattle.mc_conn.specs.History.{Taken}
use Rattle.mc_conn.specs.Flow.{Flow, IsAllTaken, IsAtRest, all_texts, handed_text}
use Rattle.mc_conn.proofs.Counting.{come_from_count}
use Rattle.mc_conn.proofs.Staying.{is_sound}
use Rattle.mc_conn.proofs.Telling.{ran_on-same, tells}
use Rattle.mc_model.specs.Sized.{empty_shard}
use Rattle.mc_model.specs.Log.{Entry, on_shard, replies_in}
use Rattle.mc_model.specs.Alone.{alone, alone_from, empty_shards}
use Rattle.mc_model.specs.Served.{IsServedAlone}
use Rattle.mc_model.proofs.Alone.{Continues, RunOf, alone_goes, had_history, on_its_shard, pieces_of_ran, ran_of}
use Rattle.mc_model.proofs.Alone.{replies_of_ran, run_of}

-- An unbroken connection at rest that the shards served alone, with memory enough, was handed the replies
-- that its commands get alone.
pub served_alone : (sizes : Sizes) (conn : Conn) (flow : Flow) (log : List Entry) → 0 < sizes.shards → IsConn conn flow
    → flow.broken ≡ false → IsAtRest flow → IsServedAlone sizes flow log → handed_text flow ≡ alone sizes flow.taken
served_alone sizes conn flow log some h unbroken rest by =
    let sound = is_sound conn flow h in
    let done : IsAllTaken flow × (flow.handed ≡ length flow.taken) =
    subst (λ b. MatchBool b (length (all_texts flow) ≡ length flow.taken)
    (IsAllTaken flow × (flow.handed ≡ length flow.taken))) unbroken rest.done in
    let handed = done.1 in
    let same_shards = by.shards in
    let received : ℕ → List Shown = λ s. replies_in (on_shard s log) in
    let whole : take flow.handed flow.taken ≡ flow.taken = take_all flow.handed flow.taken (omega (arith, handed)) in
    let come = come_from_count flow.shards flow.handed flow.taken flow.accepted received by.answers sound.handed in
    let t = tells flow.shards flow.handed flow.taken flow.accepted received (omega (arith, handed)) sound.may by.answers
    come in
    let history = history_of flow.shards flow.accepted (take flow.handed flow.taken) in
    let kept : AllByRecursion (λ (one : Taken). one.given_up ≡ false) (take flow.handed flow.taken) =
    subst (λ ts. AllByRecursion (λ (one : Taken). one.given_up ≡ false) ts) (sym whole) by.kept in
    let goes : Continues flow.shards (empty_shards sizes) (log_of flow.shards history) = λ s below.
    let es = on_shard s log in
    let is : channels.on_shard s (log_of flow.shards history) ≡ map ran_of es =
    t.ran s
    ∙ (ap (λ ts. ran_on s (due flow.shards s ts) (replies_in es)) whole
    ∙ (ap (λ ps. ran_on s ps (replies_in es)) (sym (by.ran s))
    ∙ (ap (λ ps. ran_on s ps (replies_in es)) (sym (pieces_of_ran es))
    ∙ (ap (λ rs. ran_on s (map (λ (r : Ran). r.piece) (map ran_of es)) rs) (sym (replies_of_ran es))
    ∙ ran_on-same s (map ran_of es) (on_its_shard s log))))) in
    let run = by.lawful s (omega (arith, below, same_shards)) in
    let run_own : RunOf (empty_shard sizes s) (map ran_of es) run.0 = run_of (empty_shard sizes s) es run.0 run.1 in
    (run.0, subst (λ rs. RunOf (empty_shard sizes s) rs run.0) (sym is) run_own) in
    t.bytes
    ∙ (alone_goes flow.shards 0 (empty_shards sizes) history (omega (arith, some, same_shards))
    (had_history flow.shards flow.accepted 0 (take flow.handed flow.taken) by.had kept) t.answered goes
    ∙ (ap (λ ts. alone_from flow.shards (empty_shards sizes) ts) (t.same ∙ whole)
    ∙ ap (λ n. alone_from n (empty_shards sizes) flow.taken) same_shards))
