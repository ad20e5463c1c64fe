-- How a seat's clerk knows of each reply which piece it answers.
use Rattle.std.proofs.Common.{◌≡◌, ℕ, zero, suc, ◌+◌, ◌<◌, ◌≤◌, ◌==◌, true, false, cond, inl, inr, List, [], ◌∷◌, ◌++◌}
use Rattle.std.proofs.Common.{length, map, filter, take, Some, refl, sym, ap, subst, ◌∙◌, arith, append-nil}
use Rattle.std.proofs.Common.{append_assoc, length-append, eq-eqb}
use Rattle.std.specs.List.{slice_get}
use Rattle.std.proofs.lemmas.Bool.Decides.{eqb_tells}
use Rattle.std.proofs.lemmas.List.{length-map, map-append}
use Rattle.std.proofs.lemmas.Option.{same_Some, slice_get_within}
use Rattle.mc_ring.proofs.Lists.{get_below, get_map}
use Rattle.mc_ring.specs.declared.request.Request.{Request}
use Rattle.mc_ring.specs.declared.request.Request.TheVariants as request
use Rattle.mc_ring.specs.Ends.{Ends, received_on, sent_on}
use Rattle.mc_ring.specs.Channel.{Near}
use Rattle.mc_ring.specs.Reply.{Shown}
use Rattle.mc_split.specs.declared.plan.Piece.{Piece}
use Rattle.mc_join.specs.Expects.{Expects}
use Rattle.mc_conn.specs.Due.{due, channel, pieces_from}
use Rattle.mc_conn.specs.Fits.{Fits, IsReplyTo, KeysFit, ReceivesFromShard}
use Rattle.mc_conn.specs.History.{Taken, carried_out}
use Rattle.mc_conn.specs.Flow.{Flow, all_pending_replies, all_pieces}
use Rattle.mc_conn.proofs.Fitting.{due-append, fits_none, fits_take, next_expected, next_fits}
use Rattle.mc_conn.proofs.Gets.{IsBehind, get_behind, get_cases, get_front}
use Rattle.mc_conn.proofs.Logged.{due_carried}
use Rattle.mc_model.specs.Grows.{Lengthens}
use Rattle.mc_model.proofs.Growing.{further}
use Rattle.mc_transport.specs.Clerk.{AddsWork, IsAnsweredNext, IsDueAt, IsKept}

-- the piece that a request carries
get_piece : (pieces : List Piece) (n : ℕ) (piece : Piece) → slice_get (map request.Piece pieces) n
    ≡ Some (request.Piece piece) → slice_get pieces n ≡ Some piece
get_piece [] n piece here = absurd (cc here)
get_piece (one ∷ pieces) zero piece here = cc here
get_piece (one ∷ pieces) (suc n) piece here = get_piece pieces n piece here

-- the next piece to leave is the next for its shard
channel_next : (shard n : ℕ) (all : List (ℕ × Piece)) (piece : Piece) → slice_get all n ≡ Some (shard, piece)
    → slice_get (channel shard all) (length (channel shard (take n all))) ≡ Some piece
channel_next shard n [] piece here = absurd (cc here)
channel_next shard zero (one ∷ all) piece here =
    let behind = filter (λ (p : ℕ × Piece). p.0 == shard) all in
    let first : slice_get (channel shard ((shard, piece) ∷ all)) 0 ≡ Some piece =
    ap (λ b. slice_get (map (λ (p : ℕ × Piece). p.1) (cond b ((shard, piece) ∷ behind) behind)) 0)
    (eq-eqb shard shard refl) in
    subst (λ (p : ℕ × Piece). slice_get (channel shard (p ∷ all)) 0 ≡ Some piece)
    (sym (same_Some one (shard, piece) here)) first
channel_next shard (suc n) (one ∷ all) piece here =
    let rest = channel_next shard n all piece here in
    let behind = filter (λ (p : ℕ × Piece). p.0 == shard) all in
    let left = filter (λ (p : ℕ × Piece). p.0 == shard) (take n all) in
    let snd : ℕ × Piece → Piece = λ p. p.1 in
    elim (one.0 == shard) as
    (λ b. slice_get (map snd (cond b (one ∷ behind) behind)) (length (map snd (cond b (one ∷ left) left)))
    ≡ Some piece) [
      | true ↦ rest
      | false ↦ rest
    ]

-- a piece of the work that is behind what was sent before
work_behind : (before : List Request) (pieces work : List Piece) (j place : ℕ) (piece : Piece) → map request.Piece work
    ≡ before ++ map request.Piece pieces → place ≡ length before + j → slice_get pieces j ≡ Some piece
    → slice_get work place ≡ Some piece
work_behind before pieces work j place piece is at here =
    get_piece work place piece
    (ap (λ ps. slice_get ps place) is ∙ (ap (λ n. slice_get (before ++ map request.Piece pieces) n) at
    ∙ (get_behind before (map request.Piece pieces) j ∙ get_map request.Piece pieces j piece here)))

-- Once all that the connection took is recorded, its next piece is due in the next place of its channel.
pub sends_next : (work : ℕ → List Piece) (taken : List Taken) (answers : ℕ → List Shown) (before : Ends Near)
    (flow : Flow) (received : ℕ → List Shown) → IsKept work taken answers before flow received → taken
    ≡ map carried_out flow.taken
    → (shard : ℕ) (piece : Piece) (sent : List Request) → shard < flow.shards → slice_get (all_pieces flow) flow.out
    ≡ Some (shard, piece) → sent ≡ sent_on before shard
    ++ map request.Piece (channel shard (take flow.out (all_pieces flow)))
    → IsDueAt (work shard) (length sent) (request.Piece piece)
sends_next work taken answers before flow received kept all shard piece sent below here is =
    let left = channel shard (take flow.out (all_pieces flow)) in
    let dues : due flow.shards shard taken ≡ due flow.shards shard flow.taken = ap (due flow.shards shard) all
    ∙ due_carried flow.shards shard flow.taken in
    work_behind (sent_on before shard) (due flow.shards shard taken) (work shard) (length left) (length sent) piece
    (kept.work_is shard below)
    (ap length is ∙ (length-append (sent_on before shard) (map request.Piece left)
    ∙ ap (λ k. length (sent_on before shard) + k) (length-map left request.Piece)))
    (ap (λ ps. slice_get ps (length left)) dues ∙ channel_next shard flow.out (all_pieces flow) piece here)

-- The next reply of a shard that is owed one is for a piece that is due.
pub answered_next : (work : ℕ → List Piece) (taken : List Taken) (answers : ℕ → List Shown) (before : Ends Near)
    (flow : Flow) (received : ℕ → List Shown) → IsKept work taken answers before flow received
    → (shard : ℕ) (came : List Shown) → shard < flow.shards
    → length (received shard) < length (due flow.shards shard taken) → came ≡ received_on before shard ++ received shard
    → IsAnsweredNext (work shard) flow shard (received shard) came
answered_next work taken answers before flow received kept shard came below owed is =
    let at = get_below (due flow.shards shard taken) (length (received shard)) owed in
    let more = kept.begins in
    let dues : due flow.shards shard flow.taken ≡ due flow.shards shard taken
    ++ channel shard (pieces_from flow.shards (0 + length taken) more.0) =
    sym (due_carried flow.shards shard flow.taken)
    ∙ (ap (due flow.shards shard) more.1 ∙ due-append flow.shards shard taken more.0) in
    record {
      piece = at.0;
      due_is = ap (λ ps. slice_get ps (length (received shard))) dues
          ∙ get_front (due flow.shards shard taken) (channel shard (pieces_from flow.shards (0 + length taken) more.0))
          (length (received shard)) at.0 at.1;
      work_is =
          work_behind (sent_on before shard) (due flow.shards shard taken) (work shard) (length (received shard))
          (length came) at.0 (kept.work_is shard below)
          (ap length is ∙ (length-append (received_on before shard) (received shard)
          ∙ ap (λ k. k + length (received shard)) (kept.settled shard below)))
          at.1;
    }

-- the keys of what was received fit still with more commands taken
keys_longer : (shards : ℕ) (taken more : List Taken) (received : ℕ → List Shown)
    → ((s : ℕ) → length (received s) ≤ length (due shards s taken)) → KeysFit shards taken received
    → KeysFit shards (taken ++ more) received
keys_longer shards taken more received within keys s i p reply at came =
    let below = slice_get_within (received s) i reply came in
    let long = within s in
    let q = get_below (due shards s taken) i (omega (arith, below, long)) in
    let there : slice_get (due shards s (taken ++ more)) i ≡ Some q.0 =
    ap (λ ps. slice_get ps i) (due-append shards s taken more)
    ∙ get_front (due shards s taken) (channel s (pieces_from shards (0 + length taken) more)) i q.0 q.1 in
    subst (λ piece. IsReplyTo piece reply) (same_Some q.0 p (sym there ∙ at)) (keys s i q.0 reply q.1 came)

-- the last reply is to this piece
last_key : (work : List Piece) (before : List Shown) (reply r : Shown) (p q : Piece) (i : ℕ)
    → slice_get work (length before) ≡ Some p → IsReplyTo p reply → slice_get work i ≡ Some q
    → IsBehind before (reply ∷ []) i r → IsReplyTo q r
last_key work before reply r p q i next to at behind =
    let below = slice_get_within (reply ∷ []) behind.place r behind.here in
    let zeroed : behind.place ≡ 0 = omega (arith, below) in
    let placed = behind.at in
    let is : i ≡ length before = omega (arith, placed, zeroed) in
    let same : reply ≡ r = same_Some reply r (subst (λ n. slice_get (reply ∷ []) n ≡ Some r) zeroed behind.here) in
    let piece : p ≡ q = same_Some p q (sym next ∙ (ap (λ n. slice_get work n) (sym is) ∙ at)) in
    subst (λ one. IsReplyTo q one) same (subst (λ one. IsReplyTo one reply) piece to)

-- the keys fit with a reply more to the next piece that is due
keys_heard : (shards s : ℕ) (taken : List Taken) (old new : ℕ → List Shown) (reply : Shown) (p : Piece)
    → KeysFit shards taken old → slice_get (due shards s taken) (length (old s)) ≡ Some p → IsReplyTo p reply
    → ReceivesFromShard old s reply new → KeysFit shards taken new
keys_heard shards s taken old new reply p keys next to receives t i q r at came = elim (eqb_tells t s) [
  | inr other ↦ keys t i q r at (ap (λ l. slice_get l i) (sym (receives.others t other.1)) ∙ came)
  | inl same ↦
      let here : slice_get (due shards s taken) i ≡ Some q =
      subst (λ k. slice_get (due shards k taken) i ≡ Some q) same.1 at in
      let shown : slice_get (old s ++ reply ∷ []) i ≡ Some r =
      ap (λ l. slice_get l i) (sym receives.here ∙ ap new (sym same.1)) ∙ came in
      elim (get_cases (old s) (reply ∷ []) i r shown) [
        | inl front ↦ keys s i q r here front
        | inr behind ↦ last_key (due shards s taken) (old s) reply r p q i next to here behind
      ]
]

get_at : {X : Type 0} (xs ys : List X) → slice_get (xs ++ ys) (length xs) ≡ slice_get ys 0
get_at [] ys = refl
get_at (x ∷ xs) ys = get_at xs ys

behind_first : {X : Type 0} (xs more ys : List X) (y : X) → ys ≡ xs ++ more → slice_get more 0 ≡ Some y
    → Lengthens (xs ++ y ∷ []) ys
behind_first xs [] ys y is here = absurd (cc here)
behind_first xs (z ∷ more) ys y is here =
    (more, is ∙ (ap (λ w. xs ++ w ∷ more) (same_Some z y here) ∙ sym (append_assoc xs (y ∷ []) more)))

longer_by : {X : Type 0} (xs ys : List X) (y : X) → Lengthens xs ys → slice_get ys (length xs) ≡ Some y
    → Lengthens (xs ++ y ∷ []) ys
longer_by xs ys y more here =
    behind_first xs more.0 ys y more.1
    (sym (get_at xs more.0) ∙ (ap (λ l. slice_get l (length xs)) (sym more.1) ∙ here))

-- What was received is answers of the record still, with this reply more.
pub kept_heard : (work work' : ℕ → List Piece) (taken : List Taken) (answers answers' : ℕ → List Shown)
    (before : Ends Near) (flow : Flow) (received received' : ℕ → List Shown)
    → IsKept work taken answers before flow received
    → (shard : ℕ) (came : List Shown) (reply : Shown) → shard < flow.shards
    → (next : IsAnsweredNext (work shard) flow shard (received shard) came) → came ≡ received_on before shard
    ++ received shard → IsReplyTo next.piece reply
    → ((s : ℕ) → work' s ≡ work s) → ((s : ℕ) → Lengthens (answers s) (answers' s))
    → slice_get (answers' shard) (length came) ≡ Some reply → ReceivesFromShard received shard reply received'
    → Expects (all_pending_replies flow) flow.accepted reply
    × IsKept work' taken answers' before (record flow { accepted = flow.accepted ++ reply ∷ [] }) received'
kept_heard work work' taken answers answers' before flow received received' kept shard came reply below next is to same
    grows here receives = (
      next_expected flow.shards shard flow.taken flow.accepted received next.piece reply kept.fits next.due_is to,
      record {
        begins = kept.begins;
        settled = kept.settled;
        work_is = λ s within. ap (map request.Piece) (same s) ∙ kept.work_is s within;
        came = λ s within. elim (eqb_tells s shard) [
          | inl at ↦ subst (λ k. Lengthens (received_on before k ++ received' k) (answers' k)) (sym at.1)
              (subst (λ l. Lengthens l (answers' shard))
              (append_assoc (received_on before shard) (received shard) (reply ∷ [])
              ∙ ap (λ l. received_on before shard ++ l) (sym receives.here))
              (longer_by (received_on before shard ++ received shard) (answers' shard) reply
              (further (received_on before shard ++ received shard) (answers shard) (answers' shard)
              (kept.came shard below)
              (grows shard))
              (subst (λ l. slice_get (answers' shard) (length l) ≡ Some reply) is here)))
          | inr other ↦ subst (λ l. Lengthens (received_on before s ++ l) (answers' s))
              (sym (receives.others s other.1))
              (further (received_on before s ++ received s) (answers s) (answers' s) (kept.came s within) (grows s))
        ];
        keys =
            keys_heard flow.shards shard flow.taken received received' reply next.piece kept.keys next.due_is to
            receives;
        fits =
            next_fits flow.shards shard flow.taken flow.accepted received received' next.piece reply kept.fits
            next.due_is to receives;
      },
    )

-- All that the connection took is recorded.
pub kept_recorded : (work work' : ℕ → List Piece) (taken taken' : List Taken) (answers answers' : ℕ → List Shown)
    (before : Ends Near) (flow : Flow) (received : ℕ → List Shown) → IsKept work taken answers before flow received
    → taken' ≡ map carried_out flow.taken
    → ((s : ℕ) → AddsWork flow.shards s taken taken' (work s) (work' s))
    → ((s : ℕ) → Lengthens (answers s) (answers' s)) → IsKept work' taken' answers' before flow received
kept_recorded work work' taken taken' answers answers' before flow received kept all adds grows = record {
  begins = ([], sym all ∙ sym (append-nil taken'));
  settled = kept.settled;
  work_is = λ s within.
      let add = adds s in
      let old = due flow.shards s taken in
      ap (map request.Piece) add.work_is ∙ (map-append request.Piece (work s) add.added
      ∙ (ap (λ ps. ps ++ map request.Piece add.added) (kept.work_is s within)
      ∙ (append_assoc (sent_on before s) (map request.Piece old) (map request.Piece add.added)
      ∙ ap (λ ps. sent_on before s ++ ps)
      (sym (map-append request.Piece old add.added) ∙ ap (map request.Piece) (sym add.due_is)))));
  came =
      λ s within. further (received_on before s ++ received s) (answers s) (answers' s) (kept.came s within) (grows s);
  keys = kept.keys;
  fits = kept.fits;
}

-- A command more is taken, which isn't recorded yet.
pub kept_taken : (work : ℕ → List Piece) (taken : List Taken) (answers : ℕ → List Shown) (before : Ends Near)
    (flow : Flow) (received : ℕ → List Shown) (one : Taken) → IsKept work taken answers before flow received
    → IsKept work taken answers before (record flow { taken = flow.taken ++ one ∷ [] }) received
kept_taken work taken answers before flow received one kept = record {
  begins =
      further taken (map carried_out flow.taken) (map carried_out (flow.taken ++ one ∷ [])) kept.begins
      (carried_out one ∷ [], map-append carried_out flow.taken (one ∷ []));
  settled = kept.settled;
  work_is = kept.work_is;
  came = kept.came;
  keys = keys_longer flow.shards flow.taken (one ∷ []) received kept.fits.within kept.keys;
  fits = fits_take flow.shards flow.taken one flow.accepted received kept.fits;
}

-- A connection that has taken nothing: nothing is under way, and what was sent before is the work.
pub kept_begins : (work : ℕ → List Piece) (taken : List Taken) (answers : ℕ → List Shown) (before : Ends Near)
    (flow : Flow) → flow.taken ≡ [] → flow.accepted ≡ [] → taken ≡ []
    → ((s : ℕ) → s < flow.shards → length (received_on before s) ≡ length (sent_on before s))
    → ((s : ℕ) → s < flow.shards → map request.Piece (work s) ≡ sent_on before s)
    → ((s : ℕ) → s < flow.shards → Lengthens (received_on before s) (answers s))
    → IsKept work taken answers before flow (λ s. [])
kept_begins work taken answers before flow none nothing unrecorded settled works came = record {
  begins = subst (λ l. Lengthens l (map carried_out flow.taken)) (sym unrecorded) (map carried_out flow.taken, refl);
  settled = settled;
  work_is =
      λ s within. works s within
      ∙ (sym (append-nil (sent_on before s))
      ∙ ap (λ l. sent_on before s ++ map request.Piece (due flow.shards s l)) (sym unrecorded));
  came = λ s within. subst (λ l. Lengthens l (answers s)) (sym (append-nil (received_on before s))) (came s within);
  keys = λ s i p reply at came. absurd (cc came);
  fits =
      subst (λ l. Fits flow.shards l flow.accepted (λ s. [])) (sym none)
      (subst (λ l. Fits flow.shards [] l (λ s. [])) (sym nothing) (fits_none flow.shards));
}
