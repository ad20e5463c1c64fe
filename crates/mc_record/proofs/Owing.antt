-- What the line of a seat's connection is owed may be written to it.
use Rattle.std.proofs.Common.{◌≡◌, ℕ, ◌<◌, List, ◌++◌, length, map, drop, sym, ap, subst, ◌∙◌, arith, append_assoc}
use Rattle.std.proofs.Common.{length-append}
use Rattle.std.specs.List.{AllByRecursion, concat, slice_get}
use Rattle.std.proofs.lemmas.List.{drop-map, length-map}
use Rattle.mc_wire.specs.Sink.{Sight}
use Rattle.mc_ring.specs.declared.request.Request.TheVariants as request
use Rattle.mc_ring.specs.Ends.{Ends, received_on, sent_on}
use Rattle.mc_ring.specs.Channel.{Near}
use Rattle.mc_ring.specs.Reply.{Shown}
use Rattle.mc_reader.specs.Spelling.{BeginCommands}
use Rattle.mc_reader.proofs.Fronts.{begin_more}
use Rattle.mc_split.specs.declared.plan.Piece.{Piece}
use Rattle.mc_join.specs.Replies.{replies}
use Rattle.mc_conn.specs.Due.{due, pending_replies_of}
use Rattle.mc_conn.specs.Fits.{Fits}
use Rattle.mc_conn.specs.History.{Taken, carried_out}
use Rattle.mc_conn.specs.Flow.{Flow, all_texts, commands_of}
use Rattle.mc_conn.proofs.Logged.{due_carried, pending_replies_carried}
use Rattle.mc_model.specs.Grows.{Lengthens}
use Rattle.mc_model.specs.Headline.{replies_to}
use Rattle.mc_model.specs.Log.{of_asker, replies_in, reply_to}
use Rattle.mc_history.specs.Roles.{seat_of}
use Rattle.mc_history.specs.Tokens.{Acting}
use Rattle.mc_history.specs.Worlds.{link_in, ran_in, ran_on, taken_in, work_of, work_on, world_in}
use Rattle.mc_history.specs.Writes.{MayWrite}
use Rattle.mc_history.proofs.Answering.{by_shard, history_fits}
use Rattle.mc_history.proofs.Ending.{ChannelOfLast, channel_of_last}
use Rattle.mc_history.proofs.Holds.{holds}
use Rattle.mc_history.proofs.Replying.{replies_begin}
use Rattle.mc_history.proofs.Writing.{begins_texts}
use Rattle.mc_transport.specs.Clerk.{IsKept}
use Rattle.mc_record.specs.Clerk.{HasOpened, IsOwed, IsSeatActor, answers_at, connection_of, taken_now, work_at}
use Rattle.mc_record.proofs.Clerking.{drop_front}

-- as many replies were received before as there was work of earlier connections
settled_at : (actor : Acting) (before : Ends Near) (flow : Flow) (received : ℕ → List Shown) (s : ℕ)
    → IsKept (work_at actor) (taken_now actor) (answers_at actor) before flow received → flow.shards
    ≡ actor.name.sizes.shards → s < flow.shards
    → (channel : ChannelOfLast actor.name.sizes (seat_of actor.role) s (connection_of actor) actor.events)
    → length channel.earlier ≡ length (received_on before s)
settled_at actor before flow received s kept same below channel =
    let sizes = actor.name.sizes in
    let k = connection_of actor in
    let work = work_on sizes.shards (seat_of actor.role) s actor.events in
    let dues = due flow.shards s (taken_now actor) in
    let own = due sizes.shards s (taken_now actor) in
    let all : length (map request.Piece (work_at actor s)) ≡ length (sent_on before s ++ map request.Piece dues) =
    ap length (kept.work_is s below) in
    let pieces = length-map (work_at actor s) request.Piece in
    let seconds = length-map work (λ (one : ℕ × Piece). one.1) in
    let sent = length-append (sent_on before s) (map request.Piece dues) in
    let requests = length-map dues request.Piece in
    let split : length work ≡ length (channel.earlier ++ work_of sizes.shards s actor.events k) =
    ap length channel.work_is in
    let parts = length-append channel.earlier (work_of sizes.shards s actor.events k) in
    let with : Piece → ℕ × Piece = λ piece. (k, piece) in
    let each = length-map own with in
    let here : length dues ≡ length own = ap (λ n. length (due n s (taken_now actor))) same in
    let settled = kept.settled s below in
    omega (arith, all, pieces, seconds, sent, requests, split, parts, each, here, settled)

-- what was received of a shard begins what it ran for the connection
came_at : (actor : Acting) (before : Ends Near) (flow : Flow) (received : ℕ → List Shown) (s : ℕ) → IsSeatActor actor
    → HasOpened actor → IsKept (work_at actor) (taken_now actor) (answers_at actor) before flow received → flow.shards
    ≡ actor.name.sizes.shards → s < flow.shards
    → Lengthens (received s) (by_shard (of_asker (connection_of actor) (ran_in actor.events)) s)
came_at actor before flow received s is last kept same below =
    let sizes = actor.name.sizes in
    let c = seat_of actor.role in
    let channel = channel_of_last sizes c s (connection_of actor) actor.events is.lawful last in
    let n = length channel.earlier in
    let ran = ran_on c s actor.events in
    let came = kept.came s below in
    let front = received_on before s in (
      came.0,
      ap replies_in channel.ran_is
          ∙ (sym (drop-map reply_to n ran)
          ∙ (ap (λ l. drop n l) (came.1 ∙ append_assoc front (received s) came.0)
          ∙ (ap (λ j. drop j (front ++ (received s ++ came.0)))
          (settled_at actor before flow received s kept same below channel)
          ∙ drop_front front (received s ++ came.0)))),
    )

-- the answers fit what was taken as they fit it as it is carried out
fits_carried : (shards : ℕ) (taken : List Taken) (accepted : List Shown) (received : ℕ → List Shown)
    → Fits shards (map carried_out taken) accepted received → Fits shards taken accepted received
fits_carried shards taken accepted received fits = record {
  within = λ s. let within = fits.within s in let same =
      ap length (due_carried shards s taken) in omega (arith, within, same);
  asked =
      subst (λ n. AllByRecursion (λ (reply : Shown). reply.ticket.0 < n) accepted) (length-map taken carried_out)
      fits.asked;
  answers = λ s i p here. fits.answers s i p (ap (λ ps. slice_get ps i) (due_carried shards s taken) ∙ here);
}

-- the replies to the connection begin those by the history
texts_at : (actor : Acting) (begin now : Sight) (bytes : List ℕ) → IsSeatActor actor
    → (has : IsOwed actor begin now bytes)
    → Lengthens (all_texts has.owed.flow)
    (replies_to actor.name.sizes (world_in actor.events) (connection_of actor)
    (link_in (connection_of actor) actor.events))
texts_at actor begin now bytes is has =
    let owed = has.owed in
    let sizes = actor.name.sizes in
    let k = connection_of actor in
    let flow = owed.flow in
    let own = of_asker k (ran_in actor.events) in
    let fits = subst (λ n. Fits n flow.taken flow.accepted owed.received) owed.shards_are owed.kept.fits in
    let fits' = fits_carried sizes.shards flow.taken (replies_in own) (by_shard own)
    (subst (λ ts. Fits sizes.shards ts (replies_in own) (by_shard own)) owed.recorded
    (history_fits sizes k actor.events is.lawful)) in
    let came : (s : ℕ) → s < sizes.shards → Lengthens (owed.received s) (by_shard own s) =
    λ s below. came_at actor owed.before flow owed.received s is has.opened owed.kept owed.shards_are
    (subst (λ n. s < n) (sym owed.shards_are) below) in
    let there = subst (λ n. 0 < n) owed.shards_are owed.some_shards in
    let grown = replies_begin sizes.shards flow.taken flow.accepted (replies_in own) owed.received (by_shard own) there
    fits fits' came in
    let pending_replies : pending_replies_of sizes.shards (taken_in k actor.events)
    ≡ pending_replies_of sizes.shards flow.taken =
    ap (λ ts. pending_replies_of sizes.shards ts) owed.recorded ∙ pending_replies_carried sizes.shards flow.taken in
    let all = replies (pending_replies_of sizes.shards (taken_in k actor.events)) (replies_in own) in
    subst (λ n. Lengthens (replies (pending_replies_of n flow.taken) flow.accepted) all) (sym owed.shards_are)
    (subst (λ fs. Lengthens (replies (pending_replies_of sizes.shards flow.taken) flow.accepted)
    (replies fs (replies_in own))) (sym pending_replies) grown)

-- What the line is owed may be written to it.
pub owed_may : (actor : Acting) (begin now : Sight) (bytes : List ℕ) → IsSeatActor actor → IsOwed actor begin now bytes
    → MayWrite actor.name.sizes (connection_of actor) begin now bytes actor.events
owed_may actor begin now bytes is has =
    let owed = has.owed in
    let sizes = actor.name.sizes in
    let k = connection_of actor in
    let flow = owed.flow in
    let kept = holds sizes actor.events is.lawful in
    let texts = texts_at actor begin now bytes is has in
    record {
      lawful = kept.steps;
      once = kept.in_order;
      owned = kept.owned;
      read = flow.fed ++ owed.unread;
      written = owed.written;
      read_is = owed.read_is;
      written_is = owed.written_is;
      taken = flow.taken;
      covers = subst (λ rules. BeginCommands rules (flow.fed ++ owed.unread) (commands_of flow.taken)) owed.rules_are
          (begin_more flow.rules flow.fed owed.unread (commands_of flow.taken) owed.sound.begin);
      may = owed.sound.may;
      recorded = owed.recorded;
      rest = owed.rest ++ concat texts.0;
      next =
          begins_texts owed.written bytes owed.rest (all_texts flow)
          (replies_to sizes (world_in actor.events) k (link_in k actor.events)) owed.next texts;
    }
