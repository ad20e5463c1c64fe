-- What a line that is served without threads is owed, by its history.
use Rattle.std.proofs.Common.{◌≡◌, ℕ, [], ◌++◌, List, map, refl, sym, ap, ◌∙◌, append-nil, append_assoc}
use Rattle.mc_wire.specs.Sink.{Sight}
use Rattle.mc_sizes.specs.Sizes.{rules_of}
use Rattle.mc_sizes.specs.declared.sizes.Sizes.{Sizes}
use Rattle.mc_store.specs.declared.shard.Shard.{Shard}
use Rattle.mc_ring.specs.declared.request.Request.TheVariants as request
use Rattle.mc_ring.specs.Channel.{Near}
use Rattle.mc_ring.specs.Ends.{Ends}
use Rattle.mc_conn.specs.Due.{due}
use Rattle.mc_conn.specs.Flow.{Flow, waiting_text}
use Rattle.mc_conn.proofs.Staying.{is_sound}
use Rattle.mc_model.specs.Log.{Entry}
use Rattle.mc_transport.specs.declared.buffered_conn.BufferedConn.{BufferedConn}
use Rattle.mc_transport.specs.BufferedConn.{HasStopped}
use Rattle.mc_transport.specs.Clerk.{IsKept, IsOwed}
use Rattle.mc_transport.specs.Later.{text_in}
use Rattle.mc_transport.specs.Place.{Place}
use Rattle.mc_transport.proofs.Serving.{handed_and_waiting}
use Rattle.mc_history.specs.Tokens.{Acting}
use Rattle.mc_record.specs.Clerk.{HasOpened, answers_at, place_of, taken_now, work_at}
use Rattle.mc_server.specs.internal.Answering.{ShardsAnswered}
use Rattle.mc_server.specs.internal.Recording.{IsWhole, replies_on}
use Rattle.mc_server.proofs.Explaining.{keys_fit}

-- no channels: the shards are the line's own
abbrev no_ends : Ends Near
no_ends = record { number = 0; channels = [] }

-- The record is of the line's connection.
kept : (sizes : Sizes) (place : Place) (begin : Sight) (flow : Flow) (shards : List Shard) (log : List Entry)
    (clerk : Acting) (recorders : List Acting) → ShardsAnswered sizes flow shards log
    → IsWhole sizes place begin flow.taken log clerk recorders
    → IsKept (work_at clerk) (taken_now clerk) (answers_at clerk) no_ends flow (replies_on log)
kept sizes place begin flow shards log clerk recorders answers whole = record {
  begins = whole.is.begins;
  settled = λ s within. refl;
  work_is = λ s within.
      ap (map request.Piece) (whole.is.work_is s
      ∙ ap (λ (n : ℕ). due n s (taken_now clerk)) (sym answers.same));
  came = λ s within. whole.is.came s;
  keys = keys_fit sizes flow shards log answers;
  fits = answers.fits;
}

-- The line is owed what waits, and then all replies whose turn has come.
pub owes_all : (sizes : Sizes) (may_answer : ℕ → Type 0) (place : Place) (begin now : Sight) (flow : Flow)
    (buffered_conn : BufferedConn) (shards : List Shard) (log : List Entry) (clerk : Acting) (recorders : List Acting)
    → ShardsAnswered sizes flow shards log → IsWhole sizes place begin flow.taken log clerk recorders
    → HasStopped (replies_on log) may_answer begin now flow buffered_conn
    → (place ≡ place_of clerk begin) × HasOpened clerk
    × IsOwed clerk.name.sizes (work_at clerk) (taken_now clerk) (answers_at clerk) begin now
    (text_in buffered_conn.unwritten ++ waiting_text flow)
owes_all sizes may_answer place begin now flow buffered_conn shards log clerk recorders answers whole stopped =
    let served = stopped.serves in
    let sizes_are = whole.is.sizes_are in
    let waits = text_in buffered_conn.unwritten in
    let next = waiting_text flow in (
      whole.is.placed,
      whole.is.opened,
      record {
        flow = flow;
        before = no_ends;
        received = replies_on log;
        kept = kept sizes place begin flow shards log clerk recorders answers whole;
        sound = is_sound buffered_conn.conn flow served.conn_is;
        some_shards = rw answers.same answers.some;
        shards_are = answers.same ∙ ap (λ (s : Sizes). s.shards) (sym sizes_are);
        rules_are = answers.rules_are ∙ ap rules_of (sym sizes_are);
        recorded = whole.all;
        unread = buffered_conn.seat.unread;
        read_is = served.serving.read_is;
        written = served.written;
        written_is = served.written_is;
        rest = [];
        next =
            ap (λ l. served.written ++ l) (append-nil (waits ++ next))
            ∙ (sym (append_assoc served.written waits next)
            ∙ (ap (λ l. l ++ next) served.in_order ∙ handed_and_waiting flow));
      },
    )
