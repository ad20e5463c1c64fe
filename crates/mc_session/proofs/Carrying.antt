-- Pieces go over the channels of a seat and replies come back, one after another.
use Rattle.std.proofs.Common.{◌≡◌, ◌≢◌, ℕ, ◌+◌, ◌<◌, ◌≤◌, ◌==◌, inl, inr, Bool, true, false, cond, List, [], ◌∷◌, ◌++◌}
use Rattle.std.proofs.Common.{length, map, take, drop, Some, None, Ok, Err, Result, OnOk, OnErr, IsTrue, refl, sym, ap}
use Rattle.std.proofs.Common.{subst, ◌∙◌, arith, append_assoc, append-nil, length-append, slice_set}
use Rattle.std.specs.List.{slice_get}
use Rattle.std.proofs.lemmas.Bool.{cases_eq, cases_lt, eq-eqb, ne_eqb}
use Rattle.std.proofs.lemmas.List.{map-append, take-append-drop}
use Rattle.std.proofs.lemmas.Option.{same_Some, slice_get_within}
use Rattle.mc_ring.specs.declared.request.Request.{Request}
use Rattle.mc_ring.specs.declared.request.Request.TheVariants as request
use Rattle.mc_ring.specs.Reply.{Shown}
use Rattle.mc_ring.specs.Channel.{Near}
use Rattle.mc_ring.specs.Ends.{AreSameEnds, AtChannel, Ends, Sends, received_on, sent_on, Receives}
use Rattle.mc_ring.specs.EndsLaws.{at_channel-kept, at_channel-longer, at_channel-other, get-set_other, get-set_same}
use Rattle.mc_ring.specs.EndsLaws.{length-slice_set, same_ends-trans}
use Rattle.mc_split.specs.declared.plan.Piece.{Piece}
use Rattle.mc_join.specs.Expects.{Expects}
use Rattle.mc_join.specs.declared.reorder_buffer.UnexpectedReply.{UnexpectedReply}
use Rattle.mc_conn.specs.declared.conn.Conn.{Conn}
use Rattle.mc_conn.specs.Conn.{IsConn}
use Rattle.mc_conn.specs.Due.{due, channel}
use Rattle.mc_conn.specs.Fits.{ReceivesFromShard, Serves}
use Rattle.mc_conn.specs.Flow.{KeepsHanded, Flow, all_pending_replies, all_pieces}
use Rattle.mc_conn.proofs.Counting.{due_beyond}
use Rattle.mc_conn.proofs.Gets.{get_front}
use Rattle.mc_conn.proofs.Places.{channel-append, channel-no, channel-yes, channel_there}
use Rattle.mc_conn.proofs.Serving.{serves_accept, serves_unexpected_reply}
use Rattle.mc_conn.proofs.Staying.{is_sound, keeps_accept}
use Rattle.mc_model.proofs.Lists.{take_next}
use Rattle.mc_session.specs.internal.Carrying.{AllOutWhere, AnyOut, Carries, CarriesOn, KeepsReceived, MayCarry}
use Rattle.mc_session.specs.internal.Carrying.{MovesOn, NoneOut, Recorded, carried, sent_to}
use Rattle.mc_session.specs.Ending.{StandsStill}
use Rattle.mc_transport.proofs.Along.{keeps_trans}

-- a connection has some shards
pub some_shards : (conn : Conn) (flow : Flow) → IsConn conn flow → 0 < flow.shards
unfolding IsConn
some_shards conn flow is =
    let some = conn.dispatcher.planner.some_shards in
    let same = is.shards in
    omega (arith, some, same)

-- nothing was carried
pub on_none : (recorded : Recorded) (before : Ends Near) (flow : Flow) (received : ℕ → List Shown) (ends : Ends Near)
    (ways : List ℕ) (conn new : Conn) → IsConn conn flow → IsConn new flow → Carries before ends ways flow received
    → recorded before flow received
    → CarriesOn recorded before flow received ends ways new
on_none recorded before flow received ends ways conn new is same carries has = record {
  out = flow.out;
  lent = flow.lent;
  accepted = flow.accepted;
  later = received;
  conn_is = same;
  carries = carries;
  handed = record { within = (is_sound conn flow is).handed; same = refl };
  kept = λ s place reply h. h;
  as_recorded = has;
}

-- and then more
on_trans : (mid after : Recorded) (before : Ends Near) (flow : Flow) (received : ℕ → List Shown) (ends last : Ends Near)
    (ways ways' : List ℕ) (conn new : Conn) → (on : CarriesOn mid before flow received ends ways conn)
    → CarriesOn after before (carried flow on.out on.lent on.accepted) on.later last ways' new
    → CarriesOn after before flow received last ways' new
on_trans mid after before flow received ends last ways ways' conn new on more = record {
  out = more.out;
  lent = more.lent;
  accepted = more.accepted;
  later = more.later;
  conn_is = more.conn_is;
  carries = more.carries;
  handed =
      keeps_trans flow (carried flow on.out on.lent on.accepted) (carried flow more.out more.lent more.accepted) refl
      on.handed more.handed;
  kept = λ s place reply h. more.kept s place reply (on.kept s place reply h);
  as_recorded = more.as_recorded;
}

moves_trans : (first second both : Flow → ℕ → Type 0) (was mid after : Recorded) (ends ends' last : Ends Near)
    (ways ways' left : List ℕ) (conn conn' new : Conn)
    → ((flow : Flow) (mid : ℕ) (lent : Bool) (accepted : List Shown) (out : ℕ) → first flow mid
    → second (carried flow mid lent accepted) out → both flow out)
    → MovesOn first was mid ends ways conn ends' ways' conn' → MovesOn second mid after ends' ways' conn' last left new
    → MovesOn both was after ends ways conn last left new
unfolding on_trans
moves_trans first second both was mid after ends ends' last ways ways' left conn conn' new join one two = record {
  moves = λ before flow received is carries has.
      let now = one.moves before flow received is carries has in
      let on = now.0 in
      let then = two.moves before (carried flow on.out on.lent on.accepted) on.later on.conn_is on.carries
      on.as_recorded in (
        on_trans mid after before flow received ends' last ways' left conn' new on then.0,
        join flow on.out on.lent on.accepted then.0.out now.1 then.1,
      );
}

-- nothing has moved
pub moves_refl : (recorded : Recorded) (ends : Ends Near) (ways : List ℕ) (conn : Conn)
    → MovesOn AnyOut recorded recorded ends ways conn ends ways conn
moves_refl recorded ends ways conn =
    record {
      moves = λ before flow received is carries has.
          (on_none recorded before flow received ends ways conn conn is is carries has, tt);
    }

-- Where nothing happens no piece leaves the connection.
pub stays_refl : (recorded : Recorded) (ends : Ends Near) (ways : List ℕ) (conn : Conn)
    → MovesOn NoneOut recorded recorded ends ways conn ends ways conn
unfolding on_none
stays_refl recorded ends ways conn =
    record {
      moves = λ before flow received is carries has.
          (on_none recorded before flow received ends ways conn conn is is carries has, refl);
    }

-- Pieces and replies carried on, and then carried on further, were carried on from the first ends to the last.
pub moves_more : (first second : Flow → ℕ → Type 0) (was mid after : Recorded) (ends ends' last : Ends Near)
    (ways ways' left : List ℕ) (conn conn' new : Conn) → MovesOn first was mid ends ways conn ends' ways' conn'
    → MovesOn second mid after ends' ways' conn' last left new
    → MovesOn AnyOut was after ends ways conn last left new
moves_more first second was mid after ends ends' last ways ways' left conn conn' new one two =
    moves_trans first second AnyOut was mid after ends ends' last ways ways' left conn conn' new
    (λ flow mid lent accepted out a b. tt) one two

-- Where no piece has left in a first step, and none in the next, none has left in both.
pub stays_more : (was mid after : Recorded) (ends ends' last : Ends Near) (ways ways' left : List ℕ)
    (conn conn' new : Conn) → MovesOn NoneOut was mid ends ways conn ends' ways' conn'
    → MovesOn NoneOut mid after ends' ways' conn' last left new → MovesOn NoneOut was after ends ways conn last left new
stays_more was mid after ends ends' last ways ways' left conn conn' new one two =
    moves_trans NoneOut NoneOut NoneOut was mid after ends ends' last ways ways' left conn conn' new
    (λ flow mid lent accepted out a b. b ∙ a) one two

-- What the last step says of all pieces is so after both.
pub moves_then : (first : Flow → ℕ → Type 0) (so where' : Type 0) (was mid after : Recorded)
    (ends ends' last : Ends Near) (ways ways' left : List ℕ) (conn conn' new : Conn) → (where' → so)
    → MovesOn first was mid ends ways conn ends' ways' conn'
    → MovesOn (AllOutWhere so) mid after ends' ways' conn' last left new
    → MovesOn (AllOutWhere where') was after ends ways conn last left new
moves_then first so where' was mid after ends ends' last ways ways' left conn conn' new from one two =
    moves_trans first (AllOutWhere so) (AllOutWhere where') was mid after ends ends' last ways ways' left conn conn' new
    (λ flow mid lent accepted out a b holds. b (from holds)) one two

-- where the condition does not hold, nothing is claimed
pub moves_unless : (first : Flow → ℕ → Type 0) (so : Type 0) (was after : Recorded) (ends last : Ends Near)
    (ways left : List ℕ) (conn new : Conn) → (so → ⊥) → MovesOn first was after ends ways conn last left new
    → MovesOn (AllOutWhere so) was after ends ways conn last left new
moves_unless first so was after ends last ways left conn new never one = record {
  moves =
      λ before flow received is carries has.
      ((one.moves before flow received is carries has).0, λ holds. absurd (never holds));
}

-- Where pieces and replies may be carried, they still may be after whatever was carried.
pub may_still : (says : Flow → ℕ → Type 0) (was after : Recorded) (ends last : Ends Near) (ways left : List ℕ)
    (conn new : Conn) → MayCarry was ends ways conn → MovesOn says was after ends ways conn last left new
    → MayCarry after last left new
may_still says was after ends last ways left conn new may moves =
    let on = (moves.moves may.before may.flow may.received may.conn_is may.carries may.as_recorded).0 in
    record {
      before = may.before;
      flow = carried may.flow on.out on.lent on.accepted;
      received = on.later;
      conn_is = on.conn_is;
      carries = on.carries;
      as_recorded = on.as_recorded;
    }

-- the ends at which nothing was sent or received
carries_still : (before ends ends' : Ends Near) (ways : List ℕ) (flow : Flow) (received : ℕ → List Shown)
    → StandsStill ends ends' → Carries before ends ways flow received → Carries before ends' ways flow received
carries_still before ends ends' ways flow received still carries =
    record {
      width = still.same.count ∙ carries.width;
      each = carries.each;
      same = same_ends-trans before ends ends' carries.same still.same;
      sent = λ s below. still.sent s ∙ carries.sent s below;
      came = λ s below. still.received s ∙ carries.came s below;
      awaited = carries.awaited;
      serves = carries.serves;
    }

-- Where nothing was sent or received at the ends, the connection goes on, and no piece has left.
pub stays_still : (recorded : Recorded) (ends ends' : Ends Near) (ways : List ℕ) (conn : Conn) → StandsStill ends ends'
    → MovesOn NoneOut recorded recorded ends ways conn ends' ways conn
unfolding on_none
stays_still recorded ends ends' ways conn still = record {
  moves =
      λ before flow received is carries has. (
        on_none recorded before flow received ends' ways conn conn is is
            (carries_still before ends ends' ways flow received still carries) has,
        refl,
      );
}

-- a request that was handed back was not sent
pub still_back : (item back : Request) (shard : ℕ) (ends ends' : Ends Near)
    → AtChannel (Sends {Out = Request} {In = Shown} {T = Request} (λ (sent : Request). sent) item (Err back)) shard ends
    ends' → AreSameEnds ends ends' → StandsStill ends ends'
still_back item back shard ends ends' at same =
    let says : Near → Near → Type 0 =
    Sends {Out = Request} {In = Shown} {T = Request} (λ (sent : Request). sent) item (Err back) in
    record {
      same = same;
      sent =
          λ s. at_channel-kept says (λ (end : Near). end.past.sent) shard s ends ends'
          (λ x y said. ap (λ p. p.sent) said.back.1) at;
      received =
          λ s. at_channel-kept says (λ (end : Near). end.past.received) shard s ends ends'
          (λ x y said. ap (λ p. p.received) said.back.1) at;
    }

-- no reply had come
pub still_none : {I : Type 0} (view : I → Shown) (shard : ℕ) (ends ends' : Ends Near)
    → AtChannel (Receives {Out = Request} {In = Shown} {T = I} view None) shard ends ends' → AreSameEnds ends ends'
    → StandsStill ends ends'
still_none {I} view shard ends ends' at same =
    let says : Near → Near → Type 0 = Receives {Out = Request} {In = Shown} {T = I} view None in
    record {
      same = same;
      sent =
          λ s. at_channel-kept says (λ (end : Near). end.past.sent) shard s ends ends'
          (λ x y said. ap (λ p. p.sent) said.none) at;
      received =
          λ s. at_channel-kept says (λ (end : Near). end.past.received) shard s ends ends'
          (λ x y said. ap (λ p. p.received) said.none) at;
    }

-- The next piece has left the connection.
abbrev pub Leaves : Conn → ℕ → Piece → Conn → Type 0
Leaves conn shard piece mid =
    (flow : Flow) → IsConn conn flow → (slice_get (all_pieces flow) flow.out ≡ Some (shard, piece))
    × IsConn mid (record flow { out = flow.out + 1; lent = true })

-- It was put back.
abbrev pub PutsBack : Conn → ℕ → Piece → Conn → Type 0
PutsBack mid shard piece new =
    (flow : Flow) (before : ℕ) → IsConn mid flow → IsTrue flow.lent → flow.out ≡ before + 1
    → slice_get (all_pieces flow) before ≡ Some (shard, piece) → IsConn new (record flow { out = before; lent = false })

-- a piece is for a shard that is there
pub shard_there : (flow : Flow) (shard : ℕ) (piece : Piece) → 0 < flow.shards → slice_get (all_pieces flow) flow.out
    ≡ Some (shard, piece) → shard < flow.shards
shard_there flow shard piece some here = elim (cases_lt shard flow.shards) [
  | inl below ↦ below
  | inr beyond ↦
      let none = due_beyond flow.shards shard flow.taken some beyond in
      let found = channel_there shard (all_pieces flow) flow.out piece here in
      let P : List Piece → Type 0 = λ ps. slice_get ps (length (channel shard (take flow.out (all_pieces flow))))
      ≡ Some piece in
      let nothing : P [] = subst P none found in
      absurd (cc)
]

-- The next piece that leaves is for a shard that has a channel here, and a count of the replies awaited of it.
pub next_there : (recorded : Recorded) (ends : Ends Near) (ways : List ℕ) (conn mid : Conn) (shard : ℕ) (piece : Piece)
    → MayCarry recorded ends ways conn → Leaves conn shard piece mid → (shard < length ends.channels)
    × (shard < length ways)
next_there recorded ends ways conn mid shard piece may leaves =
    let below = shard_there may.flow shard piece (some_shards conn may.flow may.conn_is) (leaves may.flow may.conn_is).0
    in
    let width = may.carries.width in
    let each = may.carries.each in
    (omega (arith, below, width), omega (arith, below, each))

-- no piece is left
pub none_left : (so : Type 0) (recorded : Recorded) (ends : Ends Near) (ways : List ℕ) (conn new : Conn)
    → ((flow : Flow) → IsConn conn flow → (flow.out ≡ length (all_pieces flow)) × IsConn new flow)
    → MovesOn (AllOutWhere so) recorded recorded ends ways conn ends ways new
unfolding on_none
none_left so recorded ends ways conn new says = record {
  moves = λ before flow received is carries has.
      let said = says flow is in
      (on_none recorded before flow received ends ways conn new is said.1 carries has, λ _. said.0);
}

-- What was recorded is so still, however many pieces have left.
abbrev pub StaysRecorded : Recorded → Recorded → Type 0
StaysRecorded was after =
    (before : Ends Near) (flow : Flow) (received : ℕ → List Shown) (out : ℕ) (lent : Bool) → was before flow received
    → after before (carried flow out lent flow.accepted) received

-- the next piece could not be sent, and was put back
pub back_again : (so : Type 0) (was after : Recorded) (ends ends' : Ends Near) (ways : List ℕ) (conn mid new : Conn)
    (shard : ℕ) (piece : Piece) → (so → ⊥) → StaysRecorded was after → StandsStill ends ends'
    → Leaves conn shard piece mid → PutsBack mid shard piece new
    → MovesOn (AllOutWhere so) was after ends ways conn ends' ways new
back_again so was after ends ends' ways conn mid new shard piece never stays still leaves back = record {
  moves = λ before flow received is carries has.
      let left = leaves flow is in (
        record {
          out = flow.out;
          lent = false;
          accepted = flow.accepted;
          later = received;
          conn_is = back (record flow { out = flow.out + 1; lent = true }) flow.out left.1 refl refl left.0;
          carries =
              let same = carries_still before ends ends' ways flow received still carries in
              record {
                width = same.width;
                each = same.each;
                same = same.same;
                sent = same.sent;
                came = same.came;
                awaited = same.awaited;
                serves = same.serves;
              };
          handed = record { within = (is_sound conn flow is).handed; same = refl };
          kept = λ s place reply h. h;
          as_recorded = stays before flow received flow.out false has;
        },
        λ holds. absurd (never holds),
      );
}

-- A piece that a channel hands back is the one that was to be sent.
pub same_piece : (item piece : Piece) (back : Request) (shard : ℕ) (ends ends' : Ends Near)
    → AtChannel (Sends {Out = Request} {In = Shown} {T = Request} (λ (sent : Request). sent) (request.Piece item)
    (Err back)) shard ends ends' → back ≡ request.Piece piece → item ≡ piece
same_piece item piece back shard ends ends' at is =
    let same : back ≡ request.Piece item = at.said.back.0 in
    cc

-- the pieces for a shard, where one more has left
channel_next : (s out : ℕ) (piece : ℕ × Piece) (all : List (ℕ × Piece)) → slice_get all out ≡ Some piece → piece.0 ≡ s
    → channel s (take (out + 1) all) ≡ channel s (take out all) ++ piece.1 ∷ []
channel_next s out piece all here same =
    ap (channel s) (take_next out all piece here)
    ∙ (channel-append s (take out all) (piece ∷ [])
    ∙ ap (λ ps. channel s (take out all) ++ ps) (channel-yes s piece [] same))

channel_else : (s out : ℕ) (piece : ℕ × Piece) (all : List (ℕ × Piece)) → slice_get all out ≡ Some piece → piece.0 ≢ s
    → channel s (take (out + 1) all) ≡ channel s (take out all)
channel_else s out piece all here other =
    ap (channel s) (take_next out all piece here)
    ∙ (channel-append s (take out all) (piece ∷ [])
    ∙ (ap (λ ps. channel s (take out all) ++ ps) (channel-no s piece [] other) ∙ append-nil (channel s (take out all))))

channel_within : (s out : ℕ) (all : List (ℕ × Piece)) → length (channel s (take out all)) ≤ length (channel s all)
channel_within s out all =
    let whole : length (channel s all) ≡ length (channel s (take out all) ++ channel s (drop out all)) =
    ap length (ap (channel s) (sym (take-append-drop out all)) ∙ channel-append s (take out all) (drop out all)) in
    omega (arith, whole, length-append (channel s (take out all)) (channel s (drop out all)))

-- what is at a place of the counts, of which one was set
count_same : (ways : List ℕ) (s count c was : ℕ) → slice_get ways s ≡ Some was → slice_get (slice_set ways s count) s
    ≡ Some c → c ≡ count
count_same ways s count c was here set = same_Some c count (sym set ∙ get-set_same ways s was count here)

-- the next piece was sent
carries_sent : (before ends ends' : Ends Near) (ways : List ℕ) (flow : Flow) (received : ℕ → List Shown)
    (shard count was : ℕ) (piece : Piece) → slice_get ways shard ≡ Some was → count ≡ was + 1
    → AtChannel (Sends {Out = Request} {In = Shown} {T = Request} (λ (sent : Request). sent) (request.Piece piece)
    (Ok tt)) shard ends ends' → AreSameEnds ends ends' → slice_get (all_pieces flow) flow.out ≡ Some (shard, piece)
    → Carries before ends ways flow received
    → Carries before ends' (slice_set ways shard count) (carried flow (flow.out + 1) true flow.accepted) received
carries_sent before ends ends' ways flow received shard count was piece counted more at same here carries =
    let says : Near → Near → Type 0 =
    Sends {Out = Request} {In = Shown} {T = Request} (λ (sent : Request). sent) (request.Piece piece) (Ok tt) in
    let later : Flow = carried flow (flow.out + 1) true flow.accepted in
    let longer : sent_on ends' shard ≡ sent_on ends shard ++ request.Piece piece ∷ [] =
    at_channel-longer says (λ (end : Near). end.past.sent) shard (request.Piece piece ∷ []) ends ends'
    (λ x y said. ap (λ p. p.sent) said.sent) at in
    let next : sent_to later shard ≡ sent_to flow shard ++ piece ∷ [] =
    channel_next shard flow.out (shard, piece) (all_pieces flow) here refl in
    record {
      width = same.count ∙ carries.width;
      each = length-slice_set ways shard count ∙ carries.each;
      same = same_ends-trans before ends ends' carries.same same;
      sent = λ s below. elim (cases_eq s shard) [
        | inl is ↦
            rw is
            (longer ∙ (ap (λ ps. ps ++ request.Piece piece ∷ []) (carries.sent shard (rw (← is) below))
            ∙ (append_assoc (sent_on before shard) (map request.Piece (sent_to flow shard)) (request.Piece piece ∷ [])
            ∙ ap (λ ps. sent_on before shard ++ ps)
            (sym (ap (map request.Piece) next ∙ map-append request.Piece (sent_to flow shard) (piece ∷ []))))))
        | inr other ↦
            at_channel-other says (λ (end : Near). end.past.sent) shard s ends ends' at other
            ∙ (carries.sent s below ∙ ap (λ ps. sent_on before s ++ map request.Piece ps)
            (sym (channel_else s flow.out (shard, piece) (all_pieces flow) here (λ e. other (sym e)))))
      ];
      came =
          λ s below. at_channel-kept says (λ (end : Near). end.past.received) shard s ends ends'
          (λ x y said. ap (λ p. p.received) said.sent) at ∙ carries.came s below;
      awaited = λ s c found. elim (cases_eq s shard) [
        | inl is ↦
            let there : slice_get (slice_set ways shard count) shard ≡ Some c =
            ap (λ k. slice_get (slice_set ways shard count) k) (sym is) ∙ found in
            let now = count_same ways shard count c was counted there in
            let old = carries.awaited shard was counted in
            let long = ap length next in
            rw is (omega (arith, now, more, old, long, length-append (sent_to flow shard) (piece ∷ [])))
        | inr other ↦
            let old = carries.awaited s c (sym (get-set_other ways shard s count other) ∙ found) in
            let long = ap length (channel_else s flow.out (shard, piece) (all_pieces flow) here (λ e. other (sym e))) in
            omega (arith, old, long)
      ];
      serves = carries.serves;
    }

-- A piece that has left the connection and was sent on its channel is one more of which a reply is awaited there.
pub sent_one : (so : Type 0) (was after : Recorded) (ends ends' : Ends Near) (ways : List ℕ) (conn mid : Conn)
    (shard count few : ℕ) (piece : Piece) → (so → ⊥) → StaysRecorded was after → slice_get ways shard ≡ Some few → count
    ≡ few + 1 → AtChannel (Sends {Out = Request} {In = Shown} {T = Request} (λ (sent : Request). sent)
    (request.Piece piece) (Ok tt)) shard ends ends' → AreSameEnds ends ends' → Leaves conn shard piece mid
    → MovesOn (AllOutWhere so) was after ends ways conn ends' (slice_set ways shard count) mid
sent_one so was after ends ends' ways conn mid shard count few piece never stays counted more at same leaves = record {
  moves = λ before flow received is carries has.
      let left = leaves flow is in (
        record {
          out = flow.out + 1;
          lent = true;
          accepted = flow.accepted;
          later = received;
          conn_is = left.1;
          carries =
              carries_sent before ends ends' ways flow received shard count few piece counted more at same left.0
              carries;
          handed = record { within = (is_sound conn flow is).handed; same = refl };
          kept = λ s place reply h. h;
          as_recorded = stays before flow received (flow.out + 1) true has;
        },
        λ holds. absurd (never holds),
      );
}

-- what was received, with one reply more from a shard
abbrev pub with_reply : (ℕ → List Shown) → ℕ → Shown → ℕ → List Shown
with_reply received shard reply = λ s. cond (s == shard) (received s ++ reply ∷ []) (received s)

receives_one : (received : ℕ → List Shown) (shard : ℕ) (reply : Shown)
    → ReceivesFromShard received shard reply (with_reply received shard reply)
receives_one received shard reply = record {
  here = ap (λ b. cond b (received shard ++ reply ∷ []) (received shard)) (eq-eqb shard shard refl);
  others = λ s other. ap (λ b. cond b (received s ++ reply ∷ []) (received s)) (ne_eqb s shard other);
}

kept_one : (received later : ℕ → List Shown) (shard : ℕ) (reply : Shown) → ReceivesFromShard received shard reply later
    → KeepsReceived received later
kept_one received later shard reply receives s place r came = elim (cases_eq s shard) [
  | inl is ↦
      let here : slice_get (received shard) place ≡ Some r = ap (λ k. slice_get (received k) place) (sym is) ∙ came in
      ap (λ k. slice_get (later k) place) is
      ∙ (ap (λ xs. slice_get xs place) receives.here ∙ get_front (received shard) (reply ∷ []) place r here)
  | inr other ↦ ap (λ xs. slice_get xs place) (receives.others s other) ∙ came
]

-- What accepting a reply says.
pub record Accepts (reply : Shown) (result : Result (Unit {0}) UnexpectedReply) (conn new : Conn) : Type 0 where
  pub ok : OnOk result ((flow : Flow) → IsConn conn flow → Expects (all_pending_replies flow) flow.accepted reply
      × IsConn new (record flow { accepted = flow.accepted ++ reply ∷ [] }))
  pub err : OnErr result ((flow : Flow) → IsConn conn flow
      → (Expects (all_pending_replies flow) flow.accepted reply → ⊥) × IsConn new flow)

-- What is recorded of a reply received from a shard that owes one: it's expected, and once it is accepted the record is
-- of that.
pub record Hears (was after : Recorded) (ends : Ends Near) (shard : ℕ) (reply : Shown) : Type 0 where
  pub accepted : (before : Ends Near) (flow : Flow) (received later : ℕ → List Shown) → was before flow received
      → shard < flow.shards → received_on ends shard ≡ received_on before shard ++ received shard
      → length (received shard) < length (due flow.shards shard flow.taken)
      → ReceivesFromShard received shard reply later
      → after before (record flow { accepted = flow.accepted ++ reply ∷ [] }) later
  pub unexpected_reply : (before : Ends Near) (flow : Flow) (received later : ℕ → List Shown) → was before flow received
      → shard < flow.shards → received_on ends shard ≡ received_on before shard ++ received shard
      → length (received shard) < length (due flow.shards shard flow.taken)
      → ReceivesFromShard received shard reply later → (Expects (all_pending_replies flow) flow.accepted reply → ⊥)
      → after before flow later

-- What is known of the replies accepted once one more was received.
record AcceptsOne (after : Recorded) (before : Ends Near) (flow : Flow) (conn : Conn) (received : ℕ → List Shown) : Type
    0 where
  accepted : List Shown
  conn_is : IsConn conn (record flow { accepted = accepted })
  serves : Serves flow.shards flow.taken accepted received
  handed : KeepsHanded flow (record flow { accepted = accepted })
  as_recorded : after before (record flow { accepted = accepted }) received

accepts_one : (was after : Recorded) (before ends : Ends Near) (flow : Flow) (conn new : Conn) (shard : ℕ)
    (reply : Shown) (received later : ℕ → List Shown) (result : Result (Unit {0}) UnexpectedReply) → IsConn conn flow
    → Serves flow.shards flow.taken flow.accepted received
    → was before flow received → Hears was after ends shard reply → shard < flow.shards → received_on ends shard
    ≡ received_on before shard ++ received shard → length (received shard) < length (due flow.shards shard flow.taken)
    → ReceivesFromShard received shard reply later → Accepts reply result conn new
    → AcceptsOne after before flow new later
accepts_one was after before ends flow conn new shard reply received later (Ok done) is serves has hears below came owed
    receives accepts =
    let said = accepts.ok flow is in
    record {
      accepted = flow.accepted ++ reply ∷ [];
      conn_is = said.1;
      serves = serves_accept flow.shards shard flow.taken flow.accepted received later reply serves owed receives;
      handed = keeps_accept conn flow reply is said.0;
      as_recorded = hears.accepted before flow received later has below came owed receives;
    }
accepts_one was after before ends flow conn new shard reply received later (Err unexpected_reply) is serves has hears
    below came owed receives accepts =
    let said = accepts.err flow is in
    record {
      accepted = flow.accepted;
      conn_is = said.1;
      serves =
          serves_unexpected_reply flow.shards shard flow.taken flow.accepted received later reply serves owed receives
          said.0;
      handed = record { within = (is_sound conn flow is).handed; same = refl };
      as_recorded = hears.unexpected_reply before flow received later has below came owed receives said.0;
    }

-- a reply was received
carries_received : {I : Type 0} (view : I → Shown) (before ends ends' : Ends Near) (ways : List ℕ) (flow : Flow)
    (received later : ℕ → List Shown) (accepted : List Shown) (shard left was : ℕ) (reply : I) → slice_get ways shard
    ≡ Some was → was ≡ left + 1
    → AtChannel (Receives {Out = Request} {In = Shown} {T = I} view (Some reply)) shard ends ends'
    → AreSameEnds ends ends' → ReceivesFromShard received shard (view reply) later
    → Serves flow.shards flow.taken accepted later → Carries before ends ways flow received
    → Carries before ends' (slice_set ways shard left) (carried flow flow.out flow.lent accepted) later
carries_received {I} view before ends ends' ways flow received later accepted shard left was reply counted less at same
    receives serves carries =
    let says : Near → Near → Type 0 = Receives {Out = Request} {In = Shown} {T = I} view (Some reply) in
    let longer : received_on ends' shard ≡ received_on ends shard ++ view reply ∷ [] =
    at_channel-longer says (λ (end : Near). end.past.received) shard (view reply ∷ []) ends ends'
    (λ x y said. ap (λ p. p.received) said.received) at in
    record {
      width = same.count ∙ carries.width;
      each = length-slice_set ways shard left ∙ carries.each;
      same = same_ends-trans before ends ends' carries.same same;
      sent =
          λ s below. at_channel-kept says (λ (end : Near). end.past.sent) shard s ends ends'
          (λ x y said. ap (λ p. p.sent) said.received) at ∙ carries.sent s below;
      came = λ s below. elim (cases_eq s shard) [
        | inl is ↦
            rw is
            (longer ∙ (ap (λ rs. rs ++ view reply ∷ []) (carries.came shard (rw (← is) below))
            ∙ (append_assoc (received_on before shard) (received shard) (view reply ∷ [])
            ∙ ap (λ rs. received_on before shard ++ rs) (sym receives.here))))
        | inr other ↦
            at_channel-other says (λ (end : Near). end.past.received) shard s ends ends' at other
            ∙ (carries.came s below ∙ ap (λ rs. received_on before s ++ rs) (sym (receives.others s other)))
      ];
      awaited = λ s c found. elim (cases_eq s shard) [
        | inl is ↦
            let there : slice_get (slice_set ways shard left) shard ≡ Some c =
            ap (λ k. slice_get (slice_set ways shard left) k) (sym is) ∙ found in
            let now = count_same ways shard left c was counted there in
            let old = carries.awaited shard was counted in
            let long = ap length receives.here in
            rw is (omega (arith, now, less, old, long, length-append (received shard) (view reply ∷ [])))
        | inr other ↦
            let old = carries.awaited s c (sym (get-set_other ways shard s left other) ∙ found) in
            let long = ap length (receives.others s other) in
            omega (arith, old, long)
      ];
      serves = serves;
    }

-- A reply received on a channel, be it accepted or an unexpected reply, is one less that is awaited there, and no piece
-- has left.
pub received_one : {I : Type 0} (view : I → Shown) (was after : Recorded) (ends ends' : Ends Near) (ways : List ℕ)
    (conn new : Conn) (shard left many : ℕ) (reply : I) (result : Result (Unit {0}) UnexpectedReply)
    → slice_get ways shard ≡ Some many → many ≡ left + 1
    → AtChannel (Receives {Out = Request} {In = Shown} {T = I} view (Some reply)) shard ends ends'
    → AreSameEnds ends ends' → Hears was after ends shard (view reply) → Accepts (view reply) result conn new
    → MovesOn NoneOut was after ends ways conn ends' (slice_set ways shard left) new
received_one view was after ends ends' ways conn new shard left many reply result counted less at same hears accepts =
    record {
      moves = λ before flow received is carries has.
          let old = carries.awaited shard many counted in
          let each = carries.each in
          let within = slice_get_within ways shard many counted in
          let below : shard < flow.shards = omega (arith, within, each) in
          let most = channel_within shard flow.out (all_pieces flow) in
          let owed : length (received shard) < length (due flow.shards shard flow.taken) =
          omega (arith, old, less, most) in
          let receives = receives_one received shard (view reply) in
          let later = with_reply received shard (view reply) in
          let one = accepts_one was after before ends flow conn new shard (view reply) received later result is
          carries.serves has hears below (carries.came shard below) owed receives accepts in (
            record {
              out = flow.out;
              lent = flow.lent;
              accepted = one.accepted;
              later = later;
              conn_is = one.conn_is;
              carries =
                  carries_received view before ends ends' ways flow received later one.accepted shard left many reply
                  counted less at same receives one.serves carries;
              handed = one.handed;
              kept = kept_one received later shard (view reply) receives;
              as_recorded = one.as_recorded;
            },
            refl,
          );
    }
