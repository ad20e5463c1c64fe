-- What each event keeps of the law of one connection.
use Rattle.std.proofs.Common.{◌≡◌, ◌≢◌, ℕ, ◌+◌, ◌<◌, ◌≤◌, inl, inr, Bool, true, false, List, [], ◌∷◌, ◌++◌, length}
use Rattle.std.proofs.Common.{take, Some, refl, sym, ap, ◌∙◌, subst, arith, length-append}
use Rattle.std.specs.Prelude.{MatchBool}
use Rattle.std.specs.List.{slice_get}
use Rattle.std.proofs.lemmas.Bool.Decides.{eqb_tells}
use Rattle.std.proofs.lemmas.List.{length-map, map-append, take-append-le, take_all}
use Rattle.std.proofs.lemmas.Option.{slice_get_within}
use Rattle.mc_sizes.specs.Sizes.{rules_of}
use Rattle.mc_sizes.specs.declared.sizes.Sizes.{Sizes}
use Rattle.mc_ring.specs.Reply.{Shown}
use Rattle.mc_split.specs.declared.plan.Piece.{Piece}
use Rattle.mc_reader.proofs.Fronts.{begin_more}
use Rattle.mc_conn.specs.History.{MayBeTaken, Taken}
use Rattle.mc_conn.specs.Due.{due, channel, pieces, pieces_from}
use Rattle.mc_conn.specs.Fits.{Fits, IsReplyTo, ReceivesFromShard}
use Rattle.mc_conn.proofs.Places.{channel-append, channel-no, channel-yes}
use Rattle.mc_conn.proofs.Fitting.{due-append, fits_none, fits_take, next_fits, pieces_from-append}
use Rattle.mc_model.specs.Sized.{SpellFirst}
use Rattle.mc_model.specs.Log.{Entry, on_shard, pieces_in, replies_in, reply_to}
use Rattle.mc_model.specs.World.{Link, entries, new_link, sent_to}
use Rattle.mc_model.specs.Rest.{AtRest, HasWindow, IsAllReceived, IsAllSent, IsAllTaken, IsNextCommand}
use Rattle.mc_model.specs.Events.{IsTurn, one_more}
use Rattle.mc_model.specs.Law.{LinkLaw}
use Rattle.mc_model.proofs.Lists.{take_next}
use Rattle.mc_model.proofs.Logs.{on_shard-no, on_shard-yes}
use Rattle.mc_ring.proofs.Lists.{all_push}

-- The law holds of a new connection for which nothing was run.
pub new_kept : (sizes : Sizes) (seat : ℕ) → LinkLaw sizes [] (new_link seat)
new_kept sizes seat = record {
  begins = ([], refl);
  may = tt;
  served = λ s. refl;
  fits = fits_none sizes.shards;
  received = λ s. omega arith;
  given = λ s. omega arith;
  popped = λ s. omega arith;
  sent = omega arith;
  piece_ring = λ s. omega arith;
  answer_ring = λ s. omega arith;
  window = omega arith;
  handed = omega arith;
  come = λ s. omega arith;
}

-- A connection keeps the law when it is fed more bytes.
pub feed_kept : (sizes : Sizes) (own : List Entry) (link : Link) (more : List ℕ) → LinkLaw sizes own link
    → LinkLaw sizes own (record link { fed = link.fed ++ more })
feed_kept sizes own link more l = record {
  begins = begin_more (rules_of sizes) link.fed more (entries link) l.begins;
  may = l.may;
  served = l.served;
  fits = l.fits;
  received = l.received;
  given = l.given;
  popped = l.popped;
  sent = l.sent;
  piece_ring = l.piece_ring;
  answer_ring = l.answer_ring;
  window = l.window;
  handed = l.handed;
  come = l.come;
}

-- A connection keeps the law whether or not it ends or breaks.
pub end_kept : (sizes : Sizes) (own : List Entry) (link : Link) (ended broken : Bool) → LinkLaw sizes own link
    → LinkLaw sizes own (record link { ended = ended; broken = broken })
end_kept sizes own link ended broken l = record {
  begins = l.begins;
  may = l.may;
  served = l.served;
  fits = l.fits;
  received = l.received;
  given = l.given;
  popped = l.popped;
  sent = l.sent;
  piece_ring = l.piece_ring;
  answer_ring = l.answer_ring;
  window = l.window;
  handed = l.handed;
  come = l.come;
}

-- no shard ran more than is due there
pub ran_within : (sizes : Sizes) (own : List Entry) (link : Link) → LinkLaw sizes own link → (s : ℕ)
    → length (on_shard s own) ≤ length (due sizes.shards s link.taken)
ran_within sizes own link l s = let within =
    l.fits.within s in omega (arith, within, length-map (on_shard s own) reply_to)

-- A connection keeps the law when its next command is taken, where the window has room, given up only where
-- it may be.
pub take_kept : (sizes : Sizes) (own : List Entry) (link : Link) (one : Taken) → LinkLaw sizes own link
    → IsNextCommand sizes link one.entry → MayBeTaken one → HasWindow sizes link
    → LinkLaw sizes own (record link { taken = link.taken ++ one ∷ [] })
take_kept sizes own link one l next may window =
    let new : Link = record link { taken = link.taken ++ one ∷ [] } in
    let longer = length-append link.taken (one ∷ []) in
    let all = pieces_from-append sizes.shards 0 link.taken (one ∷ []) in
    let more = pieces_from sizes.shards (0 + length link.taken) (one ∷ []) in
    let sent_of = l.sent in
    let sent_same : take link.sent (pieces sizes.shards new.taken) ≡ take link.sent (pieces sizes.shards link.taken) =
    ap (λ ps. take link.sent ps) all ∙ take-append-le link.sent (pieces sizes.shards link.taken) more sent_of in
    let to_same : (s : ℕ) → sent_to sizes s link ≡ sent_to sizes s new =
    λ s. ap (λ ps. length (channel s ps)) (sym sent_same) in
    let handed_of = l.handed in
    record {
      begins =
          subst (λ es. SpellFirst sizes link.fed es) (sym (map-append (λ (t : Taken). t.entry) link.taken (one ∷ [])))
          next;
      may = all_push MayBeTaken link.taken one l.may may;
      served = λ s.
          l.served s
          ∙ sym (ap (λ ps. take (length (on_shard s own)) ps) (due-append sizes.shards s link.taken (one ∷ []))
          ∙ take-append-le (length (on_shard s own)) (due sizes.shards s link.taken) (channel s more)
          (ran_within sizes own link l s));
      fits = fits_take sizes.shards link.taken one (replies_in own) (λ s. replies_in (on_shard s own)) l.fits;
      received = l.received;
      given = l.given;
      popped = λ s. subst (λ n. length (on_shard s own) ≤ n) (to_same s) (l.popped s);
      sent = let long =
          ap length all in omega (arith, sent_of, long, length-append (pieces sizes.shards link.taken) more);
      piece_ring = λ s. subst (λ n. n ≤ length (on_shard s own) + sizes.ring) (to_same s) (l.piece_ring s);
      answer_ring = l.answer_ring;
      window = omega (arith, longer, window);
      handed = omega (arith, longer, handed_of);
      come =
          λ s. subst (λ ts. length (due sizes.shards s ts) ≤ link.received s)
          (sym (take-append-le link.handed link.taken (one ∷ []) handed_of)) (l.come s);
    }

-- A connection keeps the law when its oldest unsent piece is sent, where the ring to the shard has room.
pub send_kept : (sizes : Sizes) (own : List Entry) (link : Link) (piece : ℕ × Piece) → LinkLaw sizes own link
    → slice_get (pieces sizes.shards link.taken) link.sent ≡ Some piece
    → sent_to sizes piece.0 link < length (on_shard piece.0 own) + sizes.ring
    → LinkLaw sizes own (record link { sent = link.sent + 1 })
send_kept sizes own link piece l next room =
    let new : Link = record link { sent = link.sent + 1 } in
    let all = pieces sizes.shards link.taken in
    let grows : (s : ℕ) → channel s (take (link.sent + 1) all) ≡ channel s (take link.sent all)
    ++ channel s (piece ∷ []) = λ s.
    ap (λ ps. channel s ps) (take_next link.sent all piece next) ∙ channel-append s (take link.sent all) (piece ∷ []) in
    let long : (s : ℕ) → sent_to sizes s new ≡ sent_to sizes s link + length (channel s (piece ∷ [])) = λ s.
    ap length (grows s) ∙ length-append (channel s (take link.sent all)) (channel s (piece ∷ [])) in
    record {
      begins = l.begins;
      may = l.may;
      served = l.served;
      fits = l.fits;
      received = l.received;
      given = l.given;
      popped = λ s. let old = l.popped s in let e = long s in omega (arith, old, e);
      sent = let below = slice_get_within all link.sent piece next in omega (arith, below);
      piece_ring = λ s. elim (eqb_tells piece.0 s) [
        | inl here ↦
            let one = ap length (channel-yes s piece [] here.1) in
            let e = long s in
            let some : sent_to sizes s link < length (on_shard s own) + sizes.ring =
            subst (λ t. sent_to sizes t link < length (on_shard t own) + sizes.ring) here.1 room in
            omega (arith, one, e, some)
        | inr other ↦
            let none = ap length (channel-no s piece [] other.1) in
            let e = long s in
            let old = l.piece_ring s in
            omega (arith, none, e, old)
      ];
      answer_ring = l.answer_ring;
      window = l.window;
      handed = l.handed;
      come = l.come;
    }

-- A connection keeps the law when a shard gives the next answer that it holds, where the ring back has room.
pub give_kept : (sizes : Sizes) (own : List Entry) (link : Link) (shard : ℕ) → LinkLaw sizes own link
    → link.given shard < length (on_shard shard own) → link.given shard < link.received shard + sizes.ring
    → LinkLaw sizes own (record link { given = one_more link.given shard })
give_kept sizes own link shard l ungiven room = record {
  begins = l.begins;
  may = l.may;
  served = l.served;
  fits = l.fits;
  received = λ s. elim (eqb_tells s shard) [
    | inl here ↦ rw here.0 (let old = l.received s in omega (arith, old))
    | inr other ↦ rw other.0 (l.received s)
  ];
  given = λ s. elim (eqb_tells s shard) [
    | inl here ↦ rw here.0 (
        let some : link.given s < length (on_shard s own) =
        subst (λ t. link.given t < length (on_shard t own)) (sym here.1) ungiven in
        omega (arith, some))
    | inr other ↦ rw other.0 (l.given s)
  ];
  popped = l.popped;
  sent = l.sent;
  piece_ring = l.piece_ring;
  answer_ring = λ s. elim (eqb_tells s shard) [
    | inl here ↦ rw here.0 (
        let some : link.given s < link.received s + sizes.ring =
        subst (λ t. link.given t < link.received t + sizes.ring) (sym here.1) room in
        omega (arith, some))
    | inr other ↦ rw other.0 (l.answer_ring s)
  ];
  window = l.window;
  handed = l.handed;
  come = l.come;
}

-- A connection keeps the law when it receives one more of the answers that a shard has given.
pub receive_kept : (sizes : Sizes) (own : List Entry) (link : Link) (shard : ℕ) → LinkLaw sizes own link
    → link.received shard < link.given shard
    → LinkLaw sizes own (record link { received = one_more link.received shard })
receive_kept sizes own link shard l waiting = record {
  begins = l.begins;
  may = l.may;
  served = l.served;
  fits = l.fits;
  received = λ s. elim (eqb_tells s shard) [
    | inl here ↦ rw here.0 (
        let some : link.received s < link.given s = subst (λ t. link.received t < link.given t) (sym here.1) waiting in
        omega (arith, some))
    | inr other ↦ rw other.0 (l.received s)
  ];
  given = l.given;
  popped = l.popped;
  sent = l.sent;
  piece_ring = l.piece_ring;
  answer_ring = λ s. elim (eqb_tells s shard) [
    | inl here ↦ rw here.0 (let old = l.answer_ring s in omega (arith, old))
    | inr other ↦ rw other.0 (l.answer_ring s)
  ];
  window = l.window;
  handed = l.handed;
  come = λ s. elim (eqb_tells s shard) [
    | inl here ↦ rw here.0 (let old = l.come s in omega (arith, old))
    | inr other ↦ rw other.0 (l.come s)
  ];
}

-- A connection keeps the law when all replies whose turn has come are handed out, and no more.
pub hand_kept : (sizes : Sizes) (own : List Entry) (link : Link) (count : ℕ) → LinkLaw sizes own link
    → IsTurn sizes link count → LinkLaw sizes own (record link { handed = count })
hand_kept sizes own link count l turn =
    let more = turn.most link.handed l.handed l.come in
    let window = l.window in
    record {
      begins = l.begins;
      may = l.may;
      served = l.served;
      fits = l.fits;
      received = l.received;
      given = l.given;
      popped = l.popped;
      sent = l.sent;
      piece_ring = l.piece_ring;
      answer_ring = l.answer_ring;
      window = omega (arith, more, window);
      handed = turn.within;
      come = turn.come;
    }

-- A connection keeps the law when a shard runs the next piece that is due there, where it was sent.
pub pop_kept : (sizes : Sizes) (own : List Entry) (link : Link) (entry : Entry) → LinkLaw sizes own link
    → slice_get (due sizes.shards entry.shard link.taken) (length (on_shard entry.shard own)) ≡ Some entry.piece
    → length (on_shard entry.shard own) < sent_to sizes entry.shard link → LinkLaw sizes (own ++ entry ∷ []) link
pop_kept sizes own link entry l next waiting =
    let now = own ++ entry ∷ [] in
    let here = entry.shard in
    let more : on_shard here now ≡ on_shard here own ++ entry ∷ [] = on_shard-yes here own entry refl in
    let long : length (on_shard here now) ≡ length (on_shard here own) + 1 = ap length more
    ∙ length-append (on_shard here own) (entry ∷ []) in
    let others : (s : ℕ) → here ≢ s → on_shard s now ≡ on_shard s own = λ s other. on_shard-no s own entry other in
    let old : ℕ → List Shown = λ s. replies_in (on_shard s own) in
    let new : ℕ → List Shown = λ s. replies_in (on_shard s now) in
    let grows : (s : ℕ) → length (on_shard s own) ≤ length (on_shard s now) = λ s. elim (eqb_tells here s) [
      | inl same ↦ subst (λ t. length (on_shard t own) ≤ length (on_shard t now)) same.1 (omega (arith, long))
      | inr other ↦ let e = ap length (others s other.1) in omega (arith, e)
    ] in
    let served_here : pieces_in (on_shard here now)
    ≡ take (length (on_shard here now)) (due sizes.shards here link.taken) =
    ap pieces_in more
    ∙ (map-append (λ (e : Entry). e.piece) (on_shard here own) (entry ∷ [])
    ∙ (ap (λ ps. ps ++ entry.piece ∷ []) (l.served here)
    ∙ (sym (take_next (length (on_shard here own)) (due sizes.shards here link.taken) entry.piece next)
    ∙ ap (λ n. take n (due sizes.shards here link.taken)) (sym long)))) in
    let at_old : slice_get (due sizes.shards here link.taken) (length (old here)) ≡ Some entry.piece =
    ap (λ n. slice_get (due sizes.shards here link.taken) n) (length-map (on_shard here own) reply_to) ∙ next in
    let to : IsReplyTo entry.piece (reply_to entry) = record { ticket = refl; part = refl; kind = refl } in
    let receives : ReceivesFromShard old here (reply_to entry) new = record {
      here = ap replies_in more ∙ map-append reply_to (on_shard here own) (entry ∷ []);
      others = λ s other. ap replies_in (others s (λ e. other (sym e)));
    } in
    let fits_now = next_fits sizes.shards here link.taken (replies_in own) old new entry.piece (reply_to entry) l.fits
    at_old to receives in
    record {
      begins = l.begins;
      may = l.may;
      served = λ s. elim (eqb_tells here s) [
        | inl same ↦ subst (λ t. pieces_in (on_shard t now)
            ≡ take (length (on_shard t now)) (due sizes.shards t link.taken)) same.1 served_here
        | inr other ↦
            ap pieces_in (others s other.1)
            ∙ (l.served s ∙ ap (λ es. take (length es) (due sizes.shards s link.taken)) (sym (others s other.1)))
      ];
      fits =
          subst (λ accepted. Fits sizes.shards link.taken accepted new) (sym (map-append reply_to own (entry ∷ [])))
          fits_now;
      received = l.received;
      given = λ s. let a = l.given s in let b = grows s in omega (arith, a, b);
      popped = λ s. elim (eqb_tells here s) [
        | inl same ↦ subst (λ t. length (on_shard t now) ≤ sent_to sizes t link) same.1 (omega (arith, long, waiting))
        | inr other ↦ let a = l.popped s in let e = ap length (others s other.1) in omega (arith, a, e)
      ];
      sent = l.sent;
      piece_ring = λ s. let a = l.piece_ring s in let b = grows s in omega (arith, a, b);
      answer_ring = l.answer_ring;
      window = l.window;
      handed = l.handed;
      come = l.come;
    }

-- At rest every answer that a shard has is received.
pub all_received : (sizes : Sizes) (own : List Entry) (link : Link) → LinkLaw sizes own link → AtRest sizes link
    → (s : ℕ) → length (on_shard s own) ≤ link.received s
all_received sizes own link l rest s =
    let within = ran_within sizes own link l s in
    elim link.broken as (λ b. MatchBool b (IsAllSent sizes link × IsAllReceived sizes link)
    (IsAllTaken sizes link × IsAllSent sizes link × (link.handed ≡ length link.taken))
    → length (on_shard s own) ≤ link.received s) [
      | true ↦ λ r. let all = r.1 s in omega (arith, all, within)
      | false ↦ λ r.
          let handed = r.2 in
          let all = ap (λ ts. length (due sizes.shards s ts)) (take_all link.handed link.taken (omega (arith, handed)))
          in
          let come = l.come s in
          omega (arith, within, all, come)
    ] rest
