-- The headline follows from the law.
use Rattle.std.proofs.Common.{◌≡◌, ℕ, zero, suc, ◌+◌, ◌<◌, ◌≤◌, inl, inr, true, false, List, [], ◌∷◌, ◌++◌, length, map}
use Rattle.std.proofs.Common.{drop, Some, sym, ap, ◌∙◌, subst, arith}
use Rattle.std.specs.Prelude.{IsTrue, MatchBool}
use Rattle.std.specs.List.{AllByRecursion, slice_get}
use Rattle.std.proofs.lemmas.List.{length-map, take-append-drop}
use Rattle.std.proofs.lemmas.Option.{same_Some, slice_get_within}
use Rattle.mc_command.specs.declared.command.Command.{Command}
use Rattle.mc_command.specs.declared.rules.Rules.{Rules}
use Rattle.mc_sizes.specs.Sizes.{rules_of}
use Rattle.mc_sizes.specs.declared.sizes.Sizes.{Sizes}
use Rattle.mc_ring.specs.Reply.{Shown}
use Rattle.mc_split.specs.declared.plan.Piece.{Piece}
use Rattle.mc_reader.specs.Spelling.{SpellsFront, is_last}
use Rattle.mc_conn.specs.History.{IsAnswered, Taken, texts_of}
use Rattle.mc_conn.specs.Due.{due, pieces}
use Rattle.mc_conn.specs.Fits.{HasCome, Tells, counts}
use Rattle.mc_conn.proofs.Places.{piece_at}
use Rattle.mc_conn.proofs.Counting.{count_from_come}
use Rattle.mc_conn.proofs.Telling.{tells}
use Rattle.mc_model.specs.Log.{Entry, of_asker, on_shard, replies_in, reply_to}
use Rattle.mc_model.specs.World.{Link, World, entries}
use Rattle.mc_model.specs.Rest.{AtRest, IsAllReceived, IsAllSent, IsAllTaken}
use Rattle.mc_model.specs.Headline.{AreAllReplies, AreReplies, Headline, IsLast, RanAsDue, handed_bytes, history}
use Rattle.mc_model.specs.Law.{Law, LinkLaw}
use Rattle.mc_model.proofs.Lists.{all_from, all_unmap}
use Rattle.mc_ring.proofs.Lists.{all_at, all_take}

abbrev answers : List Entry → ℕ → List Shown
answers own s = replies_in (on_shard s own)

-- the answers to all that was handed out are in the log
pub come_in_log : (sizes : Sizes) (own : List Entry) (link : Link) → LinkLaw sizes own link
    → HasCome sizes.shards link.taken (counts (answers own)) link.handed
come_in_log sizes own link l s =
    let come = l.come s in
    let received = l.received s in
    let given = l.given s in
    let long = length-map (on_shard s own) reply_to in
    omega (arith, come, received, given, long)

-- By the law, the commands handed out have their replies, with the answers that the shards gave, in their
-- order.
pub flow : (sizes : Sizes) (own : List Entry) (link : Link) → LinkLaw sizes own link
    → Tells sizes.shards link.taken (replies_in own) (answers own) link.handed
flow sizes own link l =
    tells sizes.shards link.handed link.taken (replies_in own) (answers own) l.handed l.may l.fits
    (come_in_log sizes own link l)

-- By the law, the bytes handed to a connection are whole replies, one to each command, in order.
pub are_replies : (sizes : Sizes) (w : World) (k : ℕ) (link : Link) → LinkLaw sizes (of_asker k w.log) link
    → AreReplies sizes w k link
are_replies sizes w k link l =
    let own = of_asker k w.log in
    let t = flow sizes own link l in
    record {
      begins = l.begins;
      whole =
          count_from_come sizes.shards link.handed link.taken (replies_in own) (answers own) l.handed l.fits
          (come_in_log sizes own link l);
      answered = t.answered;
      bytes = t.bytes;
    }

-- where all is taken and handed out
are_all_replies : (sizes : Sizes) (w : World) (k : ℕ) (link : Link) → LinkLaw sizes (of_asker k w.log) link
    → IsAllTaken sizes link → link.handed ≡ length link.taken → AreAllReplies sizes w k link
are_all_replies sizes w k link l all handed =
    let t = flow sizes (of_asker k w.log) link l in
    record {
      commands = all;
      answered = subst (λ n. AllByRecursion (IsAnswered sizes.shards) (history sizes w k link n)) handed t.answered;
      bytes = subst (λ n. handed_bytes sizes w k link ≡ texts_of (history sizes w k link n)) handed t.bytes;
    }

at_rest : (sizes : Sizes) (w : World) (k : ℕ) (link : Link) → LinkLaw sizes (of_asker k w.log) link → link.broken
    ≡ false → AtRest sizes link → AreAllReplies sizes w k link
at_rest sizes w k link l unbroken rest =
    let all : IsAllTaken sizes link × IsAllSent sizes link × (link.handed ≡ length link.taken) =
    subst (λ b. MatchBool b (IsAllSent sizes link × IsAllReceived sizes link)
    (IsAllTaken sizes link × IsAllSent sizes link × (link.handed ≡ length link.taken))) unbroken rest in
    are_all_replies sizes w k link l all.0 all.2

served : (sizes : Sizes) (w : World) (k : ℕ) (link : Link) → LinkLaw sizes (of_asker k w.log) link
    → RanAsDue sizes w k link
served sizes w k link l s =
    let n = length (on_shard s (of_asker k w.log)) in
    let asked = due sizes.shards s link.taken in
    (drop n asked, ap (λ ps. ps ++ drop n asked) (l.served s) ∙ take-append-drop n asked)

-- a command that closes the stream is the last one in the input
last_place : (rules : Rules) (before : ℕ) (input : List ℕ) (all : List Command) (rest : List ℕ) (place : ℕ)
    (command : Command) → SpellsFront rules before input all rest → slice_get all place ≡ Some command
    → IsTrue (is_last (before + place) command) → length all ≡ place + 1
last_place rules before input [] rest place command front here last = absurd (cc)
last_place rules before input (first ∷ all) rest zero command front here last =
    let at : before + 0 ≡ before = omega arith in
    let this : is_last before first ≡ true = ap (λ n. is_last n first) (sym at)
    ∙ (ap (λ c. is_last (before + 0) c) (same_Some first command here) ∙ last) in
    let end = subst (λ b. MatchBool b ((all ≡ []) × (front.1 ≡ rest)) (SpellsFront rules (before + 1) front.1 all rest))
    this front.4 in
    let none = ap length end.0 in
    omega (arith, none)
last_place rules before input (first ∷ all) rest (suc place) command front here last =
    elim (is_last before first) as
    (λ b. MatchBool b ((all ≡ []) × (front.1 ≡ rest)) (SpellsFront rules (before + 1) front.1 all rest)
    → length (first ∷ all) ≡ suc place + 1) [
      | true ↦ λ end.
          let within = slice_get_within all place command here in
          let none = ap length end.0 in
          absurd (omega (arith, within, none))
      | false ↦ λ more.
          let at : before + suc place ≡ before + 1 + place = omega arith in
          let rest_long = last_place rules (before + 1) front.1 all rest place command more here
          (ap (λ n. is_last n command) (sym at) ∙ last) in
          omega (arith, rest_long)
    ] front.4

entry_at : (taken : List Taken) (place : ℕ) (one : Taken) → slice_get taken place ≡ Some one
    → slice_get (map (λ (t : Taken). t.entry) taken) place ≡ Some one.entry
entry_at [] place one here = absurd (cc)
entry_at (first ∷ taken) zero one here = ap (λ (t : Taken). Some t.entry) (same_Some first one here)
entry_at (first ∷ taken) (suc place) one here = entry_at taken place one here

is_last_taken : (sizes : Sizes) (w : World) (k : ℕ) (link : Link) → LinkLaw sizes (of_asker k w.log) link
    → (place : ℕ) (one : Taken) → slice_get link.taken place ≡ Some one → IsTrue (is_last place one.entry)
    → IsLast sizes w k link place
is_last_taken sizes w k link l place one here last =
    let own = of_asker k w.log in
    let at : place ≡ 0 + place = omega arith in
    let all = last_place (rules_of sizes) 0 link.fed (entries link) l.begins.0 place one.entry l.begins.1
    (entry_at link.taken place one here) (ap (λ n. is_last n one.entry) (sym at) ∙ last) in
    let long : length link.taken ≡ place + 1 = omega (arith, all, length-map link.taken (λ (t : Taken). t.entry)) in
    let handed = l.handed in
    record {
      taken = long;
      sent = all_take (λ (piece : ℕ × Piece). piece.1.ticket.0 ≤ place) link.sent (pieces sizes.shards link.taken)
          (all_from (λ (piece : ℕ × Piece). piece.1.ticket.0 ≤ place) (pieces sizes.shards link.taken) (λ x piece at_x.
          let of = piece_at sizes.shards 0 link.taken x piece at_x in
          let number = of.number_is in
          let below = slice_get_within link.taken of.place of.one of.here in
          omega (arith, number, below, long)));
      answered = all_from (λ (e : Entry). e.piece.ticket.0 ≤ place) own (λ i e at_i.
          let below = all_at (λ (x : Entry). (reply_to x).ticket.0 < length link.taken) own i e
          (all_unmap (λ (reply : Shown). reply.ticket.0 < length link.taken) reply_to own l.fits.asked) at_i in
          omega (arith, below, long));
      handed = omega (arith, handed, long);
    }

-- If the law holds of a world, the headline does: whole replies in order, each piece run once, nothing
-- after quit.
pub headline : (sizes : Sizes) (w : World) → Law sizes w → Headline sizes w
headline sizes w l = record {
  the_bytes_handed = λ k link here. are_replies sizes w k link (l.links k link here);
  all_of_them_at_rest = λ k link here unbroken rest. elim rest [
    | inl now ↦ at_rest sizes w k link (l.links k link here) unbroken now
    | inr followed ↦ at_rest sizes w k link (l.links k link here) unbroken
        (l.rested k followed.later link followed.other followed.after here followed.here followed.seat)
  ];
  once_in_sending_order = (λ k link here. served sizes w k link (l.links k link here), l.owned);
  the_protocols_step = l.lawful;
  nothing_after_quit =
      λ k link here place one at last. is_last_taken sizes w k link (l.links k link here) place one at last;
}
