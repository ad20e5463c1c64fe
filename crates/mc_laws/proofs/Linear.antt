-- What a shard ran is one order of all that was asked of its keys.
use Rattle.std.proofs.Common.{◌≡◌, ℕ, zero, suc, ◌+◌, ◌<◌, inl, inr, List, [], ◌∷◌, length, Some, refl, sym, subst}
use Rattle.std.proofs.Common.{arith}
use Rattle.std.specs.Prelude.{IfSome}
use Rattle.std.specs.List.{AllByRecursion, slice_get}
use Rattle.std.proofs.lemmas.Bool.Decides.{eqb_tells}
use Rattle.std.proofs.lemmas.Option.{same_Some}
use Rattle.mc_wire.specs.Key.{place_of}
use Rattle.mc_sizes.specs.Sizes.{AreWithin}
use Rattle.mc_sizes.specs.declared.sizes.Sizes.{Sizes}
use Rattle.mc_item.specs.Kind.{key_of}
use Rattle.mc_split.specs.declared.plan.Piece.{Piece}
use Rattle.mc_reply.specs.declared.ticket.Ticket.{Ticket}
use Rattle.mc_split.specs.Pieces.{ShardOp, pieces_of}
use Rattle.mc_split.specs.Plan.{parts_from}
use Rattle.mc_split.proofs.Shards.{pieces_name}
use Rattle.mc_conn.specs.History.{Taken, planned}
use Rattle.mc_conn.specs.Due.{due, channel, pieces, pieces_at, pieces_from, ticket_at}
use Rattle.mc_model.specs.Log.{Entry, of_asker, on_shard, pieces_in}
use Rattle.mc_model.specs.World.{Link, World, empty_world}
use Rattle.mc_model.specs.Events.{Event}
use Rattle.mc_model.specs.Schedule.{Schedule}
use Rattle.mc_model.specs.Law.{Law, LinkLaw}
use Rattle.mc_model.proofs.Every.{all_kept}
use Rattle.mc_model.proofs.Follows.{headline}
use Rattle.mc_model.proofs.Lists.{all_from, all_unmap}
use Rattle.mc_model.proofs.Worlds.{at_begin}
use Rattle.mc_laws.specs.Linear.{IsAtHome, IsLinearizable}
use Rattle.mc_laws.specs.Order.{IsPieceOf, RunsBefore}
use Rattle.mc_laws.proofs.Ordering.{all_mine, on_there, ran_first, was_run}
use Rattle.mc_ring.proofs.Lists.{all_append, all_at, all_take, get_below}

-- A piece for a key is sent to the key's shard.
abbrev GoesHome : ℕ → ℕ → Piece → Type 0
GoesHome shards s piece = IfSome (key_of piece.op) (λ key. s ≡ place_of key shards)

parts_home : (shards part : ℕ) (ticket : Ticket) (moment : ℕ) (asked : List ShardOp)
    → AllByRecursion (λ one. IfSome (key_of one.op) (λ key. one.shard ≡ place_of key shards)) asked
    → AllByRecursion (λ (piece : ℕ × Piece). GoesHome shards piece.0 piece.1) (parts_from part ticket moment asked)
parts_home shards part ticket moment [] all = tt
parts_home shards part ticket moment (one ∷ asked) all = (all.0, parts_home shards (part + 1) ticket moment asked all.1)

pieces_home : (shards number : ℕ) (taken : List Taken)
    → AllByRecursion (λ (piece : ℕ × Piece). GoesHome shards piece.0 piece.1) (pieces_from shards number taken)
pieces_home shards number [] = tt
pieces_home shards number (one ∷ later) =
    all_append (λ (piece : ℕ × Piece). GoesHome shards piece.0 piece.1) (pieces_at shards number one)
    (pieces_from shards (number + 1) later)
    (parts_home shards 0 (ticket_at number) one.moment (pieces_of shards (planned one))
    (pieces_name shards (planned one)))
    (pieces_home shards (number + 1) later)

channel_home : (shards s : ℕ) (all : List (ℕ × Piece))
    → AllByRecursion (λ (piece : ℕ × Piece). GoesHome shards piece.0 piece.1) all
    → AllByRecursion (GoesHome shards s) (channel s all)
channel_home shards s [] home = tt
channel_home shards s (piece ∷ all) home = elim (eqb_tells piece.0 s) [
  | inl here ↦ rw here.0 (subst (λ t. GoesHome shards t piece.1) here.1 home.0, channel_home shards s all home.1)
  | inr other ↦ rw other.0 (channel_home shards s all home.1)
]

-- what holds of each entry of a shard
all_here : (P : Entry → Type 0) (s : ℕ) (log : List Entry) → AllByRecursion P (on_shard s log)
    → AllByRecursion (λ entry. entry.shard ≡ s → P entry) log
all_here P s [] all = tt
all_here P s (entry ∷ log) all = elim (eqb_tells entry.shard s) [
  | inl same ↦ let both = rw same.0 at all in (λ on. both.0, all_here P s log both.1)
  | inr other ↦ (λ on. absurd (other.1 on), all_here P s log (rw other.0 at all))
]

-- What a shard ran for a connection asks for keys that live there.
own_home : (sizes : Sizes) (own : List Entry) (link : Link) (s : ℕ) → LinkLaw sizes own link
    → AllByRecursion (λ entry. GoesHome sizes.shards s entry.piece) (on_shard s own)
own_home sizes own link s l =
    let due_home = channel_home sizes.shards s (pieces sizes.shards link.taken) (pieces_home sizes.shards 0 link.taken)
    in
    let first = all_take (GoesHome sizes.shards s) (length (on_shard s own)) (due sizes.shards s link.taken) due_home in
    let ran : AllByRecursion (GoesHome sizes.shards s) (pieces_in (on_shard s own)) =
    subst (λ ps. AllByRecursion (GoesHome sizes.shards s) ps) (sym (l.served s)) first in
    all_unmap (GoesHome sizes.shards s) (λ (entry : Entry). entry.piece) (on_shard s own) ran

each_home : (sizes : Sizes) (w : World) → Law sizes w → (x : ℕ) (entry : Entry) → slice_get w.log x ≡ Some entry
    → IsAtHome sizes entry
each_home sizes w l x entry here =
    let owned = all_at (λ (e : Entry). (e.shard < sizes.shards) × (e.asker < length w.links)) w.log x entry l.owned here
    in
    let k = entry.asker in
    let s = entry.shard in
    let there = get_below w.links k owned.1 in
    let home = own_home sizes (of_asker k w.log) there.0 s (l.links k there.0 there.1) in
    let mine = all_mine (λ (e : Entry). e.shard ≡ s → GoesHome sizes.shards s e.piece) k w.log
    (all_here (λ (e : Entry). GoesHome sizes.shards s e.piece) s (of_asker k w.log) home) in
    all_at (λ (e : Entry). e.asker ≡ k → e.shard ≡ s → GoesHome sizes.shards s e.piece) w.log x entry mine here refl
    refl

all_home : (sizes : Sizes) (w : World) → Law sizes w → AllByRecursion (IsAtHome sizes) w.log
all_home sizes w l = all_from (IsAtHome sizes) w.log (each_home sizes w l)

-- No entry of the one command is in a list that begins with an entry of the other, before which it would have
-- to be.
none_behind : (s : ℕ) (first : Entry) (log : List Entry) (j a k b x : ℕ) (one : Entry)
    → RunsBefore (first ∷ log) j a k b → slice_get (on_shard s log) x ≡ Some one → IsPieceOf j a one
    → IsPieceOf k b first → ⊥
none_behind s first log j a k b x one before at of_a of_b =
    let kept = on_there s log x one at in
    let less = before (suc kept.0.place) 0 one first kept.0.here refl of_a of_b in
    absurd (omega (arith, less))

-- the first entry, and what is kept of the rest
before_push : (s : ℕ) (first : Entry) (log : List Entry) (j a k b : ℕ) → RunsBefore (first ∷ log) j a k b
    → RunsBefore (on_shard s log) j a k b → RunsBefore (first ∷ on_shard s log) j a k b
before_push s first log j a k b before rest zero zero one other at_x at_y of_a of_b =
    before 0 0 one other at_x at_y of_a of_b
before_push s first log j a k b before rest zero (suc y) one other at_x at_y of_a of_b = omega arith
before_push s first log j a k b before rest (suc x) zero one other at_x at_y of_a of_b =
    absurd (none_behind s first log j a k b x one before at_x of_a
    (subst (λ e. IsPieceOf k b e) (sym (same_Some first other at_y)) of_b))
before_push s first log j a k b before rest (suc x) (suc y) one other at_x at_y of_a of_b = let less =
    rest x y one other at_x at_y of_a of_b in omega (arith, less)

behind : (first : Entry) (log : List Entry) (j a k b : ℕ) → RunsBefore (first ∷ log) j a k b → RunsBefore log j a k b
behind first log j a k b before x y one other at_x at_y of_a of_b = let less =
    before (suc x) (suc y) one other at_x at_y of_a of_b in omega (arith, less)

-- The entries of a shard are in the order of the log.
before_kept : (s : ℕ) (log : List Entry) (j a k b : ℕ) → RunsBefore log j a k b → RunsBefore (on_shard s log) j a k b
before_kept s [] j a k b before = before
before_kept s (first ∷ log) j a k b before =
    let rest = before_kept s log j a k b (behind first log j a k b before) in
    elim (eqb_tells first.shard s) [
      | inl same ↦ rw same.0 (before_push s first log j a k b before rest)
      | inr other ↦ rw other.0 rest
    ]

-- In every reachable world, the operations on a key are in one order, which explains every reply.
pub is_linearizable : (sizes : Sizes) (events : List Event) (w : World) (led : Schedule sizes events w) (key : List ℕ)
    → AreWithin sizes → IsLinearizable sizes events w led key
is_linearizable sizes events w led key within =
    let some = within.shards.0 in
    let l = all_kept sizes empty_world events w some led (at_begin sizes) in
    let facts = headline sizes w l in
    let s = place_of key sizes.shards in
    record {
      one_order = all_home sizes w l;
      lawful = facts.the_protocols_step s (omega (arith, some));
      own_order = facts.once_in_sending_order.0;
      complete = λ k number handed. was_run sizes w k number l handed;
      order_in_time =
          λ j a k b first. before_kept s w.log j a k b
          (ran_first sizes empty_world events w led first.p first.q j a k b some (at_begin sizes) first.order first.out
          first.not_yet);
      replies = facts.the_bytes_handed;
    }
