-- What was handed out was run before what is still to come.
use Rattle.std.proofs.Common.{◌≡◌, ℕ, zero, suc, ◌+◌, ◌<◌, ◌≤◌, ◌⊎◌, inl, inr, List, [], ◌∷◌, ◌++◌, length, take, drop}
use Rattle.std.proofs.Common.{Some, refl, sym, ap, ◌∙◌, subst, arith, append_assoc, append-nil, length-take}
use Rattle.std.specs.List.{slice_get, AllByRecursion}
use Rattle.std.proofs.lemmas.Bool.Decides.{eqb_tells}
use Rattle.std.proofs.lemmas.List.{length-map, take-append-drop}
use Rattle.std.proofs.lemmas.Option.{same_Some, slice_get_within}
use Rattle.mc_sizes.specs.declared.sizes.Sizes.{Sizes}
use Rattle.mc_ring.specs.Reply.{Shown}
use Rattle.mc_split.specs.declared.plan.Piece.{Piece}
use Rattle.mc_conn.specs.History.{Taken}
use Rattle.mc_conn.specs.Due.{due, channel, pieces, pieces_from}
use Rattle.mc_conn.proofs.Fitting.{due-append, pieces_from-append}
use Rattle.mc_conn.proofs.Gets.{get_cases, get_front, take_get}
use Rattle.mc_conn.proofs.Places.{channel_at, channel_there, piece_at}
use Rattle.mc_model.specs.Log.{Entry, of_asker, on_shard, pieces_in, reply_to}
use Rattle.mc_model.specs.World.{IsLink, Link, World, entries}
use Rattle.mc_model.specs.Events.{Event}
use Rattle.mc_model.specs.Events.Event.{Open, Feed, Take, Send, Pop, Give, Receive, Hand, End, Break}
use Rattle.mc_model.specs.declared.event.StepReply.{StepReply}
use Rattle.mc_model.specs.Schedule.{Happens, Leads}
use Rattle.mc_model.specs.declared.event.StepReply.TheVariants.{Done, Idle, NoMemory}
use Rattle.mc_model.specs.Law.{Law, LinkLaw}
use Rattle.mc_laws.specs.Order.{IsHandedOut, IsNotYetAsked, RunsBefore, WasRun, world_at}
use Rattle.mc_model.proofs.Every.{all_kept, event_kept}
use Rattle.mc_model.proofs.Growing.{all_grow}
use Rattle.mc_model.proofs.Lists.{all_unmap, at_once}
use Rattle.mc_ring.proofs.Lists.{all_weaken, all_append, all_at, get_below}

-- The next piece due is of no command that was handed out.
ticket_from : (sizes : Sizes) (own : List Entry) (link : Link) (s : ℕ) (p : Piece) → LinkLaw sizes own link
    → slice_get (due sizes.shards s link.taken) (length (on_shard s own)) ≡ Some p → link.handed ≤ p.ticket.0
ticket_from sizes own link s p l here =
    let first = take link.handed link.taken in
    let rest = drop link.handed link.taken in
    let behind_all = channel s (pieces_from sizes.shards (0 + length first) rest) in
    let parts : due sizes.shards s link.taken ≡ due sizes.shards s first ++ behind_all =
    ap (λ ts. due sizes.shards s ts) (sym (take-append-drop link.handed link.taken))
    ∙ due-append sizes.shards s first rest in
    let come = l.come s in
    let received = l.received s in
    let given = l.given s in
    let handed = l.handed in
    elim (get_cases (due sizes.shards s first) behind_all (length (on_shard s own)) p
    (ap (λ ps. slice_get ps (length (on_shard s own))) (sym parts) ∙ here)) [
      | inl found ↦
          let within = slice_get_within (due sizes.shards s first) (length (on_shard s own)) p found in
          absurd (omega (arith, within, come, received, given))
      | inr behind ↦
          let on = channel_at s (pieces_from sizes.shards (0 + length first) rest) behind.place p behind.here in
          let of = piece_at sizes.shards (0 + length first) rest on.place (s, p) on.here in
          let number = of.number_is in
          omega (arith, number, handed, length-take link.handed link.taken)
    ]

-- None of these entries is of a command that was handed out.
abbrev AreLater : World → List Entry → Type 0
AreLater w more =
    (k : ℕ) (link : Link) → IsLink w k link
    → AllByRecursion (λ entry. entry.asker ≡ k → link.handed ≤ entry.piece.ticket.0) more

-- The log has become longer by such entries.
record Adds (w w' : World) : Type 0 where
  more : List Entry
  log : w'.log ≡ w.log ++ more
  later : AreLater w more

adds_none : (w w' : World) → w'.log ≡ w.log → Adds w w'
adds_none w w' same = record { more = []; log = same ∙ sym (append-nil w.log); later = λ k link here. tt }

done_adds : (sizes : Sizes) (w : World) (event : Event) (w' : World) → Law sizes w → Happens sizes w event Done w'
    → Adds w w'
done_adds sizes w (Open seat) w' l h = adds_none w w' (ap (λ (v : World). v.log) h.3)
done_adds sizes w (Feed seat bytes) w' l h = adds_none w w' (ap (λ (v : World). v.log) h.3.3)
done_adds sizes w (Take seat moment) w' l h = adds_none w w' (ap (λ (v : World). v.log) h.3.2)
done_adds sizes w (Send seat) w' l h = adds_none w w' (ap (λ (v : World). v.log) h.3)
done_adds sizes w (Pop shard seat) w' l h =
    let k = h.0 in
    let link = h.1 in
    let entry = h.3.0 in
    let runs = h.3.1 in
    let from = ticket_from sizes (of_asker k w.log) link shard entry.piece (l.links k link h.2.0.here) runs.next in
    record {
      more = entry ∷ [];
      log = ap (λ (v : World). v.log) h.3.2;
      later =
          λ j other here. (
            λ asks. subst (λ (x : Link). x.handed ≤ entry.piece.ticket.0)
                (at_once w.links k j link other h.2.0.here here (sym runs.asker_is ∙ asks)) from,
            tt,
          );
    }
done_adds sizes w (Give shard) w' l h = adds_none w w' (ap (λ (v : World). v.log) h.3)
done_adds sizes w (Receive seat shard) w' l h = adds_none w w' (ap (λ (v : World). v.log) h.3)
done_adds sizes w (Hand seat) w' l h = adds_none w w' (ap (λ (v : World). v.log) h.3.2)
done_adds sizes w (End seat) w' l h = adds_none w w' (ap (λ (v : World). v.log) h.3)
done_adds sizes w (Break seat) w' l h = adds_none w w' (ap (λ (v : World). v.log) h.3)

event_adds : (sizes : Sizes) (w : World) (event : Event) (reply : StepReply) (w' : World) → Law sizes w
    → Happens sizes w event reply w' → Adds w w'
event_adds sizes w event Done w' l h = done_adds sizes w event w' l h
event_adds sizes w event Idle w' l h = adds_none w w' (ap (λ (v : World). v.log) h.1)
event_adds sizes w event NoMemory w' l h = adds_none w w' (ap (λ (v : World). v.log) h.1)

all_add : (sizes : Sizes) (w : World) (events : List Event) (later : World) → 0 < sizes.shards → Law sizes w
    → Leads sizes w events later → Adds w later
all_add sizes w [] later some l led = adds_none w later (ap (λ (v : World). v.log) led)
all_add sizes w (event ∷ events) later some l led =
    let mid = led.1 in
    let one = event_adds sizes w event led.0 mid l led.2 in
    let rest = all_add sizes mid events later some (event_kept sizes w event led.0 mid some led.2 l) led.3 in
    record {
      more = one.more ++ rest.more;
      log = rest.log ∙ (ap (λ es. es ++ rest.more) one.log ∙ append_assoc w.log one.more rest.more);
      later = λ k link here.
          let grown = all_grow sizes w (event ∷ []) mid some l (led.0, mid, led.2, refl) k link here in
          let handed = grown.handed in
          all_append (λ (entry : Entry). entry.asker ≡ k → link.handed ≤ entry.piece.ticket.0) one.more rest.more
          (one.later k link here)
          (all_weaken (λ (entry : Entry). entry.asker ≡ k → grown.later.handed ≤ entry.piece.ticket.0)
          (λ (entry : Entry). entry.asker ≡ k → link.handed ≤ entry.piece.ticket.0)
          (λ entry from asks. let more = from asks in omega (arith, more, handed)) rest.more
          (rest.later k grown.later grown.here));
    }

-- what holds of each entry of a connection
pub all_mine : (P : Entry → Type 0) (k : ℕ) (log : List Entry) → AllByRecursion P (of_asker k log)
    → AllByRecursion (λ entry. entry.asker ≡ k → P entry) log
all_mine P k [] all = tt
all_mine P k (entry ∷ log) all = elim (eqb_tells entry.asker k) [
  | inl same ↦ let both = rw same.0 at all in (λ asks. both.0, all_mine P k log both.1)
  | inr other ↦ (λ asks. absurd (other.1 asks), all_mine P k log (rw other.0 at all))
]

-- An entry of the log is of a command that was taken.
entry_taken : (sizes : Sizes) (w : World) (k : ℕ) (link : Link) (y : ℕ) (entry : Entry) → Law sizes w → IsLink w k link
    → slice_get w.log y ≡ Some entry → entry.asker ≡ k → entry.piece.ticket.0 < length link.taken
entry_taken sizes w k link y entry l here at asks =
    let own = of_asker k w.log in
    let each = all_unmap (λ (reply : Shown). reply.ticket.0 < length link.taken) reply_to own
    (l.links k link here).fits.asked in
    all_at (λ (e : Entry). e.asker ≡ k → e.piece.ticket.0 < length link.taken) w.log y entry
    (all_mine (λ (e : Entry). e.piece.ticket.0 < length link.taken) k w.log each) at asks

-- A command whose reply is out while another is not yet asked runs before it, whatever happens after.
pub ran_before : (sizes : Sizes) (w : World) (after : List Event) (later : World) (j a k b : ℕ) → 0 < sizes.shards
    → Law sizes w → Leads sizes w after later → IsHandedOut w j a → IsNotYetAsked sizes w k b
    → RunsBefore later.log j a k b
ran_before sizes w after later j a k b some l led handed to_come x y one other at_x at_y of_a of_b =
    let adds = all_add sizes w after later some l led in
    let first : x < length w.log =
    elim (get_cases w.log adds.more x one (ap (λ es. slice_get es x) (sym adds.log) ∙ at_x)) [
      | inl found ↦ slice_get_within w.log x one found
      | inr behind ↦
          let from = all_at (λ (e : Entry). e.asker ≡ j → handed.link.handed ≤ e.piece.ticket.0) adds.more behind.place
          one (adds.later j handed.link handed.here) behind.here of_a.asker in
          let number = of_a.ticket in
          let less = handed.handed in
          absurd (omega (arith, from, number, less))
    ] in
    elim (get_cases w.log adds.more y other (ap (λ es. slice_get es y) (sym adds.log) ∙ at_y)) [
      | inr behind ↦ let at = behind.at in omega (arith, first, at)
      | inl found ↦
          let owned = all_at (λ (e : Entry). (e.shard < sizes.shards) × (e.asker < length w.links)) w.log y other
          l.owned found in
          let asks = of_b.asker in
          let below = owned.1 in
          let there = get_below w.links k (omega (arith, asks, below)) in
          let link = there.0 in
          let taken = entry_taken sizes w k link y other l there.1 found asks in
          let spelled = to_come link (entries link) there.1 (l.links k link there.1).begins in
          let long = length-map link.taken (λ (t : Taken). t.entry) in
          let number = of_b.ticket in
          absurd (omega (arith, taken, spelled, long, number))
    ]

-- where an element that a filter keeps is in the list
pub record IsKept {X : Type 0} (xs : List X) (x : X) : Type 0 where
  pub place : ℕ
  pub here : slice_get xs place ≡ Some x

shift_kept : {X : Type 0} (first : X) (xs : List X) (x : X) → IsKept xs x → IsKept (first ∷ xs) x
shift_kept first xs x kept = record { place = suc kept.place; here = kept.here }

first_or : {X : Type 0} (first : X) (xs : List X) (i : ℕ) (x : X) → slice_get (first ∷ xs) i ≡ Some x → (first ≡ x)
    ⊎ ((j : ℕ) × (slice_get xs j ≡ Some x))
first_or first xs zero x here = inl (same_Some first x here)
first_or first xs (suc i) x here = inr (i, here)

-- An entry among those of a shard is in the log, and is of that shard.
pub on_there : (s : ℕ) (log : List Entry) (i : ℕ) (entry : Entry) → slice_get (on_shard s log) i ≡ Some entry
    → IsKept log entry × (entry.shard ≡ s)
on_there s [] i entry here = absurd (cc)
on_there s (first ∷ log) i entry here = elim (eqb_tells first.shard s) [
  | inl same ↦ elim (first_or first (on_shard s log) i entry (rw same.0 at here)) [
    | inl this ↦ (record { place = 0; here = ap (λ e. Some e) this }, ap (λ (e : Entry). e.shard) (sym this) ∙ same.1)
    | inr later ↦ let found = on_there s log later.0 entry later.1 in (shift_kept first log entry found.0, found.1)
  ]
  | inr other ↦ let found = on_there s log i entry (rw other.0 at here) in (shift_kept first log entry found.0, found.1)
]

asked_there : (k : ℕ) (log : List Entry) (i : ℕ) (entry : Entry) → slice_get (of_asker k log) i ≡ Some entry
    → IsKept log entry × (entry.asker ≡ k)
asked_there k [] i entry here = absurd (cc)
asked_there k (first ∷ log) i entry here = elim (eqb_tells first.asker k) [
  | inl same ↦ elim (first_or first (of_asker k log) i entry (rw same.0 at here)) [
    | inl this ↦ (record { place = 0; here = ap (λ e. Some e) this }, ap (λ (e : Entry). e.asker) (sym this) ∙ same.1)
    | inr later ↦ let found = asked_there k log later.0 entry later.1 in (shift_kept first log entry found.0, found.1)
  ]
  | inr other ↦ let found =
      asked_there k log i entry (rw other.0 at here) in (shift_kept first log entry found.0, found.1)
]

entry_of : (log : List Entry) (i : ℕ) (p : Piece) → slice_get (pieces_in log) i ≡ Some p → (entry : Entry)
    × (slice_get log i ≡ Some entry) × (entry.piece ≡ p)
entry_of [] i p here = absurd (cc)
entry_of (first ∷ log) zero p here = (first, refl, same_Some first.piece p here)
entry_of (first ∷ log) (suc i) p here = entry_of log i p here

-- Each piece of a command that was handed out was run.
pub was_run : (sizes : Sizes) (w : World) (k number : ℕ) → Law sizes w → IsHandedOut w k number
    → WasRun sizes w k number
was_run sizes w k number law handed link x piece here at is =
    let l = law.links k link here in
    let own = of_asker k w.log in
    let s = piece.0 in
    let same : handed.link ≡ link = at_once w.links k k handed.link link handed.here here refl in
    let less : number < link.handed = subst (λ (v : Link). number < v.handed) same handed.handed in
    let first = take link.handed link.taken in
    let rest = drop link.handed link.taken in
    let behind_all = pieces_from sizes.shards (0 + length first) rest in
    let parts : pieces sizes.shards link.taken ≡ pieces sizes.shards first ++ behind_all =
    ap (λ ts. pieces sizes.shards ts) (sym (take-append-drop link.handed link.taken))
    ∙ pieces_from-append sizes.shards 0 first rest in
    let there : slice_get (pieces sizes.shards first) x ≡ Some piece =
    elim (get_cases (pieces sizes.shards first) behind_all x piece (ap (λ ps. slice_get ps x) (sym parts) ∙ at)) [
      | inl found ↦ found
      | inr behind ↦
          let of = piece_at sizes.shards (0 + length first) rest behind.place piece behind.here in
          let ticket = of.number_is in
          let bound = l.handed in
          absurd (omega (arith, ticket, is, less, bound, length-take link.handed link.taken))
    ] in
    let i = length (channel s (take x (pieces sizes.shards first))) in
    let on_first : slice_get (due sizes.shards s first) i ≡ Some piece.1 =
    channel_there s (pieces sizes.shards first) x piece.1 there in
    let within = slice_get_within (due sizes.shards s first) i piece.1 on_first in
    let come = l.come s in
    let received = l.received s in
    let given = l.given s in
    let on_all : slice_get (due sizes.shards s link.taken) i ≡ Some piece.1 =
    ap (λ ts. slice_get (due sizes.shards s ts) i) (sym (take-append-drop link.handed link.taken))
    ∙ (ap (λ ps. slice_get ps i) (due-append sizes.shards s first rest)
    ∙ get_front (due sizes.shards s first) (channel s behind_all) i piece.1 on_first) in
    let among : slice_get (pieces_in (on_shard s own)) i ≡ Some piece.1 =
    ap (λ ps. slice_get ps i) (l.served s)
    ∙ take_get (length (on_shard s own)) (due sizes.shards s link.taken) i piece.1
    (omega (arith, within, come, received, given)) on_all in
    let entry = entry_of (on_shard s own) i piece.1 among in
    let on = on_there s own i entry.0 entry.1 in
    let asked = asked_there k w.log on.0.place entry.0 on.0.here in
    record {
      place = asked.0.place;
      entry = entry.0;
      here = asked.0.here;
      asker = asked.1;
      shard = on.1;
      piece_is = entry.2;
    }

-- what leads from w to a world on the way, mid, and from mid on to w'
record Parts (sizes : Sizes) (w mid w' : World) : Type 0 where
  first : List Event
  second : List Event
  led_first : Leads sizes w first mid
  led_second : Leads sizes mid second w'

parts_at : (sizes : Sizes) (w : World) (events : List Event) (w' : World) (led : Leads sizes w events w') (n : ℕ)
    → Parts sizes w (world_at sizes w events w' led n) w'
parts_at sizes w [] w' led n = record { first = []; second = []; led_first = refl; led_second = led }
parts_at sizes w (event ∷ events) w' led zero =
    record { first = []; second = event ∷ events; led_first = refl; led_second = led }
parts_at sizes w (event ∷ events) w' led (suc n) =
    let rest = parts_at sizes led.1 events w' led.3 n in
    record {
      first = event ∷ rest.first;
      second = rest.second;
      led_first = (led.0, led.1, led.2, rest.led_first);
      led_second = rest.led_second;
    }

between : (sizes : Sizes) (w : World) (events : List Event) (w' : World) (led : Leads sizes w events w') (p q : ℕ)
    → p ≤ q → (some : List Event)
    × Leads sizes (world_at sizes w events w' led p) some (world_at sizes w events w' led q)
between sizes w [] w' led p q order = ([], refl)
between sizes w (event ∷ events) w' led zero q order = let parts =
    parts_at sizes w (event ∷ events) w' led q in (parts.first, parts.led_first)
between sizes w (event ∷ events) w' led (suc p) zero order = absurd (omega (arith, order))
between sizes w (event ∷ events) w' led (suc p) (suc q) order =
    between sizes led.1 events w' led.3 p q (omega (arith, order))

-- A command whose reply was out at some point of a run runs before one that was not yet asked there, or later
-- on.
pub ran_first : (sizes : Sizes) (w : World) (events : List Event) (w' : World) (led : Leads sizes w events w')
    (p q j a k b : ℕ) → 0 < sizes.shards → Law sizes w → p ≤ q → IsHandedOut (world_at sizes w events w' led p) j a
    → IsNotYetAsked sizes (world_at sizes w events w' led q) k b → RunsBefore w'.log j a k b
ran_first sizes w events w' led p q j a k b some l order handed to_come =
    let before = parts_at sizes w events w' led p in
    let law_p = all_kept sizes w before.first (world_at sizes w events w' led p) some before.led_first l in
    let mid = between sizes w events w' led p q order in
    let law_q = all_kept sizes (world_at sizes w events w' led p) mid.0 (world_at sizes w events w' led q) some mid.1
    law_p in
    let grown = all_grow sizes (world_at sizes w events w' led p) mid.0 (world_at sizes w events w' led q) some law_p
    mid.1 j handed.link handed.here in
    let less = handed.handed in
    let more = grown.handed in
    let after = parts_at sizes w events w' led q in
    ran_before sizes (world_at sizes w events w' led q) after.second w' j a k b some law_q after.led_second
    (record { link = grown.later; here = grown.here; handed = omega (arith, less, more) }) to_come
