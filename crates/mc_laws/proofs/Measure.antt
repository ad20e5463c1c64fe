-- How much is left to do, at most: each event that is done lowers it, where nothing comes in by it.
use Rattle.std.proofs.Common.{◌≡◌, ℕ, zero, suc, ◌+◌, ◌-◌, ◌*◌, ◌<◌, ◌≤◌, inl, inr, Bool, true, false, List, [], ◌∷◌}
use Rattle.std.proofs.Common.{◌++◌, length, map, drop, Some, refl, sym, ap, ◌∙◌, subst, arith, append-nil}
use Rattle.std.proofs.Common.{length-append}
use Rattle.std.specs.List.{AllByRecursion, slice_get}
use Rattle.std.proofs.lemmas.Bool.{cases_lt}
use Rattle.std.proofs.lemmas.Bool.Decides.{eqb_tells}
use Rattle.std.proofs.lemmas.List.{length-map}
use Rattle.std.proofs.lemmas.Option.{same_Some, slice_get_within}
use Rattle.mc_command.specs.declared.command.Command.{Command}
use Rattle.mc_sizes.specs.Sizes.{AreWithin, rules_of}
use Rattle.mc_sizes.specs.declared.sizes.Sizes.{Sizes}
use Rattle.mc_reader.proofs.Fronts.{commands_begin, every_input}
use Rattle.mc_split.specs.declared.plan.Piece.{Piece}
use Rattle.mc_split.specs.Pieces.{pieces_of}
use Rattle.mc_conn.specs.History.{Taken, planned}
use Rattle.mc_conn.specs.Due.{due, channel, pieces, pieces_at, pieces_from, ticket_at}
use Rattle.mc_conn.proofs.Counting.{due_beyond}
use Rattle.mc_conn.proofs.Fitting.{due-append, pieces_from-append}
use Rattle.mc_model.specs.Sized.{SpellAll}
use Rattle.mc_model.specs.Log.{Entry, of_asker, on_shard}
use Rattle.mc_model.specs.World.{IsLink, Link, World, entries, ran, with_entry, with_link}
use Rattle.mc_model.specs.Rest.{IsNextCommand}
use Rattle.mc_model.specs.Events.{Event, one_more}
use Rattle.mc_model.specs.Events.Event.{Open, Feed, Take, Send, Pop, Give, Receive, Hand, End, Break}
use Rattle.mc_model.specs.declared.event.StepReply.{StepReply}
use Rattle.mc_model.specs.Schedule.{Happens, Leads}
use Rattle.mc_model.specs.declared.event.StepReply.TheVariants.{Done, Idle, NoMemory}
use Rattle.mc_model.specs.Law.{Law, LinkLaw}
use Rattle.mc_sim.specs.Runs.{done_in, is_done}
use Rattle.mc_laws.specs.Progress.{AllAtRest, AllReplied, CanComeToRest, IsBounded, IsNoInput, IsWork, steps_of}
use Rattle.mc_laws.specs.Progress.{steps_of_all}
use Rattle.mc_model.proofs.Every.{event_kept}
use Rattle.mc_model.proofs.Follows.{headline}
use Rattle.mc_model.proofs.Links.{ran_within}
use Rattle.mc_model.proofs.Logs.{of_asker-yes, on_shard-yes, ran_push}
use Rattle.mc_laws.proofs.Summing.{at_point, over_lt, set_lowers, sum_none, sum_point, sum_le, sum_lt, sum_more}
use Rattle.mc_laws.proofs.Summing.{sum_over, sum_to}
use Rattle.mc_laws.proofs.Working.{rests_or_goes}
use Rattle.mc_split.proofs.Parts.{length-parts_from}
use Rattle.mc_reply.specs.declared.server_stats.ServerStats.{ServerStats}

-- the commands in the input that are not parsed yet
abbrev untaken : Sizes → Link → List Command
untaken sizes link = drop (length link.taken) (every_input (rules_of sizes) link.fed).0

-- what is left of the work of a shard for a connection
abbrev on_channel : Sizes → List Entry → Link → ℕ → ℕ
on_channel sizes own link s =
    3 * length (due sizes.shards s link.taken) - (length (on_shard s own) + link.given s + link.received s)

-- whether it is still to come that a connection ends, or breaks
abbrev still : Bool → ℕ
still true = 0
still false = 1

-- what is left for a connection
abbrev left_of : Sizes → List Entry → Link → ℕ
left_of sizes own link =
    steps_of sizes.shards (untaken sizes link) + (length link.taken - link.handed) +
    (length (pieces sizes.shards link.taken) - link.sent) + sum_to sizes.shards (on_channel sizes own link) + still
    link.ended + still link.broken

-- what is left for all
abbrev pub left : Sizes → World → ℕ
left sizes w = sum_over (λ k link. left_of sizes (of_asker k w.log) link) 0 w.links

-- one more piece on its shard
channel_more : (s : ℕ) (piece : ℕ × Piece) (all : List (ℕ × Piece))
    → 3 * length (channel s (piece ∷ all)) ≤ 3 * length (channel s all) + at_point piece.0 3 s
channel_more s piece all = elim (eqb_tells piece.0 s) [
  | inl here ↦ rw here.0 (omega arith)
  | inr other ↦ rw other.0 (omega arith)
]

-- Each piece is on the channel of one shard.
sum_channels : (n : ℕ) (all : List (ℕ × Piece)) → sum_to n (λ s. 3 * length (channel s all)) ≤ 3 * length all
sum_channels n [] = sum_none n
sum_channels n (piece ∷ all) =
    let rest = sum_channels n all in
    let more = sum_more n (λ s. 3 * length (channel s all)) (λ s. 3 * length (channel s (piece ∷ all)))
    (at_point piece.0 3) (λ s. channel_more s piece all) in
    let point = sum_point n piece.0 3 in
    omega (arith, rest, more, point)

-- a command that was parsed has no more pieces than the one in the input, and none if it was given up
planned_within : (shards : ℕ) (entry : Command) (moment : ℕ) (server : ServerStats) (given_up : Bool)
    → length (pieces_of shards
    (planned (record { entry = entry; moment = moment; server = server; given_up = given_up }))) ≤ length (pieces_of
    shards entry)
unfolding pieces_of
planned_within shards entry moment server true = omega arith
planned_within shards entry moment server false = omega arith

pieces_within : (shards number : ℕ) (one : Taken)
    → length (pieces_at shards number one) ≤ length (pieces_of shards one.entry)
pieces_within shards number one =
    let same = length-parts_from 0 (ticket_at number) one.moment (pieces_of shards (planned one)) in
    let fewer = planned_within shards one.entry one.moment one.server one.given_up in
    omega (arith, same, fewer)

drop_front : (xs : List Command) (n : ℕ) (x : Command) (ys : List Command) → n ≡ length xs
    → drop n ((xs ++ x ∷ []) ++ ys) ≡ x ∷ ys
drop_front [] zero x ys at = refl
drop_front [] (suc n) x ys at = absurd (omega (arith, at))
drop_front (y ∷ xs) zero x ys at = absurd (omega (arith, at))
drop_front (y ∷ xs) (suc n) x ys at = drop_front xs n x ys (omega (arith, at))

drop_all : (xs : List Command) (n : ℕ) (x : Command) (ys : List Command) → n ≡ length xs + 1
    → drop n ((xs ++ x ∷ []) ++ ys) ≡ ys
drop_all [] zero x ys at = absurd (omega (arith, at))
drop_all [] (suc zero) x ys at = refl
drop_all [] (suc (suc n)) x ys at = absurd (omega (arith, at))
drop_all (y ∷ xs) zero x ys at = absurd (omega (arith, at))
drop_all (y ∷ xs) (suc n) x ys at = drop_all xs n x ys (omega (arith, at))

-- The next command is the first of those that are not taken.
take_lowers : (sizes : Sizes) (own : List Entry) (link : Link) (one : Taken) → IsNextCommand sizes link one.entry
    → left_of sizes own (record link { taken = link.taken ++ one ∷ [] }) < left_of sizes own link
take_lowers sizes own link one next =
    let new : Link = record link { taken = link.taken ++ one ∷ [] } in
    let all = every_input (rules_of sizes) link.fed in
    let more = commands_begin (rules_of sizes) link.fed [] (entries link ++ one.entry ∷ []) all.0 next
    (rw append-nil all.1) in
    let long = length-map link.taken (λ (t : Taken). t.entry) in
    let longer = length-append link.taken (one ∷ []) in
    let old_is : untaken sizes link ≡ one.entry ∷ more.0 = ap (λ cs. drop (length link.taken) cs) (sym more.1)
    ∙ drop_front (entries link) (length link.taken) one.entry more.0 (sym long) in
    let new_is : untaken sizes new ≡ more.0 = ap (λ cs. drop (length new.taken) cs) (sym more.1)
    ∙ drop_all (entries link) (length new.taken) one.entry more.0 (omega (arith, long, longer)) in
    let old_load = ap (λ cs. steps_of sizes.shards cs) old_is in
    let new_load = ap (λ cs. steps_of sizes.shards cs) new_is in
    let extra = pieces_from sizes.shards (0 + length link.taken) (one ∷ []) in
    let extra_long = length-append (pieces_at sizes.shards (0 + length link.taken) one) [] in
    let few = pieces_within sizes.shards (0 + length link.taken) one in
    let count = ap length (pieces_from-append sizes.shards 0 link.taken (one ∷ [])) in
    let counted = length-append (pieces sizes.shards link.taken) extra in
    let channels = sum_more sizes.shards (on_channel sizes own link) (on_channel sizes own new)
    (λ s. 3 * length (channel s extra)) (λ s.
    let both = ap length (due-append sizes.shards s link.taken (one ∷ [])) in
    let parts = length-append (due sizes.shards s link.taken) (channel s extra) in
    omega (arith, both, parts)) in
    let few_channels = sum_channels sizes.shards extra in
    omega (arith, old_load, new_load, count, counted, extra_long, few, longer, channels, few_channels)

send_lowers : (sizes : Sizes) (own : List Entry) (link : Link) → link.sent < length (pieces sizes.shards link.taken)
    → left_of sizes own (record link { sent = link.sent + 1 }) < left_of sizes own link
send_lowers sizes own link unsent = omega (arith, unsent)

hand_lowers : (sizes : Sizes) (own : List Entry) (link : Link) (count : ℕ) → link.handed < count
    → count ≤ length link.taken → left_of sizes own (record link { handed = count }) < left_of sizes own link
hand_lowers sizes own link count more within = omega (arith, more, within)

-- of what is due at a shard all is there
pub there_is : (sizes : Sizes) (link : Link) (s : ℕ) → 0 < sizes.shards → 0 < length (due sizes.shards s link.taken)
    → s < sizes.shards
there_is sizes link s some due_there = elim (cases_lt s sizes.shards) [
  | inl below ↦ below
  | inr beyond ↦ let none =
      ap length (due_beyond sizes.shards s link.taken some beyond) in absurd (omega (arith, none, due_there))
]

give_lowers : (sizes : Sizes) (own : List Entry) (link : Link) (s : ℕ) → 0 < sizes.shards → LinkLaw sizes own link
    → link.given s < length (on_shard s own)
    → left_of sizes own (record link { given = one_more link.given s }) < left_of sizes own link
give_lowers sizes own link s some l ungiven =
    let new : Link = record link { given = one_more link.given s } in
    let within = ran_within sizes own link l s in
    let received = l.received s in
    let channels = sum_lt sizes.shards (on_channel sizes own link) (on_channel sizes own new) s
    (λ t. elim (eqb_tells t s) [
      | inl here ↦ rw here.0 (omega arith)
      | inr other ↦ rw other.0 (omega arith)
    ]) (there_is sizes link s some (omega (arith, within, ungiven))) (elim (eqb_tells s s) [
      | inl here ↦ rw here.0 (omega (arith, within, ungiven, received))
      | inr other ↦ absurd (other.1 refl)
    ]) in
    omega (arith, channels)

receive_lowers : (sizes : Sizes) (own : List Entry) (link : Link) (s : ℕ) → 0 < sizes.shards → LinkLaw sizes own link
    → link.received s < link.given s
    → left_of sizes own (record link { received = one_more link.received s }) < left_of sizes own link
receive_lowers sizes own link s some l waits =
    let new : Link = record link { received = one_more link.received s } in
    let within = ran_within sizes own link l s in
    let given = l.given s in
    let channels = sum_lt sizes.shards (on_channel sizes own link) (on_channel sizes own new) s
    (λ t. elim (eqb_tells t s) [
      | inl here ↦ rw here.0 (omega arith)
      | inr other ↦ rw other.0 (omega arith)
    ]) (there_is sizes link s some (omega (arith, within, waits, given))) (elim (eqb_tells s s) [
      | inl here ↦ rw here.0 (omega (arith, within, waits, given))
      | inr other ↦ absurd (other.1 refl)
    ]) in
    omega (arith, channels)

-- The shard ran one more for the connection, and no less on any.
pop_lowers : (sizes : Sizes) (old new : List Entry) (link : Link) (s : ℕ) → 0 < sizes.shards → LinkLaw sizes old link
    → length (on_shard s old) < length (due sizes.shards s link.taken) → length (on_shard s new)
    ≡ length (on_shard s old) + 1 → ((t : ℕ) → length (on_shard t old) ≤ length (on_shard t new))
    → left_of sizes new link < left_of sizes old link
pop_lowers sizes old new link s some l waits more grows =
    let given = l.given s in
    let received = l.received s in
    let channels = sum_lt sizes.shards (on_channel sizes old link) (on_channel sizes new link) s
    (λ t. let g = grows t in omega (arith, g))
    (there_is sizes link s some (omega (arith, waits))) (omega (arith, waits, more, given, received)) in
    omega (arith, channels)

-- A piece that is run is one more that its shard has run for its connection.
pub ran_here : (log : List Entry) (entry : Entry) (k s : ℕ) → entry.asker ≡ k → entry.shard ≡ s
    → length (on_shard s (of_asker k (log ++ entry ∷ []))) ≡ length (on_shard s (of_asker k log)) + 1
ran_here log entry k s asks on =
    ap (λ es. length (on_shard s es)) (of_asker-yes k log entry asks)
    ∙ (ap length (on_shard-yes s (of_asker k log) entry on) ∙ length-append (on_shard s (of_asker k log)) (entry ∷ []))

-- one connection changed
link_lowers : (sizes : Sizes) (w : World) (k : ℕ) (link new : Link) → IsLink w k link
    → left_of sizes (of_asker k w.log) new < left_of sizes (of_asker k w.log) link
    → left sizes (with_link w k new) < left sizes w
link_lowers sizes w k link new here less =
    let at : 0 + k ≡ k = omega arith in
    set_lowers (λ j (one : Link). left_of sizes (of_asker j w.log) one) 0 w.links k link new here
    (subst (λ j. left_of sizes (of_asker j w.log) new < left_of sizes (of_asker j w.log) link) (sym at) less)

-- a shard ran a piece
entry_lowers : (sizes : Sizes) (w : World) (s k : ℕ) (link : Link) (entry : Entry) → 0 < sizes.shards → Law sizes w
    → IsLink w k link → entry.asker ≡ k → entry.shard ≡ s → ran w k s < length (due sizes.shards s link.taken)
    → left sizes (with_entry w entry) < left sizes w
entry_lowers sizes w s k link entry some l here asks on waits =
    let old_of : ℕ → Link → ℕ = λ j one. left_of sizes (of_asker j w.log) one in
    let new_of : ℕ → Link → ℕ = λ j one. left_of sizes (of_asker j (w.log ++ entry ∷ [])) one in
    let at : 0 + k ≡ k = omega arith in
    let grows : (j t : ℕ) → length (on_shard t (of_asker j w.log)) ≤ length
    (on_shard t (of_asker j (w.log ++ entry ∷ []))) = λ j t. elim (ran_push w.log entry j t) [
      | inl more ↦ let e = more.2 in omega (arith, e)
      | inr same ↦ omega (arith, same)
    ] in
    let no_more : (j : ℕ) (one : Link) → new_of j one ≤ old_of j one = λ j one.
    let channels = sum_le sizes.shards (on_channel sizes (of_asker j w.log) one)
    (on_channel sizes (of_asker j (w.log ++ entry ∷ [])) one) (λ t. let g = grows j t in omega (arith, g)) in
    omega (arith, channels) in
    let one_more_run : length (on_shard s (of_asker k (w.log ++ entry ∷ [])))
    ≡ length (on_shard s (of_asker k w.log)) + 1 = ran_here w.log entry k s asks on in
    let less = pop_lowers sizes (of_asker k w.log) (of_asker k (w.log ++ entry ∷ [])) link s some (l.links k link here)
    waits one_more_run (grows k) in
    over_lt old_of new_of 0 w.links k link here (λ i one at_i. no_more (0 + i) one)
    (subst (λ j. new_of j link < old_of j link) (sym at) less)

end_lowers : (sizes : Sizes) (own : List Entry) (link : Link) → link.ended ≡ false
    → left_of sizes own (record link { ended = true }) < left_of sizes own link
end_lowers sizes own link goes_on = let one = ap still goes_on in omega (arith, one)

break_lowers : (sizes : Sizes) (own : List Entry) (link : Link) → link.broken ≡ false
    → left_of sizes own (record link { broken = true }) < left_of sizes own link
break_lowers sizes own link whole = let one = ap still whole in omega (arith, one)

-- Each event that is done lowers what is left, where nothing comes in by it.
pub inside_lowers : (sizes : Sizes) (w : World) (event : Event) (w' : World) → 0 < sizes.shards → Law sizes w
    → IsNoInput event → Happens sizes w event Done w' → left sizes w' < left sizes w
inside_lowers sizes w (Open seat) w' some l work h = absurd work
inside_lowers sizes w (Feed seat bytes) w' some l work h = absurd work
inside_lowers sizes w (Take seat moment) w' some l work h =
    let k = h.0 in
    let link = h.1 in
    let one = h.3.0 in
    subst (λ v. left sizes v < left sizes w) (sym h.3.2)
    (link_lowers sizes w k link (record link { taken = link.taken ++ one ∷ [] }) h.2.0.here
    (take_lowers sizes (of_asker k w.log) link one h.3.1.next))
inside_lowers sizes w (Send seat) w' some l work h =
    let k = h.0 in
    let link = h.1 in
    let unsent = slice_get_within (pieces sizes.shards link.taken) link.sent h.2.1.piece h.2.1.next in
    subst (λ v. left sizes v < left sizes w) (sym h.3)
    (link_lowers sizes w k link (record link { sent = link.sent + 1 }) h.2.0.here
    (send_lowers sizes (of_asker k w.log) link unsent))
inside_lowers sizes w (Pop shard seat) w' some l work h =
    let k = h.0 in
    let link = h.1 in
    let entry = h.3.0 in
    let runs = h.3.1 in
    let waits = slice_get_within (due sizes.shards shard link.taken) (ran w k shard) entry.piece runs.next in
    subst (λ v. left sizes v < left sizes w) (sym h.3.2)
    (entry_lowers sizes w shard k link entry some l h.2.0.here runs.asker_is runs.shard_is waits)
inside_lowers sizes w (Give shard) w' some l work h =
    let k = h.0 in
    let link = h.1 in
    subst (λ v. left sizes v < left sizes w) (sym h.3)
    (link_lowers sizes w k link (record link { given = one_more link.given shard }) h.2.0
    (give_lowers sizes (of_asker k w.log) link shard some (l.links k link h.2.0) h.2.1))
inside_lowers sizes w (Receive seat shard) w' some l work h =
    let k = h.0 in
    let link = h.1 in
    subst (λ v. left sizes v < left sizes w) (sym h.3)
    (link_lowers sizes w k link (record link { received = one_more link.received shard }) h.2.0.here
    (receive_lowers sizes (of_asker k w.log) link shard some (l.links k link h.2.0.here) h.2.1))
inside_lowers sizes w (Hand seat) w' some l work h =
    let k = h.0 in
    let link = h.1 in
    let count = h.3.0 in
    let turn = h.3.1 in
    let more = turn.most (link.handed + 1) (let less = h.2.1 in omega (arith, less)) h.2.2 in
    subst (λ v. left sizes v < left sizes w) (sym h.3.2)
    (link_lowers sizes w k link (record link { handed = count }) h.2.0.here
    (hand_lowers sizes (of_asker k w.log) link count (omega (arith, more)) turn.within))
inside_lowers sizes w (End seat) w' some l work h =
    subst (λ v. left sizes v < left sizes w) (sym h.3)
    (link_lowers sizes w h.0 h.1 (record h.1 { ended = true }) h.2.0.here
    (end_lowers sizes (of_asker h.0 w.log) h.1 h.2.1))
inside_lowers sizes w (Break seat) w' some l work h =
    subst (λ v. left sizes v < left sizes w) (sym h.3)
    (link_lowers sizes w h.0 h.1 (record h.1 { broken = true }) h.2.0.here
    (break_lowers sizes (of_asker h.0 w.log) h.1 h.2.1))

-- While nothing comes in no more events are done than are left.
pub at_most : (sizes : Sizes) (w : World) (events : List Event) (later : World) → 0 < sizes.shards → Law sizes w
    → (led : Leads sizes w events later) → AllByRecursion IsNoInput events
    → done_in sizes w events later led + left sizes later ≤ left sizes w
at_most sizes w [] later some l led work = let same = ap (λ v. left sizes v) led in omega (arith, same)
at_most sizes w (event ∷ events) later some l led work =
    let rest = at_most sizes led.1 events later some (event_kept sizes w event led.0 led.1 some led.2 l) led.3 work.1 in
    step led.0 led.1 led.2 led.3 rest
  where
    step : (reply : StepReply) (mid : World) → Happens sizes w event reply mid → (led : Leads sizes mid events later)
        → done_in sizes mid events later led + left sizes later ≤ left sizes mid
        → is_done reply + done_in sizes mid events later led + left sizes later ≤ left sizes w
    step Done mid h led rest = let less = inside_lowers sizes w event mid some l work.0 h in omega (arith, less, rest)
    step Idle mid h led rest = let same = ap (λ v. left sizes v) h.1 in omega (arith, same, rest)
    step NoMemory mid h led rest = let same = ap (λ v. left sizes v) h.1 in omega (arith, same, rest)

steps_join : (shards : ℕ) (xs ys : List Command) → steps_of shards (xs ++ ys) ≡ steps_of shards xs + steps_of shards ys
steps_join shards [] ys = omega arith
steps_join shards (x ∷ xs) ys = let rest = steps_join shards xs ys in omega (arith, rest)

-- the steps for what was taken
taken_within : (shards number : ℕ) (taken : List Taken)
    → 2 * length taken + 4 * length (pieces_from shards number taken) ≤ steps_of shards
    (map (λ (one : Taken). one.entry) taken)
taken_within shards number [] = omega arith
taken_within shards number (one ∷ later) =
    let rest = taken_within shards (number + 1) later in
    let few = pieces_within shards number one in
    let long = length-append (pieces_at shards number one) (pieces_from shards (number + 1) later) in
    omega (arith, rest, few, long)

drop_these : (xs : List Command) (n : ℕ) (ys : List Command) → n ≡ length xs → drop n (xs ++ ys) ≡ ys
drop_these [] zero ys at = refl
drop_these [] (suc n) ys at = absurd (omega (arith, at))
drop_these (x ∷ xs) zero ys at = absurd (omega (arith, at))
drop_these (x ∷ xs) (suc n) ys at = drop_these xs n ys (omega (arith, at))

still_within : (b : Bool) → still b ≤ 1
still_within true = omega arith
still_within false = omega arith

-- all commands in the input of a connection
abbrev pub spelled_by : Sizes → Link → List Command
spelled_by sizes link = (every_input (rules_of sizes) link.fed).0

link_within : (sizes : Sizes) (own : List Entry) (link : Link) → LinkLaw sizes own link
    → left_of sizes own link ≤ 2 + steps_of sizes.shards (spelled_by sizes link)
link_within sizes own link l =
    let all = every_input (rules_of sizes) link.fed in
    let more = commands_begin (rules_of sizes) link.fed [] (entries link) all.0 l.begins (rw append-nil all.1) in
    let long = length-map link.taken (λ (t : Taken). t.entry) in
    let rest : untaken sizes link ≡ more.0 = ap (λ cs. drop (length link.taken) cs) (sym more.1)
    ∙ drop_these (entries link) (length link.taken) more.0 (sym long) in
    let rest_steps = ap (λ cs. steps_of sizes.shards cs) rest in
    let parts : steps_of sizes.shards (spelled_by sizes link)
    ≡ steps_of sizes.shards (entries link) + steps_of sizes.shards more.0 =
    ap (λ cs. steps_of sizes.shards cs) (sym more.1) ∙ steps_join sizes.shards (entries link) more.0 in
    let taken = taken_within sizes.shards 0 link.taken in
    let channels = sum_le sizes.shards (λ s. 3 * length (due sizes.shards s link.taken)) (on_channel sizes own link)
    (λ s. omega arith) in
    let few = sum_channels sizes.shards (pieces sizes.shards link.taken) in
    let ends = still_within link.ended in
    let breaks = still_within link.broken in
    omega (arith, rest_steps, parts, taken, channels, few, ends, breaks)

over_within : (sizes : Sizes) (log : List Entry) (number : ℕ) (links : List Link)
    → ((i : ℕ) (link : Link) → slice_get links i ≡ Some link → LinkLaw sizes (of_asker (number + i) log) link)
    → sum_over (λ k link. left_of sizes (of_asker k log) link) number links ≤ steps_of_all sizes.shards
    (map (spelled_by sizes) links)
over_within sizes log number [] each = omega arith
over_within sizes log number (link ∷ links) each =
    let at : number + 0 ≡ number = omega arith in
    let here = link_within sizes (of_asker number log) link
    (subst (λ n. LinkLaw sizes (of_asker n log) link) at (each 0 link refl)) in
    let rest = over_within sizes log (number + 1) links
    (λ i one at_i. let e : number + suc i ≡ number + 1 + i = omega arith in
    subst (λ n. LinkLaw sizes (of_asker n log) one) e (each (suc i) one at_i)) in
    omega (arith, here, rest)

spelled_at : (sizes : Sizes) (links : List Link) (k : ℕ) (link : Link) (own : List Command) → slice_get links k
    ≡ Some link → slice_get (map (spelled_by sizes) links) k ≡ Some own → SpellAll sizes link.fed own
spelled_at sizes [] k link own here at = absurd (cc)
spelled_at sizes (first ∷ links) zero link own here at =
    let same = same_Some first link here in
    let these = same_Some (spelled_by sizes first) own at in
    subst (λ cs. SpellAll sizes link.fed cs) these
    (subst (λ (x : Link). SpellAll sizes x.fed (spelled_by sizes first)) same
    (every_input (rules_of sizes) first.fed).1)
spelled_at sizes (first ∷ links) (suc k) link own here at = spelled_at sizes links k link own here at

-- No more is left than there are steps for what is spelled.
pub left_within : (sizes : Sizes) (w : World) → Law sizes w
    → left sizes w ≤ steps_of_all sizes.shards (map (spelled_by sizes) w.links)
left_within sizes w l =
    over_within sizes w.log 0 w.links
    (λ i link here. let at : i ≡ 0 + i = omega arith in
    subst (λ n. LinkLaw sizes (of_asker n w.log) link) at (l.links i link here))

-- From a lawful world, while nothing comes in, no more is done than there are steps for the commands that are
-- spelled.
pub is_bounded : (sizes : Sizes) (w : World) → 0 < sizes.shards → Law sizes w → IsBounded sizes w
is_bounded sizes w some l =
    let few = left_within sizes w l in
    record {
      commands = map (spelled_by sizes) w.links;
      of_each = length-map w.links (spelled_by sizes);
      spelled = λ k link own here at. spelled_at sizes w.links k link own here at;
      most = λ events later led inside. let done =
          at_most sizes w events later some l led inside in omega (arith, done, few);
    }

-- What the parts do by themselves lets nothing in.
pub work_inside : (event : Event) → IsWork event → IsNoInput event
work_inside (Open seat) work = absurd work
work_inside (Feed seat bytes) work = absurd work
work_inside (Take seat moment) work = tt
work_inside (Send seat) work = tt
work_inside (Pop shard seat) work = tt
work_inside (Give shard) work = tt
work_inside (Receive seat shard) work = tt
work_inside (Hand seat) work = tt
work_inside (End seat) work = absurd work
work_inside (Break seat) work = absurd work

-- At rest all replies are out.
pub all_replied : (sizes : Sizes) (w : World) → Law sizes w → AllAtRest sizes w → AllReplied sizes w
all_replied sizes w l rest k link here whole =
    (headline sizes w l).all_of_them_at_rest k link here whole (inl (rest k link here))

at_once : (sizes : Sizes) (w : World) → Law sizes w → AllAtRest sizes w → CanComeToRest sizes w
at_once sizes w l rest =
    record { events = []; work = tt; later = w; led = refl; rest = rest; replied = all_replied sizes w l rest }

-- If at most fuel steps are left, some run of work comes to rest.
settles_in : (fuel : ℕ) (sizes : Sizes) (w : World) → AreWithin sizes → Law sizes w → left sizes w ≤ fuel
    → CanComeToRest sizes w
settles_in zero sizes w within l few = elim (rests_or_goes sizes w within l) [
  | inl rest ↦ at_once sizes w l rest
  | inr goes ↦ let less =
      inside_lowers sizes w goes.event goes.next within.shards.0 l (work_inside goes.event goes.work) goes.happens in
      absurd (omega (arith, less, few))
]
settles_in (suc fuel) sizes w within l few = elim (rests_or_goes sizes w within l) [
  | inl rest ↦ at_once sizes w l rest
  | inr goes ↦
      let less = inside_lowers sizes w goes.event goes.next within.shards.0 l (work_inside goes.event goes.work)
      goes.happens in
      let next = settles_in fuel sizes goes.next within
      (event_kept sizes w goes.event Done goes.next within.shards.0 goes.happens l) (omega (arith, less, few)) in
      record {
        events = goes.event ∷ next.events;
        work = (goes.work, next.work);
        later = next.later;
        led = (Done, goes.next, goes.happens, next.led);
        rest = next.rest;
        replied = next.replied;
      }
]

-- From a lawful world some work leads to rest, with all replies out.
pub settles : (sizes : Sizes) (w : World) → AreWithin sizes → Law sizes w → CanComeToRest sizes w
settles sizes w within l = settles_in (left sizes w) sizes w within l (omega arith)
