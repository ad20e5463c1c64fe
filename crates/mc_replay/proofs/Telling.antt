-- The lines of the connections, one after another.
use Rattle.std.proofs.Common.{◌≡◌, ℕ, zero, suc, ◌+◌, ◌≤◌, List, [], ◌∷◌, ◌++◌, length, map, drop, ◌-◌, refl, sym, ap}
use Rattle.std.proofs.Common.{subst, ◌∙◌, append_assoc, arith, Some}
use Rattle.std.specs.List.{flat_map, slice_get}
use Rattle.std.proofs.lemmas.List.Folds.{flat_map-map}
use Rattle.std.proofs.lemmas.List.{at_drop_more}
use Rattle.std.proofs.lemmas.Option.{slice_get_within, get_or_from_slice_get}
use Rattle.mc_sizes.specs.declared.sizes.Sizes.{Sizes}
use Rattle.mc_model.specs.World.{IsLink, Link, World, empty_world}
use Rattle.mc_model.specs.Events.{Event}
use Rattle.mc_model.specs.declared.event.StepReply.{StepReply}
use Rattle.mc_model.specs.Schedule.{Leads, Schedule}
use Rattle.mc_sim.specs.Runs.{FoundMemory, done_in, is_done}
use Rattle.mc_model.specs.declared.event.StepReply.TheVariants.{Done, Idle, NoMemory}
use Rattle.mc_sim.specs.Stands.{line_of}
use Rattle.mc_sim.specs.declared.sim.LogEntry.{LogEntry}
use Rattle.mc_model.specs.Headline.{handed_bytes}
use Rattle.mc_replay.specs.Report.{connection_line, counts_line}
use Rattle.mc_replay.specs.Replay.{IsReport, connection_lines, log_line, report}
use Rattle.mc_replay.specs.Report.{entry_line}

-- the lines from a connection on start with its own
pub connection_lines-at : (sizes : Sizes) (w : World) (number : ℕ) (link : Link) → IsLink w number link
    → connection_lines sizes w number (drop number w.links)
    ≡ connection_line number link.seat (handed_bytes sizes w number link)
    ++ connection_lines sizes w (number + 1) (drop (number + 1) w.links)
connection_lines-at sizes w number link here =
    at_drop_more (connection_lines sizes w number) w.links number link (slice_get_within w.links number link here)
    ∙ ap (λ (one : Link). connection_line number one.seat (handed_bytes sizes w number one)
    ++ connection_lines sizes w (number + 1) (drop (number + 1) w.links)) (get_or_from_slice_get w.links number link
    link here)

-- a text that lacks these lines, with the first of them, lacks the others
pub connection_lines_more : (sizes : Sizes) (w : World) (number : ℕ) (link : Link) (text whole : List ℕ)
    → IsLink w number link
    → text ++ connection_lines sizes w number (drop number w.links) ≡ whole
    → (text ++ connection_line number link.seat (handed_bytes sizes w number link))
    ++ connection_lines sizes w (number + 1) (drop (number + 1) w.links) ≡ whole
connection_lines_more sizes w number link text whole here lacks =
    append_assoc text _ _ ∙ (ap (λ lines. text ++ lines) (sym (connection_lines-at sizes w number link here)) ∙ lacks)

-- as many connections as seats, and each on its seat
pub same_lengths : {A : Type 0} (f : A → ℕ) (xs : List A) (links : List Link) → map f xs ≡ map (λ link. link.seat) links
    → length xs ≡ length links
same_lengths f [] [] same = refl
same_lengths f [] (link ∷ links) same = absurd cc
same_lengths f (x ∷ xs) [] same = absurd cc
same_lengths f (x ∷ xs) (link ∷ links) same = let rest = same_lengths f xs links cc in omega (arith, rest)

-- the connection at a place, with its seat
pub link_at : {A : Type 0} (f : A → ℕ) (xs : List A) (links : List Link) (number : ℕ) (x : A) → map f xs
    ≡ map (λ link. link.seat) links → slice_get xs number ≡ Some x
    → (link : Link) × (slice_get links number ≡ Some link) × (f x ≡ link.seat)
link_at f [] [] number x same here = absurd cc
link_at f [] (link ∷ links) number x same here = absurd cc
link_at f (y ∷ ys) [] number x same here = absurd cc
link_at f (y ∷ ys) (link ∷ links) zero x same here =
    let first : y ≡ x = cc in
    let seats : f y ≡ link.seat = cc in
    (link, refl, ap f (sym first) ∙ seats)
link_at f (y ∷ ys) (link ∷ links) (suc number) x same here =
    let behind : map f ys ≡ map (λ link. link.seat) links = cc in
    link_at f ys links number x behind here

-- an event that is done counts once
is_done-le : (reply : StepReply) → is_done reply ≤ 1
is_done-le Done = omega arith
is_done-le Idle = omega arith
is_done-le NoMemory = omega arith

-- no more events are done than there are
done_in-le : (sizes : Sizes) (w : World) (events : List Event) (w' : World) (led : Leads sizes w events w')
    → done_in sizes w events w' led ≤ length events
done_in-le sizes w [] w' led = omega arith
done_in-le sizes w (event ∷ events) w' led =
    let rest = done_in-le sizes led.1 events w' led.3 in
    let one = is_done-le led.0 in
    omega (arith, rest, one)

-- the text of a world, part by part
pub report_is : (sizes : Sizes) (w : World) (done idle : ℕ) (log : List LogEntry) (begin first second third : List ℕ)
    → begin ≡ [] → first ≡ begin ++ connection_lines sizes w 0 w.links → second ≡ first ++ flat_map entry_line log
    → third ≡ second ++ counts_line done idle
    → log ≡ map line_of w.log → third ≡ report sizes w done idle
report_is sizes w done idle log begin first second third none one two three same =
    let start : first ≡ connection_lines sizes w 0 w.links = one
    ∙ ap (λ text. text ++ connection_lines sizes w 0 w.links) none in
    let entries : flat_map entry_line log ≡ flat_map log_line w.log = ap (flat_map entry_line) same
    ∙ flat_map-map entry_line line_of w.log in
    three ∙ (ap (λ text. text ++ counts_line done idle)
    (two ∙ (ap (λ text. text ++ flat_map entry_line log) start
    ∙ ap (λ lines. connection_lines sizes w 0 w.links ++ lines) entries))
    ∙ append_assoc (connection_lines sizes w 0 w.links) (flat_map log_line w.log) (counts_line done idle))

-- the report of a run
abbrev pub IsTold : Sizes → List Event → List ℕ → ℕ → ℕ → Type 0
IsTold sizes events text done idle =
    (w : World) × (led : Schedule sizes events w) × FoundMemory sizes empty_world events w led
    × (done ≡ done_in sizes empty_world events w led) × (text ≡ report sizes w done idle)

is_report : (sizes : Sizes) (events : List Event) (text : List ℕ) (done idle : ℕ) → idle ≡ length events - done
    → IsTold sizes events text done idle → IsReport sizes events text
is_report sizes events text done idle rest told =
    let most = done_in-le sizes empty_world events told.0 told.1 in
    record {
      w = told.0;
      led = told.1;
      memory = told.2;
      done = done;
      idle = idle;
      done_is = told.3;
      all = omega (arith, most, told.3, rest);
      text_is = told.4;
    }

-- the report of a run, if the events were passed on
pub is_report_of : (sizes : Sizes) (events given : List Event) (text : List ℕ) (done idle : ℕ) → given ≡ events → idle
    ≡ length events - done → IsTold sizes given text done idle → IsReport sizes events text
is_report_of sizes events given text done idle same rest told =
    is_report sizes events text done idle rest
    (subst (λ (some : List Event). IsTold sizes some text done idle) same told)
