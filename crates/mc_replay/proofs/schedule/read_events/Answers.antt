-- A line with an event is read as this event; a line without one is the first invalid one.
use Rattle.std.proofs.Common.{◌≡◌, ℕ, Bool, List, [], ◌∷◌, ◌++◌, Option, Some, map, option_map, append_assoc, arith, ap}
use Rattle.std.proofs.Common.{sym, ◌∙◌, if◌then◌else◌}
use Rattle.std.proofs.lemmas.List.{length-map, map-append}
use Rattle.mc_sizes.specs.declared.sizes.Sizes.{Sizes}
use Rattle.mc_model.specs.Events.{Event}
use Rattle.mc_model.specs.declared.event.Event as code
use Rattle.mc_sim.specs.Asked.{event_of as shown}
use Rattle.mc_replay.specs.Text.{words_in}
use Rattle.mc_replay.specs.Event.{event_of}
use Rattle.mc_replay.specs.Schedule.{events_in}
use Rattle.mc_replay.specs.internal.Parts.{parts_left}
use Rattle.mc_replay.proofs.schedule.read_events.Goals as goal

-- the events of all lines, from that of the next one
next_says : (sizes : Sizes) (lines left behind : List (List ℕ)) (line : List ℕ) (events : List code.Event)
    (said : Option Event)
    → events_in sizes lines ≡ map Some (map shown events) ++ events_in sizes left → left ≡ line ∷ behind
    → event_of sizes (words_in line) ≡ said
    → events_in sizes lines ≡ map Some (map shown events) ++ said ∷ events_in sizes behind
next_says sizes lines left behind line events said so_far first says =
    so_far ∙ (ap (λ (rest : List (List ℕ)). map Some (map shown events) ++ events_in sizes rest) first
    ∙ ap (λ (one : Option Event). map Some (map shown events) ++ one ∷ events_in sizes behind) says)

-- these lines, with the event among those that were read
reads_on : (events grown : List code.Event) (event : code.Event) (behind : List (Option Event)) → grown ≡ events
    ++ event ∷ []
    → map Some (map shown events) ++ Some (shown event) ∷ behind ≡ map Some (map shown grown) ++ behind
reads_on events grown event behind is =
    let more = ap (map Some) (ap (map shown) is ∙ map-append shown events (event ∷ []))
    ∙ map-append Some (map shown events) (shown event ∷ []) in
    sym (ap (λ (all : List (Option Event)). all ++ behind) more
    ∙ append_assoc (map Some (map shown events)) (Some (shown event) ∷ []) behind)

pub loop-line-preserved : goal.loop-line-preserved
loop-line-preserved c =
    let events = c.loop-line.events.items in
    let said = sym c.in_ok-event.ensures ∙ ap (option_map shown) c.in-Some-2.is in
    let grown = c.push.ensures.items
    ∙ ap (λ (done : Bool). if done then events ++ c.in-Some-2.event ∷ [] else events) c.if-is_err.ensures.negation in
    next_says c.args.sizes (parts_left c.args.lines) _ _ _ events _ c.loop-line.invariant c.in-Some.ensures.steps said
    ∙ reads_on events c.push.new.self.items c.in-Some-2.event (events_in c.args.sizes (parts_left c.next.new.self))
    grown

pub returns-in-None-2 : goal.returns-in-None-2
returns-in-None-2 c =
    let events = c.loop-line.events.items in
    let said = sym c.in_ok-event.ensures ∙ ap (option_map shown) c.in-None-2.is in
    record {
      before = map shown events;
      behind = events_in c.args.sizes (parts_left c.next.new.self);
      spelled =
          next_says c.args.sizes (parts_left c.args.lines) _ _ _ events _ c.loop-line.invariant c.in-Some.ensures.steps
          said;
      number_is = omega (arith, length-map events shown, c.len.ensures);
    }
