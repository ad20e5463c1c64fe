-- All sources, once all threads are joined and the history is closed.
use Rattle.std.proofs.Common.{◌≡◌, ℕ, zero, suc, ◌<◌, List, [], ◌∷◌, length, map, Some, refl, sym, ap, subst, ◌∙◌}
use Rattle.std.proofs.Common.{arith}
use Rattle.std.specs.List.{AllByRecursion, slice_get}
use Rattle.std.proofs.lemmas.List.{length-map}
use Rattle.std.proofs.lemmas.Option.{same_Some}
use Rattle.mc_sizes.specs.Sizes.{rules_of}
use Rattle.mc_sizes.specs.declared.sizes.Sizes.{Sizes}
use Rattle.mc_model.proofs.Lists.{all_from, all_unmap}
use Rattle.mc_poll.specs.Zips.{Zips}
use Rattle.mc_ring.specs.Channel.{Channel, Near}
use Rattle.mc_ring.specs.Ends.{AreSameEnds}
use Rattle.mc_ring.specs.EndsLaws.{same_ends-trans}
use Rattle.mc_ring.specs.Route.{Name, Route}
use Rattle.mc_ring.proofs.Lists.{all_at, get_below, get_map}
use Rattle.mc_history.specs.declared.knowledge.Role.TheVariants.{Seat}
use Rattle.mc_history.specs.Lawful.{IsHistory}
use Rattle.mc_history.specs.Roles.{seat_of}
use Rattle.mc_history.specs.Tokens.{Acting, Sight as Shown}
use Rattle.mc_record.specs.Clerk.{IsSeatActor}
use Rattle.mc_record.specs.Closing.{IsWholeIn}
use Rattle.mc_record.specs.Opening.{ActInOrder}
use Rattle.mc_transport.specs.Explains.{IsLogOfLines, LineFlow}
use Rattle.mc_session.specs.Routes.{AreOnRoutes}
use Rattle.mc_net.specs.Flow.{SourceFlow}
use Rattle.mc_serve.specs.Recorded.{IsClerkOf, route_from}
use Rattle.mc_serve.specs.Seats.{SeatAt, SeatServes}
use Rattle.mc_serve.specs.Served.{ExplainsSeat, PassEach, ServesSources, log_by}
use Rattle.mc_serve.proofs.Chain.{lines_same}
use Rattle.mc_serve.proofs.Ran.{lawful_log}
use Rattle.mc_serve.proofs.Segments.{explains_seat}
use Rattle.mc_serve.proofs.Zipped.{all_map, map_map, met_at}
use Rattle.mc_command.specs.declared.rules.Rules.{Rules}

-- The slot of this number before and after the run, and the connections that it served.
record IsSeatAt (shards : ℕ) (rules : Rules) (may_answer : ℕ → Type 0) (were at_ends : List SeatAt) (number : ℕ)
    (lines : List LineFlow) : Type 0 where
  was : SeatAt
  at_end : SeatAt
  was_at : slice_get were number ≡ Some was
  end_at : slice_get at_ends number ≡ Some at_end
  serves : SeatServes shards rules may_answer was at_end
  lines_are : serves.lines ≡ lines

-- The connections that each slot served.
record HaveLines (shards : ℕ) (rules : Rules) (may_answer : ℕ → Type 0) (were at_ends : List SeatAt) : Type 0 where
  seats : List (List LineFlow)
  back : PassEach (map (λ (was : SeatAt). was.source) were) seats (map (λ (at_end : SeatAt). at_end.source) at_ends)
  count : length seats ≡ length were
  at : (number : ℕ) (lines : List LineFlow) → slice_get seats number ≡ Some lines
      → IsSeatAt shards rules may_answer were at_ends number lines

seat_here : (shards : ℕ) (rules : Rules) (may_answer : ℕ → Type 0) (was at_end : SeatAt) (were at_ends : List SeatAt)
    (serves : SeatServes shards rules may_answer was at_end) (seats : List (List LineFlow))
    → ((number : ℕ) (lines : List LineFlow) → slice_get seats number ≡ Some lines
    → IsSeatAt shards rules may_answer were at_ends number lines)
    → (number : ℕ) (lines : List LineFlow) → slice_get (serves.lines ∷ seats) number ≡ Some lines
    → IsSeatAt shards rules may_answer (was ∷ were) (at_end ∷ at_ends) number lines
seat_here shards rules may_answer was at_end were at_ends serves seats at zero lines here =
    record {
      was = was;
      at_end = at_end;
      was_at = refl;
      end_at = refl;
      serves = serves;
      lines_are = same_Some serves.lines lines here;
    }
seat_here shards rules may_answer was at_end were at_ends serves seats at (suc number) lines here =
    let rest = at number lines here in
    record {
      was = rest.was;
      at_end = rest.at_end;
      was_at = rest.was_at;
      end_at = rest.end_at;
      serves = rest.serves;
      lines_are = rest.lines_are;
    }

have_lines : (shards : ℕ) (rules : Rules) (may_answer : ℕ → Type 0) (were at_ends : List SeatAt)
    → Zips (SeatServes shards rules may_answer) were at_ends → HaveLines shards rules may_answer were at_ends
have_lines shards rules may_answer [] [] zips =
    record { seats = []; back = tt; count = refl; at = λ number lines here. absurd (cc) }
have_lines shards rules may_answer [] (at_end ∷ at_ends) zips = absurd zips
have_lines shards rules may_answer (was ∷ were) [] zips = absurd zips
have_lines shards rules may_answer (was ∷ were) (at_end ∷ at_ends) zips =
    let rest = have_lines shards rules may_answer were at_ends zips.1 in
    let serves = zips.0 in
    let over = serves.over in
    record {
      seats = serves.lines ∷ rest.seats;
      back = (record { passed = serves.passed; passes = serves.source; done = over.done; over = over.now }, rest.back);
      count = ap suc rest.count;
      at = seat_here shards rules may_answer was at_end were at_ends serves rest.seats rest.at;
    }

-- The slots at the beginning: their clerks are those of an opened history, in order, and fit their ends.
pub record HaveBegun (sizes : Sizes) (name : Name) (were : List SeatAt) : Type 0 where
  pub clerks : ActInOrder Seat name sizes.seats (map (λ (was : SeatAt). was.clerk) were)
  pub fit : AllByRecursion (λ (was : SeatAt). IsClerkOf sizes was.ends was.clerk) were

-- The slots at the end, with all channels closed: each clerk knows the routes of its slot's channels.
pub record HaveEnded (at_ends : List SeatAt) : Type 0 where
  pub actors : AllByRecursion (λ (at_end : SeatAt). IsSeatActor at_end.clerk) at_ends
  pub routes : AllByRecursion (λ (at_end : SeatAt). AreOnRoutes (route_from at_end.clerk) at_end.ends) at_ends

-- the ends are those of the slot before
seat_same : (shards : ℕ) (rules : Rules) (may_answer : ℕ → Type 0) (was at_end : SeatAt)
    → SeatServes shards rules may_answer was at_end → AreSameEnds was.ends at_end.ends
seat_same shards rules may_answer was at_end serves =
    same_ends-trans was.ends serves.served at_end.ends
    (lines_same shards rules may_answer serves.lines was.ends serves.served serves.lines_are) serves.closed.same

-- The clerk is that of slot `number` in this history.
record IsClerkAt (name : Name) (number : ℕ) (clerk : Acting) : Type 0 where
  name_is : clerk.name ≡ name
  role_is : clerk.role ≡ Seat number

-- A slot's clerk at the end is of the slot and the history of the clerk at the beginning, since both know the routes of
-- its channels.
same_clerk : (sizes : Sizes) (name : Name) (number : ℕ) (was at_end : SeatAt) → 0 < sizes.shards
    → IsClerkOf sizes was.ends was.clerk → was.clerk ≡ record { name = name; role = Seat number; events = [] }
    → AreSameEnds was.ends at_end.ends → IsSeatActor at_end.clerk → AreOnRoutes (route_from at_end.clerk) at_end.ends
    → IsClerkAt name number at_end.clerk
same_clerk sizes name number was at_end some fit is same actor routes =
    let width : length was.ends.channels ≡ sizes.shards = sym (fit.routes.shards 0)
    ∙ ap (λ (s : Sizes). s.shards) fit.sizes_are in
    let count = same.count in
    let before = get_below was.ends.channels 0 (omega (arith, some, width)) in
    let after = get_below at_end.ends.channels 0 (omega (arith, some, width, count)) in
    let first : before.0.past.channel ≡ after.0.past.channel =
    same_Some before.0.past.channel after.0.past.channel
    (sym (get_map (λ (end : Near). end.past.channel) was.ends.channels 0 before.0 before.1)
    ∙ (ap (λ channels. slice_get channels 0) (sym same.channels)
    ∙ get_map (λ (end : Near). end.past.channel) at_end.ends.channels 0 after.0 after.1)) in
    let route : route_from was.clerk 0 ≡ route_from at_end.clerk 0 = sym (fit.routes.each 0 before.0 before.1)
    ∙ (ap (λ (channel : Channel). channel.route) first ∙ routes.each 0 after.0 after.1) in
    record {
      name_is = sym (ap (λ (r : Route). r.name) route) ∙ ap (λ (a : Acting). a.name) is;
      role_is = actor.role
          ∙ ap Seat (sym (ap (λ (r : Route). r.seat) route) ∙ ap (λ (a : Acting). seat_of a.role) is);
    }

-- All slots, from the beginning of the run to its end.
module _ (sizes : Sizes) (name : Name) (may_answer : ℕ → Type 0) (were at_ends : List SeatAt) (some : 0 < sizes.shards)
    (begun : HaveBegun sizes name were)
    (served : Zips (SeatServes sizes.shards (rules_of sizes) may_answer) were at_ends) (ended : HaveEnded at_ends)
  where
    new_at : (number : ℕ) (was : SeatAt) → slice_get were number ≡ Some was
        → was.clerk ≡ record { name = name; role = Seat number; events = [] }
    new_at number was here =
        begun.clerks.each number was.clerk (get_map (λ (was : SeatAt). was.clerk) were number was here)

    fits_at : (number : ℕ) (was : SeatAt) → slice_get were number ≡ Some was → IsClerkOf sizes was.ends was.clerk
    fits_at number was here =
        all_at (λ (was : SeatAt). IsClerkOf sizes was.ends was.clerk) were number was begun.fit here

    clerk_at : (number : ℕ) (at_end : SeatAt) → slice_get at_ends number ≡ Some at_end
        → IsClerkAt name number at_end.clerk
    clerk_at number at_end here =
        let was = met_at (SeatServes sizes.shards (rules_of sizes) may_answer) were at_ends number at_end served here in
        same_clerk sizes name number was.one at_end some (fits_at number was.one was.here)
        (new_at number was.one was.here)
        (seat_same sizes.shards (rules_of sizes) may_answer was.one at_end was.met)
        (all_at (λ (at_end : SeatAt). IsSeatActor at_end.clerk) at_ends number at_end ended.actors here)
        (all_at (λ (at_end : SeatAt). AreOnRoutes (route_from at_end.clerk) at_end.ends) at_ends number at_end
        ended.routes here)

    -- Each clerk at the end is of the opened history.
    pub names_kept : AllByRecursion (λ (at_end : SeatAt). at_end.clerk.name ≡ name) at_ends
    names_kept =
        all_from (λ (at_end : SeatAt). at_end.clerk.name ≡ name) at_ends
        (λ number at_end here. (clerk_at number at_end here).name_is)

    -- A history with all that the clerks recorded explains the connections of all sources.
    pub serves_sources : name.sizes ≡ sizes → (shown : Shown) → IsHistory sizes shown.events
        → AllByRecursion (λ (at_end : SeatAt). IsWholeIn shown.events at_end.clerk) at_ends
        → ServesSources sizes may_answer (map (λ (was : SeatAt). was.source) were)
        (map (λ (at_end : SeatAt). at_end.source) at_ends) shown
    serves_sources sizes_are shown lawful whole =
        let events = shown.events in
        let all = have_lines sizes.shards (rules_of sizes) may_answer were at_ends served in
        let seats : length all.seats ≡ sizes.seats = all.count
        ∙ (sym (length-map were (λ (was : SeatAt). was.clerk)) ∙ begun.clerks.counted) in
        let L : ℕ → Type 0 = λ n. IsLogOfLines sizes n (log_by events) in
        record {
          seats = all.seats;
          back = all.back;
          log = log_by events;
          log_is = subst L (sym seats) (lawful_log sizes events lawful);
          history = record { lawful = lawful; log_is = refl };
          each = λ number lines here.
              let at = all.at number lines here in
              let clerk = clerk_at number at.at_end at.end_at in
              let E : List LineFlow → Type 0 = λ lines. ExplainsSeat sizes may_answer (log_by events) number lines in
              subst E at.lines_are
              (explains_seat sizes number may_answer at.was at.at_end events at.serves
              (record {
                clerk = fits_at number at.was at.was_at;
                none = ap (λ (a : Acting). a.events) (new_at number at.was at.was_at);
              }) (ap (λ (n : Name). n.sizes) clerk.name_is ∙ sizes_are) clerk.role_is lawful
              (all_at (λ (at_end : SeatAt). IsWholeIn events at_end.clerk) at_ends number at.at_end whole at.end_at));
        }

-- These facts for any records that hold the slots' sources: `before` and `after` the run.
module _ {S D : Type 0} (sizes : Sizes) (name : Name) (may_answer : ℕ → Type 0) (before after : List S)
    (sources : List D) (at : S → SeatAt) (source_of : S → D) (flow : D → SourceFlow) where
  -- the facts after all threads were started and joined
  pub record AreJoined : Type 0 where
    pub seen : (seat : S) → flow (source_of seat) ≡ (at seat).source
    pub sources_are : map source_of before ≡ sources
    pub clerks : ActInOrder Seat name sizes.seats (map (λ seat. (at seat).clerk) before)
    pub fit : AllByRecursion (λ seat. IsClerkOf sizes (at seat).ends (at seat).clerk) before
    pub served : Zips (SeatServes sizes.shards (rules_of sizes) may_answer) (map at before) (map at after)
    pub actors : AllByRecursion (λ seat. IsSeatActor (at seat).clerk) after
    pub routes : AllByRecursion (λ seat. AreOnRoutes (route_from (at seat).clerk) (at seat).ends) after

  have_begun : AreJoined → HaveBegun sizes name (map at before)
  have_begun known =
      record {
        clerks =
            subst (ActInOrder Seat name sizes.seats) (map_map at (λ (was : SeatAt). was.clerk) before) known.clerks;
        fit = all_map (λ (was : SeatAt). IsClerkOf sizes was.ends was.clerk) at before known.fit;
      }

  have_ended : AreJoined → HaveEnded (map at after)
  have_ended known =
      record {
        actors = all_map (λ (at_end : SeatAt). IsSeatActor at_end.clerk) at after known.actors;
        routes = all_map (λ (at_end : SeatAt). AreOnRoutes (route_from at_end.clerk) at_end.ends) at after known.routes;
      }

  -- The clerks at the end are of the opened history.
  pub names_are : 0 < sizes.shards → AreJoined
      → AllByRecursion (λ (clerk : Acting). clerk.name ≡ name) (map (λ seat. (at seat).clerk) after)
  names_are some known =
      all_map (λ (clerk : Acting). clerk.name ≡ name) (λ seat. (at seat).clerk) after
      (all_unmap (λ (at_end : SeatAt). at_end.clerk.name ≡ name) at after
      (names_kept sizes name may_answer (map at before) (map at after) some (have_begun known) known.served
      (have_ended known)))

  seen_all : AreJoined → (seats : List S) → map (λ (seat : SeatAt). seat.source) (map at seats)
      ≡ map flow (map source_of seats)
  seen_all known [] = refl
  seen_all known (seat ∷ seats) =
      ap (λ d. d ∷ map (λ (s : SeatAt). s.source) (map at seats)) (sym (known.seen seat))
      ∙ ap (λ ds. flow (source_of seat) ∷ ds) (seen_all known seats)

  -- All sources are served if each slot served its own, and a history has all that the clerks recorded.
  pub all_sources : 0 < sizes.shards → name.sizes ≡ sizes → AreJoined → (shown : Shown) → IsHistory sizes shown.events
      → AllByRecursion (λ (clerk : Acting). IsWholeIn shown.events clerk) (map (λ seat. (at seat).clerk) after)
      → (back : List D) → back ≡ map source_of after
      → ServesSources sizes may_answer (map flow sources) (map flow back) shown
  all_sources some sizes_are known shown lawful whole back reported =
      let first : map (λ (was : SeatAt). was.source) (map at before) ≡ map flow sources = seen_all known before
      ∙ ap (map flow) known.sources_are in
      let last : map (λ (at_end : SeatAt). at_end.source) (map at after) ≡ map flow back = seen_all known after
      ∙ ap (map flow) (sym reported) in
      let P : List SourceFlow → List SourceFlow → Type 0 = λ ds es. ServesSources sizes may_answer ds es shown in
      let all = serves_sources sizes name may_answer (map at before) (map at after) some (have_begun known) known.served
      (have_ended known) sizes_are shown lawful
      (all_map (λ (at_end : SeatAt). IsWholeIn shown.events at_end.clerk) at after
      (all_unmap (λ (clerk : Acting). IsWholeIn shown.events clerk) (λ seat. (at seat).clerk) after whole)) in
      subst (λ es. P (map flow sources) es) last
      (subst (λ ds. P ds (map (λ (at_end : SeatAt). at_end.source) (map at after))) first all)
