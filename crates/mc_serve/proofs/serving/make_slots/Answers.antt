-- One slot more, at last one for each source.
use Rattle.std.proofs.Common.{◌≡◌, List, ◌∷◌, length, arith, ap, subst, sym, ◌∙◌}
use Rattle.std.specs.Vec.Iter.{into_iter_items}
use Rattle.mc_sizes.specs.Sizes.{rules_of}
use Rattle.mc_sizes.specs.declared.sizes.Sizes.{Sizes}
use Rattle.mc_ring.specs.Channel.{Near}
use Rattle.mc_ring.specs.Ends.{Ends}
use Rattle.mc_history.specs.Tokens.{Acting}
use Rattle.mc_session.proofs.Orders.{all_first, all_more, all_rest, order_all, order_more, zips_first, zips_rest}
use Rattle.mc_serve.specs.Recorded.{IsClerkOf}
use Rattle.mc_serve.specs.Seats.{IsNewSeat}
use Rattle.mc_net.specs.Flow.{IsFree}
use Rattle.mc_session.specs.Session.{seat_clerk, seat_ends}
use Rattle.mc_serve.proofs.Zipped.{zips_length}
use Rattle.mc_serve.proofs.serving.make_slots.Goals as goal

-- one less of each
one_less : {A B : Type 0} (xs xs' : List A) (ys ys' : List B) (x : A) (y : B) → xs ≡ x ∷ xs' → ys ≡ y ∷ ys' → length xs
    ≡ length ys → length xs' ≡ length ys'
one_less xs xs' ys ys' x y first first' same = omega (arith, ap length first, ap length first', same)

-- equal ends have an equal clerk
clerk_fits : (sizes : Sizes) (ends ends' : Ends Near) (clerk clerk' : Acting) → ends' ≡ ends → clerk' ≡ clerk
    → IsClerkOf sizes ends clerk → IsClerkOf sizes ends' clerk'
clerk_fits sizes ends ends' clerk clerk' same same' fits =
    subst (λ e. IsClerkOf sizes e clerk') (sym same) (subst (λ k. IsClerkOf sizes ends k) (sym same') fits)

pub loop-ends-preserved : goal.loop-ends-preserved
loop-ends-preserved g c =
    let was = c.loop-ends.invariant in
    let step = c.in-Some.ensures.steps in
    let source = c.in-Some-next.ensures.cases in
    let clerk = c.in-Some-next-2.ensures.cases in
    let grown = c.in_ok-push.ensures.items in
    let made = c.in_ok-slot.ensures in
    let free = all_first (λ source. IsFree (g.D.ConnectionSource.flow source)) _ c.in-Some-next.source _ source.0
    was.free in
    let fits = zips_first (IsClerkOf c.args.sizes) _ _ _ _ c.in-Some.ends c.in-Some-next-2.clerk step.0 clerk.0
    was.clerks
    in
    let wide = all_first (λ seat. length seat.channels ≡ c.args.sizes.shards) _ c.in-Some.ends _ step.0 was.width in
    record {
      width = all_rest (λ seat. length seat.channels ≡ c.args.sizes.shards) _ c.in-Some.ends _ step.0 was.width;
      clerks =
          zips_rest (IsClerkOf c.args.sizes) _ _ _ _ c.in-Some.ends c.in-Some-next-2.clerk step.0 clerk.0 was.clerks;
      history =
          zips_rest (λ source clerk. g.D.ConnectionSource.history source ≡ clerk.name) _ _ _ _ c.in-Some-next.source
          c.in-Some-next-2.clerk source.0 clerk.0 was.history;
      as_many = one_less _ _ _ _ _ _ source.0 step.0 was.as_many;
      free = all_rest (λ source. IsFree (g.D.ConnectionSource.flow source)) _ c.in-Some-next.source _ source.0 was.free;
      clerks_are =
          order_more (λ one. seat_clerk one.session) c.loop-ends.seats.items _ c.in_ok-slot.slot c.in-Some-next-2.clerk
          _ _ grown made.clerk (rw clerk.0 at was.clerks_are);
      fit =
          all_more (λ one. IsClerkOf c.args.sizes (seat_ends one.session) (seat_clerk one.session))
          c.loop-ends.seats.items _ c.in_ok-slot.slot grown was.fit
          (clerk_fits c.args.sizes _ _ _ _ made.ends made.clerk fits);
      sources =
          order_more (λ one. one.source) c.loop-ends.seats.items _ c.in_ok-slot.slot c.in-Some-next.source _ _ grown
          made.source (rw source.0 at was.sources);
      begin =
          all_more (λ one. IsNewSeat c.args.sizes.shards (rules_of c.args.sizes) (g.D.ConnectionSource.flow one.source)
          one.session one.slot_state) c.loop-ends.seats.items _ c.in_ok-slot.slot grown was.begin
          (record {
            none = made.free;
            free = rw made.source free;
            width = rw made.ends wide;
            window = c.args.sizes.window;
            vacant = made.vacant;
            ruled = made.ruled;
          });
    }

pub returns : goal.returns
returns g c =
    let was = c.loop-ends.invariant in
    let none : length (into_iter_items c.loop-ends.ends-iterator) ≡ 0 = sym c.loop-ends.ends-iterator.rest.ok.0
    ∙ c.in-None.ensures.steps.0 in
    record {
      clerks =
          order_all _ (into_iter_items c.loop-ends.clerks) _
          (zips_length (IsClerkOf c.args.sizes) _ _ was.clerks ∙ none) was.clerks_are;
      fit = was.fit;
      sources = order_all _ (into_iter_items c.loop-ends.sources) _ (was.as_many ∙ none) was.sources;
      begin = was.begin;
    }

pub loop-ends-init : goal.loop-ends-init
loop-ends-init g c =
    let sources = c.into_iter-sources.ensures.rest in
    let ends = c.into_iter-ends-iterator.ensures.into_iter_gives.0 in
    let clerks = c.into_iter-clerks.ensures.rest in
    let none = c.in_ok-seats.ensures.items in
    record {
      width = rw ends c.requires.width;
      clerks = rw (ends, clerks) c.requires.clerks;
      history = rw (sources, clerks) c.requires.history;
      as_many = rw (sources, ends) c.requires.as_many;
      free = rw sources c.requires.free;
      clerks_are = rw none clerks;
      fit = rw none tt;
      sources = rw none sources;
      begin = rw none tt;
    }

pub new-requires : goal.new-requires
new-requires g c = record {
  sizes = c.requires.sizes;
  width =
      all_first (λ seat. length seat.channels ≡ c.args.sizes.shards) _ c.in-Some.ends _ c.in-Some.ensures.steps.0
      c.loop-ends.invariant.width;
  clerk =
      zips_first (IsClerkOf c.args.sizes) _ _ _ _ c.in-Some.ends c.in-Some-next-2.clerk c.in-Some.ensures.steps.0
      c.in-Some-next-2.ensures.cases.0 c.loop-ends.invariant.clerks;
  history =
      zips_first (λ source clerk. g.D.ConnectionSource.history source ≡ clerk.name) _ _ _ _ c.in-Some-next.source
      c.in-Some-next-2.clerk c.in-Some-next.ensures.cases.0 c.in-Some-next-2.ensures.cases.0
      c.loop-ends.invariant.history;
}
