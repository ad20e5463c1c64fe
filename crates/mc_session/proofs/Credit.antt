-- What is under way on each channel of a seat stays within the places of a ring.
use Rattle.std.proofs.Common.{◌≡◌, ℕ, ◌<◌, ◌≤◌, inl, inr, List, length, map, Some, sym, ap, ◌∙◌, arith, length-append}
use Rattle.std.proofs.Common.{slice_set}
use Rattle.std.specs.List.{slice_get}
use Rattle.std.proofs.lemmas.Bool.{cases_eq}
use Rattle.std.proofs.lemmas.List.{length-map}
use Rattle.std.proofs.lemmas.Option.{same_Some}
use Rattle.mc_ring.specs.declared.request.Request.TheVariants as request
use Rattle.mc_ring.specs.Reply.{Shown}
use Rattle.mc_ring.specs.Channel.{Near}
use Rattle.mc_ring.specs.Ends.{Ends, received_on, sent_on}
use Rattle.mc_ring.specs.EndsLaws.{get-set_other, get-set_same}
use Rattle.mc_ring.proofs.Lists.{all_at, get_below}
use Rattle.mc_conn.specs.Flow.{Flow}
use Rattle.mc_session.specs.Credit.{AreWithin, IsInCredit}
use Rattle.mc_session.specs.Serving.{IsIdle}
use Rattle.mc_session.specs.internal.Carrying.{Carries, sent_to}

-- Where no reply is awaited, any number of places is enough.
pub within_idle : (places : ℕ) (ways : List ℕ) → IsIdle ways → AreWithin places ways
within_idle places ways idle shard count found = let none : count ≡ 0 =
    all_at (λ (c : ℕ). c ≡ 0) ways shard count idle found in omega (arith, none)

-- Once the replies that are awaited of one shard are this many, which is within the places, all still are.
pub within_set : (places : ℕ) (ways : List ℕ) (shard count was : ℕ) → slice_get ways shard ≡ Some was → count ≤ places
    → AreWithin places ways → AreWithin places (slice_set ways shard count)
within_set places ways shard count was here few all one found_count found = elim (cases_eq one shard) [
  | inl is ↦
      let there : slice_get (slice_set ways shard count) shard ≡ Some found_count =
      ap (λ k. slice_get (slice_set ways shard count) k) (sym is) ∙ found in
      let same : found_count ≡ count =
      same_Some found_count count (sym there ∙ get-set_same ways shard was count here) in
      omega (arith, same, few)
  | inr other ↦ all one found_count (sym (get-set_other ways shard one count other) ∙ found)
]

-- Where the replies that are awaited are within the places, the channels are in credit.
pub credit_by_counts : (places : ℕ) (before ends : Ends Near) (ways : List ℕ) (flow : Flow) (received : ℕ → List Shown)
    → AreWithin places ways → Carries before ends ways flow received → IsInCredit places before ends
credit_by_counts places before ends ways flow received within carries shard below =
    let width = carries.width in
    let each = carries.each in
    let inside : shard < flow.shards = omega (arith, below, width) in
    let here = get_below ways shard (omega (arith, inside, each)) in
    let few = within shard here.0 here.1 in
    let awaited = carries.awaited shard here.0 here.1 in
    let sent = ap length (carries.sent shard inside)
    ∙ length-append (sent_on before shard) (map request.Piece (sent_to flow shard)) in
    let pieces = length-map (sent_to flow shard) request.Piece in
    let came = ap length (carries.came shard inside) ∙ length-append (received_on before shard) (received shard) in
    omega (arith, few, awaited, sent, pieces, came)
