-- What is known of the items of a ring behind the first.
use Rattle.std.proofs.Common.{◌≡◌, ◌+◌, List, [], ◌∷◌, ◌++◌, length, map, refl, arith}
use Rattle.std.proofs.lemmas.List.{length-map, map-append}
use Rattle.mc_ring.specs.declared.stamped.Stamped.{Stamped}
use Rattle.mc_ring.specs.Route.{Name, Route}
use Rattle.mc_ring.specs.Stamps.{Follows, IsBegun, behind, item_seen, route_at}

module _ {I T : Type 0} where
  -- A first item stays the first.
  pub begun_more : (xs ys : List (Stamped I T)) → IsBegun xs → IsBegun (xs ++ ys)
  begun_more [] ys begun = absurd begun
  begun_more (first ∷ xs) ys begun = begun

  -- so the route stays
  pub route_more : (name : T → Name) (xs ys : List (Stamped I T)) → IsBegun xs → route_at name (xs ++ ys)
      ≡ route_at name xs
  route_more name [] ys begun = absurd begun
  route_more name (first ∷ xs) ys begun = refl

module _ {I T V : Type 0} (view : I → V) where
  -- What is behind the first item grows as all does.
  pub behind_more : (xs ys : List (Stamped I T)) → IsBegun xs → behind view (xs ++ ys) ≡ behind view xs
      ++ map (item_seen {I = I} {T = T} {V = V} view) ys
  behind_more [] ys begun = absurd begun
  behind_more (first ∷ xs) ys begun = map-append (item_seen {I = I} {T = T} {V = V} view) xs ys

  -- behind the first item are all but one
  pub length_behind : (xs : List (Stamped I T)) → IsBegun xs → length xs ≡ length (behind view xs) + 1
  length_behind [] begun = absurd begun
  length_behind (first ∷ xs) begun = let e = length-map xs (item_seen {I = I} {T = T} {V = V} view) in omega (arith, e)

  -- what a ring's rule asks of an item, in the words of its end
  pub follows : (name : T → Name) (may : Route → List V → V → T → Type 0) (xs : List (Stamped I T)) (next : Stamped I T)
      → IsBegun xs
      → may (route_at name xs) (behind view xs) (view next.item) next.token → Follows name may view xs next
  follows name may [] next begun is = absurd begun
  follows name may (first ∷ xs) next begun is = is

  -- and what it says of one that was received
  pub followed : (name : T → Name) (may : Route → List V → V → T → Type 0) (xs : List (Stamped I T))
      (next : Stamped I T) → IsBegun xs
      → Follows name may view xs next → may (route_at name xs) (behind view xs) (view next.item) next.token
  followed name may [] next begun is = absurd begun
  followed name may (first ∷ xs) next begun is = is
