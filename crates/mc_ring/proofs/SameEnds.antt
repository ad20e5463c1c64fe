-- The ends of a seat or a shard of which one was used are the same ends.
use Rattle.std.proofs.Common.{◌≡◌, ℕ, zero, suc, ◌<◌, List, [], ◌∷◌, length, map, refl, ap, sym, slice_index_or}
use Rattle.std.proofs.Common.{slice_set, Some}
use Rattle.std.specs.List.{slice_get}
use Rattle.std.proofs.lemmas.Option.{slice_get_read}
use Rattle.mc_ring.specs.Channel.{Side}
use Rattle.mc_ring.specs.Ends.{AreSameEnds}
use Rattle.mc_ring.specs.EndsLaws.{length-slice_set, map-set}

-- An element that was read is in the list where what is read off it is.
pub read_here : {A B : Type 0} (read : A → B) (xs : List A) (i : ℕ) (x : A) (y : B) → x ≡ slice_index_or xs i x
    → slice_get (map read xs) i ≡ Some y → slice_get xs i ≡ Some x
read_here read [] i x y is here = absurd (cc)
read_here read (z ∷ xs) zero x y is here = ap Some (sym is)
read_here read (z ∷ xs) (suc i) x y is here = read_here read xs i x y is here

module _ {Out In : Type 0} where
  -- Ends are the same where one channel changed that stays the channel it was.
  pub same_ends_here : (number : ℕ) (ends : List (Side Out In)) (place : ℕ) (before after : Side Out In)
      → slice_get ends place ≡ Some before → after.past.channel ≡ before.past.channel
      → AreSameEnds (record { number = number; channels = ends })
      (record { number = number; channels = slice_set ends place after })
  same_ends_here number ends place before after here same = record {
    number = refl;
    count = length-slice_set ends place after;
    channels = map-set (λ end. end.past.channel) ends place before after here same;
  }

  -- A channel that is named by its place among the ends: the ends are unchanged likewise.
  pub same_ends : (number : ℕ) (ends : List (Side Out In)) (place : ℕ) (before after : Side Out In)
      → place < length ends → before ≡ slice_index_or ends place before → after.past.channel ≡ before.past.channel
      → AreSameEnds (record { number = number; channels = ends })
      (record { number = number; channels = slice_set ends place after })
  same_ends number ends place before after within read same =
      same_ends_here number ends place before after (slice_get_read ends (length ends) place before refl within read)
      same
