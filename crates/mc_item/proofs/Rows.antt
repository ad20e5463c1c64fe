-- Worked rows of the definitions, each computed.
use Rattle.std.proofs.Common.{◌≡◌, true, false, List, [], ◌∷◌, filter, map, Some, None, refl}
use Rattle.std.specs.Prelude.{codes, pos, negsuc}
use Rattle.std.specs.Fmt.{digits}
use Rattle.mc_wire.specs.Number.{number_of}
use Rattle.mc_item.specs.Expiry.{expiry_of, is_dead, seconds_left}
use Rattle.mc_item.specs.Value.{number_in, number_text, joined}
use Rattle.mc_item.specs.Kind.{is_lawful}
use Rattle.mc_item.specs.OpStats.{no_counts}
use Rattle.mc_item.specs.declared.item.Expiry.TheVariants.{Never, At}
use Rattle.mc_item.specs.declared.answer.Kind.{Kind}
use Rattle.mc_item.specs.declared.answer.Kind.TheVariants as kind
use Rattle.mc_item.specs.declared.answer.Answer.{Answer}
use Rattle.mc_item.specs.declared.answer.Answer.TheVariants.{Stored, NotStored, Exists, NotFound, TooLarge, NoCas}
use Rattle.mc_item.specs.declared.answer.Answer.TheVariants.{NoMemory, Hit, Miss, Number, NonNumeric, Deleted, Touched}
use Rattle.mc_item.specs.declared.answer.Answer.TheVariants.{Done, MetaHit, MetaDone, Reset}
use Rattle.mc_item.specs.declared.answer.Answer.TheVariants as answer

-- 0 is never, up to 30 days count from now, and a longer one is a second since 1970
expiries : map (λ exptime. expiry_of exptime 1000) (pos 0 ∷ pos 2592000 ∷ pos 2592001 ∷ [])
    ≡ Never ∷ At 2593000 ∷ At 2592001 ∷ []
unfolding expiry_of
expiries = refl

-- a negative exptime is dead at once, at the second 0 too; one second is over at the next one; a second since 1970 may
-- be past
deaths : (is_dead (expiry_of (negsuc 0) 1000) 1000 ≡ true)
    × (is_dead (expiry_of (negsuc 0) 0) 0 ≡ true)
    × (is_dead (expiry_of (pos 1) 1000) 1000 ≡ false)
    × (is_dead (expiry_of (pos 1) 1000) 1001 ≡ true)
    × (is_dead (expiry_of (pos 2592001) 3000000) 3000000 ≡ true)
    × (is_dead (At 2593000) 2592999 ≡ false)
    × (is_dead (At 2593000) 2593000 ≡ true)
unfolding expiry_of is_dead
deaths = (refl, refl, refl, refl, refl, refl, refl)

-- the latest moment is 2 ^ 40; past the expiry no second is left
lefts : (seconds_left (expiry_of (pos 1099511627777) 1099511627776) 1099511627776 ≡ Some 1)
    × (seconds_left (expiry_of (pos 10) 1099511627776) 1099511627776 ≡ Some 10)
    × (seconds_left (At 5) 7 ≡ Some 0)
    × (seconds_left Never 7 ≡ None)
unfolding expiry_of seconds_left
lefts = (refl, refl, refl, refl)

-- digits, 20 at most, and after them spaces
numbers : map number_in (codes "7  " ∷ codes "00000000000000000009" ∷ codes "18446744073709551615" ∷ [])
    ≡ Some 7 ∷ Some 9 ∷ Some 18446744073709551615 ∷ []
unfolding number_in number_of
numbers = refl

-- no numbers: 21 digits, a space in front, nothing, 2 ^ 64, a space inside, a sign, a tab behind
no_numbers : map number_in
    (codes "000000000000000000009" ∷ codes " 9" ∷ [] ∷ codes "18446744073709551616" ∷ codes "5 5" ∷ codes "-1" ∷ codes
    "5\t" ∷ [])
    ≡ None ∷ None ∷ None ∷ None ∷ None ∷ None ∷ None ∷ []
unfolding number_in number_of
no_numbers = refl

-- a stored number has no padding
number_texts : map number_text (0 ∷ 18446744073709551615 ∷ []) ≡ codes "0" ∷ codes "18446744073709551615" ∷ []
unfolding digits
number_texts = refl

-- append and prepend
joined_values : (joined (codes "bc") (codes "d") true ≡ codes "bcd")
    × (joined (codes "bc") (codes "a") false ≡ codes "abc")
joined_values = (refl, refl)

abbrev meta_hit : Answer
meta_hit =
    MetaHit (record {
      value = [];
      flags = 0;
      unique = 0;
      fetched = false;
      idle = 0;
      left = None;
      marks = record { won = false; stale = false; sent = false };
    })

abbrev meta_done : Answer
meta_done = MetaDone (record { unique = 0; size = 0; left = None; number = 0 })

abbrev stats : Answer
stats = answer.Stats (record { op_stats = no_counts; evicted = 0; items = 0; bytes = 0; budget = 0 })

-- one answer of each name
all_answers : List Answer
all_answers =
    Stored ∷ NotStored ∷ Exists ∷ NotFound ∷ TooLarge ∷ NoCas ∷ NoMemory ∷ Hit 0 0 [] ∷ Miss ∷ Number 0 ∷ NonNumeric ∷
    Deleted ∷ Touched ∷ Done ∷ meta_hit ∷ meta_done ∷ stats ∷ Reset ∷ []

lawful_answers : Kind → List Answer
lawful_answers asked = filter (is_lawful asked) all_answers

lawful : (lawful_answers kind.Store ≡ Stored ∷ NotStored ∷ Exists ∷ NotFound ∷ TooLarge ∷ NoCas ∷ NoMemory ∷ [])
    × (lawful_answers kind.Fetch ≡ NoMemory ∷ Hit 0 0 [] ∷ Miss ∷ [])
    × (lawful_answers kind.Count ≡ NotFound ∷ NoCas ∷ NoMemory ∷ Number 0 ∷ NonNumeric ∷ [])
    × (lawful_answers kind.Delete ≡ NotFound ∷ Deleted ∷ [])
    × (lawful_answers kind.Touch ≡ NotFound ∷ NoMemory ∷ Touched ∷ [])
    × (lawful_answers kind.Flush ≡ Done ∷ [])
    × (lawful_answers kind.Stats ≡ NoMemory ∷ stats ∷ [])
    × (lawful_answers kind.ResetStats ≡ Reset ∷ [])
    × (lawful_answers kind.MetaGet ≡ NoCas ∷ NoMemory ∷ Miss ∷ meta_hit ∷ [])
    × (lawful_answers kind.MetaStore ≡ NotStored ∷ Exists ∷ NotFound ∷ TooLarge ∷ NoCas ∷ NoMemory ∷ meta_done ∷ [])
    × (lawful_answers kind.MetaDelete ≡ Exists ∷ NotFound ∷ NoCas ∷ Deleted ∷ Done ∷ [])
    × (lawful_answers kind.MetaCount ≡ Exists ∷ NotFound ∷ NoCas ∷ NoMemory ∷ NonNumeric ∷ meta_done ∷ [])
unfolding all_answers lawful_answers is_lawful
lawful = (refl, refl, refl, refl, refl, refl, refl, refl, refl, refl, refl, refl)
