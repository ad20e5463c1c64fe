-- What each operation makes of the item that it meets: a row a definition. An item that is made the most recently
-- used one is accessed at that time, whatever the row says of its last access.
use Rattle.std.specs.Prelude.{ℕ, ◌-◌, Bool, true, false, ◌||◌, ◌&&◌, not, ℤ, pos, List, [], length, Option, Some, None}
use Rattle.std.specs.Prelude.{nat_lt}
use Rattle.mc_item.specs.declared.item.Item.{Item}
use Rattle.mc_item.specs.declared.item.Expiry.{Expiry}
use Rattle.mc_item.specs.declared.answer.Marks.{Marks}
use Rattle.mc_item.specs.declared.answer.MetaHit.{MetaHit}
use Rattle.mc_item.specs.declared.answer.MetaDone.{MetaDone}
use Rattle.mc_item.specs.Expiry.{expiry_of, seconds_left}
use Rattle.mc_item.specs.Value.{number_text}

-- the expiry that an exptime sets at the time; where none is given, the old one
abbrev pub expiry_from : Option ℤ → Expiry → ℕ → Expiry
expiry_from None old time = old
expiry_from (Some exptime) old time = expiry_of exptime time

-- get, gets; with an exptime gat, gats
abbrev pub fetched_item : Item → Option ℤ → ℕ → Item
fetched_item item exptime time = record item { fetched = true; expiry = expiry_from exptime item.expiry time }

-- touch
abbrev pub touched_item : Item → ℤ → ℕ → Item
touched_item item exptime time = record item { expiry = expiry_of exptime time }

-- set, add, replace, cas; ms in the modes E, R and S
abbrev pub stored_item : List ℕ → ℕ → ℤ → ℕ → ℕ → Item
stored_item value flags exptime time unique =
    record {
      value = value;
      flags = flags;
      expiry = expiry_of exptime time;
      unique = unique;
      last_access = time;
      fetched = false;
      stale = false;
      sent = false;
    }

-- append, prepend; ms in the modes A and P
abbrev pub joined_item : Item → List ℕ → ℕ → Item
joined_item item value unique =
    record item { value = value; unique = unique; fetched = false; stale = false; sent = false }

-- incr, decr; ma, with the exptime of its flag T
abbrev pub counted_item : Item → ℕ → Option ℤ → ℕ → ℕ → Item
counted_item item number exptime time unique =
    record item { value = number_text number; unique = unique; expiry = expiry_from exptime item.expiry time }

-- an item that ma makes of a miss
abbrev pub counter_item : ℕ → ℤ → ℕ → ℕ → Item
counter_item number exptime time unique = stored_item (number_text number) 0 exptime time unique

-- an item that mg makes of a miss
abbrev pub vivified_item : ℤ → ℕ → ℕ → Item
vivified_item exptime time unique = record (stored_item [] 0 exptime time unique) { sent = true }

-- md with I; it keeps its place in the order
abbrev pub stale_item : Item → Option ℤ → ℕ → ℕ → Item
stale_item item exptime time unique =
    record item { unique = unique; expiry = expiry_from exptime item.expiry time; stale = true; sent = false }

-- The marks of a hit

-- Fewer seconds are left than the token of R; an item that never dies has no seconds left.
abbrev pub has_fewer_left : Option ℕ → Option ℤ → Bool
has_fewer_left (Some left) (Some (pos token)) = nat_lt left token
has_fewer_left left recache = false

-- W: no client is to recompute the item, and it is stale or soon dead.
abbrev pub is_won : Item → Option ℤ → ℕ → Bool
is_won item recache time = not item.sent && (item.stale || has_fewer_left (seconds_left item.expiry time) recache)

-- W, X and Z, by the item before the command
abbrev pub marks_of : Item → Option ℤ → ℕ → Marks
marks_of item recache time = record { won = is_won item recache time; stale = item.stale; sent = item.sent }

-- the marks of an item that this command made
abbrev pub made_marks : Marks
made_marks = record { won = true; stale = false; sent = false }

-- mg
abbrev pub shown_item : Item → Option ℤ → Option ℤ → ℕ → Item
shown_item item exptime recache time =
    record item {
      fetched = true;
      expiry = expiry_from exptime item.expiry time;
      sent = item.sent || is_won item recache time;
    }

-- What is shown of an item

-- mg: all is by the item before the command, but for the time left
abbrev pub hit_of : Item → Option ℤ → Option ℤ → ℕ → MetaHit
hit_of item exptime recache time = record {
  value = item.value;
  flags = item.flags;
  unique = item.unique;
  fetched = item.fetched;
  idle = time - item.last_access;
  left = seconds_left (expiry_from exptime item.expiry time) time;
  marks = marks_of item recache time;
}

-- mg, of an item that it made
abbrev pub made_hit : Item → ℕ → MetaHit
made_hit item time =
    record {
      value = item.value;
      flags = item.flags;
      unique = item.unique;
      fetched = false;
      idle = 0;
      left = seconds_left item.expiry time;
      marks = made_marks;
    }

-- ms and ma, of the item that they stored or changed
abbrev pub done_of : Item → ℕ → ℕ → MetaDone
done_of item number time =
    record { unique = item.unique; size = length item.value; left = seconds_left item.expiry time; number = number }
