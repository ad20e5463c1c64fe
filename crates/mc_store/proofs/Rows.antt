-- Worked rows of the definitions, each computed: two shards, this one the first, at the second 1000.
use Rattle.std.proofs.Common.{◌≡◌, ℕ, true, false, List, [], Option, Some, None, pos, negsuc}
use Rattle.std.specs.Prelude.{codes}
use Rattle.mc_command.specs.declared.command.StoreMode.{StoreMode}
use Rattle.mc_command.specs.declared.command.StoreMode.TheVariants.{Set, Replace}
use Rattle.mc_command.specs.declared.command.StoreRequest.{StoreRequest}
use Rattle.mc_command.specs.declared.command.Direction.TheVariants.{Increment, Decrement}
use Rattle.mc_item.specs.declared.item.Item.{Item}
use Rattle.mc_item.specs.declared.item.Expiry.TheVariants.{Never, At}
use Rattle.mc_item.specs.declared.answer.Answer.{Answer}
use Rattle.mc_item.specs.declared.answer.Answer.TheVariants.{Stored, Exists, NotFound, NoCas, MetaDone}
use Rattle.mc_item.specs.declared.answer.MetaDone as done
use Rattle.mc_item.specs.Expiry.{expiry_of, is_dead, seconds_left}
use Rattle.mc_item.specs.OpStats.{no_counts}
use Rattle.mc_store.specs.State.{Used, Items, State, is_dead_at, next_unique}
use Rattle.mc_store.specs.Rows.{joined_item, stale_item, marks_of, hit_of, vivified_item, made_hit}
use Rattle.mc_store.specs.Step.{Outcome, store_step, numbered, new_number, coming}

-- the first of two shards, where given is the number of uniques that it has given
abbrev at : Items → ℕ → State
at items given =
    record {
      items = items;
      turns = [];
      uses = 7;
      time = 1000;
      flush = None;
      given = given;
      index = 0;
      shards = 2;
      budget = 1024;
      limit = 1048576;
      op_stats = no_counts;
      evicted = 0;
    }

-- an item with the value x
abbrev item : ℕ → Item
item unique =
    record {
      value = codes "x";
      flags = 0;
      expiry = Never;
      unique = unique;
      last_access = 900;
      fetched = false;
      stale = false;
      sent = false;
    }

abbrev used : Item → Used
used it = record { item = it; number = 3 }

abbrev plain : done.MetaDone → Answer
plain _ = Stored

-- to store a value in this mode, at this unique
abbrev storing : List ℕ → StoreMode → Option ℕ → List ℕ → StoreRequest (List ℕ)
storing key mode compare value =
    record { key = key; mode = mode; compare = compare; unique = None; flags = 0; exptime = pos 0; value = value }

-- cas at the unique 1
abbrev swap : List ℕ → List ℕ → StoreRequest (List ℕ)
swap key value = storing key Set (Some 1) value

-- The rows, of which each computes.
record WorkedRows : Type 0 where
  -- compare and swap: the unique 1 is there, then 3
  swapped : (m : Items) → (store_step (at m 1) (swap (codes "a") (codes "y")) plain (Some (used (item 1)))).0 ≡ Stored
  swapped_too_late : (m : Items) → (store_step (at m 2) (swap (codes "a") (codes "z")) plain (Some (used (item 3))))
      ≡ (Exists, at m 2)
  nothing_to_swap : (m : Items) → (store_step (at m 2) (swap (codes "c") (codes "z")) plain None) ≡ (NotFound, at m 2)
  -- a stored item has the next unique, which counts as given
  second_unique : (m : Items) →
      (store_step (at m 1) (storing (codes "a") Replace None (codes "y")) (λ done. MetaDone done)
      (Some (used (item 1)))).0 ≡
      MetaDone (record { unique = 3; size = 1; left = None; number = 0 })
  -- append keeps flags and expiry
  appended : joined_item (record (item 1) { flags = 7; expiry = At 1030; fetched = true; stale = true }) (codes "xy") 3
      ≡
      record {
        value = codes "xy";
        flags = 7;
        expiry = At 1030;
        unique = 3;
        last_access = 900;
        fetched = false;
        stale = false;
        sent = false;
      }
  -- the last unique of 64 bits, and none after it
  last_unique : (m : Items) → next_unique (at m 9223372036854775807) ≡ 18446744073709551615
  none_after_the_last : (m : Items) (f : ℕ → State → Outcome) → numbered (at m 9223372036854775808) None f
      ≡ (NoCas, at m 9223372036854775808)
  -- arithmetic
  wraps : new_number Increment 18446744073709551615 1 ≡ 0
  not_below_zero : new_number Decrement 5 9 ≡ 0
  -- expiry: alive at its last second, dead at the next one
  alive : is_dead_at 1000 (Some (used (record (item 1) { expiry = At 1001 }))) ≡ false
  dead : is_dead_at 1001 (Some (used (record (item 1) { expiry = At 1001 }))) ≡ true
  -- a delayed flush
  in_ten_seconds : coming (expiry_of (pos 10) 1000) 1000 ≡ Some 1010
  at_once : coming (expiry_of (pos 0) 1000) 1000 ≡ None
  at_once_too : coming (expiry_of (negsuc 4) 1000) 1000 ≡ None
  of_the_past : coming (expiry_of (pos 2592001) 3000000) 3000000 ≡ None
  -- the marks
  stale_and_not_told : marks_of (record (item 1) { stale = true }) None 1000
      ≡ record { won = true; stale = true; sent = false }
  stale_and_told : marks_of (record (item 1) { stale = true; sent = true }) None 1000
      ≡ record { won = false; stale = true; sent = true }
  soon_dead : marks_of (record (item 1) { expiry = At 1029 }) (Some (pos 30)) 1000
      ≡ record { won = true; stale = false; sent = false }
  not_soon_dead : marks_of (record (item 1) { expiry = At 1030 }) (Some (pos 30)) 1000
      ≡ record { won = false; stale = false; sent = false }
  never_dead : marks_of (item 1) (Some (pos 30)) 1000 ≡ record { won = false; stale = false; sent = false }
  -- fetched, last access and time left, by the item before the command but for the time left
  seen : hit_of (record (item 1) { expiry = At 1095 }) (Some (pos 30)) None 1000 ≡
      record {
        value = codes "x";
        flags = 0;
        unique = 1;
        fetched = false;
        idle = 100;
        left = Some 30;
        marks = record { won = false; stale = false; sent = false };
      }
  -- an item that mg made is sent, which its maker isn't shown
  made : made_hit (vivified_item (pos 30) 1000 1) 1000 ≡
      record {
        value = [];
        flags = 0;
        unique = 1;
        fetched = false;
        idle = 0;
        left = Some 30;
        marks = record { won = true; stale = false; sent = false };
      }
  made_is_sent : (vivified_item (pos 30) 1000 1).sent ≡ true
  -- a second md with I takes the mark away again
  told_again : (stale_item (record (item 1) { stale = true; sent = true }) None 1000 5).sent ≡ false

all_worked : WorkedRows
unfolding seconds_left expiry_of is_dead
all_worked = assumption
