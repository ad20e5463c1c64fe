-- A shard's items as a list, the most recently used first, and what they cost.
use Rattle.std.specs.Prelude.{ℕ, ◌≡◌, ◌+◌, ◌-◌, ◌/◌, ◌%◌, ◌^◌, ◌<◌, ◌≤◌, ◌⊎◌, List, [], ◌∷◌, length, All, Option, Some}
use Rattle.std.specs.Prelude.{None, nat_le, if◌then◌else◌}
use Rattle.std.specs.List.{sum_by}
use Rattle.std.specs.Map.{remove_entry}
use Rattle.mc_wire.specs.SameKey.{same_key}
use Rattle.mc_item.specs.declared.item.Item.{Item}
use Rattle.mc_wire.specs.declared.TheConstants.{DIGIT_LIMIT}
use Rattle.mc_sizes.specs.declared.TheConstants.{MIN_BUDGET, MAX_BUDGET}
use Rattle.mc_store.specs.State.{item_overhead, cost}
use Rattle.mc_store.specs.Shelf.{Shelf}

abbrev pub ListedItem : Type 0
ListedItem = List ℕ × Item

abbrev pub entry_cost : ListedItem → ℕ
entry_cost entry = cost entry.0 entry.1.value

-- what the items of a list cost together
abbrev pub listed_cost : List ListedItem → ℕ
listed_cost entries = sum_by entry_cost entries

-- what an item under a key of key_length bytes cost; nothing where there was none
abbrev pub freed_by : Option Item → ℕ → ℕ
freed_by None key_length = 0
freed_by (Some item) key_length = key_length + length item.value + item_overhead

-- the items from the front on, as many as cost no more than the room together
abbrev pub within : ℕ → List ListedItem → List ListedItem
within room [] = []
within room (entry ∷ entries) =
    if nat_le (entry_cost entry) room then entry ∷ within (room - entry_cost entry) entries else []

-- how many items go where the others are to cost no more than the room
abbrev pub gone : ℕ → List ListedItem → ℕ
gone room entries = length entries - length (within room entries)

-- the items once one was put first, and others went for it
abbrev pub put_in : List ℕ → Item → Shelf → Shelf
put_in key item shelf =
    let entries = (key, item) ∷ remove_entry (same_key key) shelf.entries in
    record shelf {
      entries = within shelf.budget entries;
      evicted = (shelf.evicted + gone shelf.budget entries) % 2 ^ 64;
    }

-- No key is empty.
abbrev pub HaveKeys : List ListedItem → Type 0
HaveKeys entries = All (λ (entry : ListedItem). 0 < length entry.0) entries

-- An item fits the budget. That of a number does, whatever the budget: its key and its digits are few.
abbrev pub FitsBudget : ℕ → List ℕ → List ℕ → Type 0
FitsBudget budget key value = (length value ≤ DIGIT_LIMIT) ⊎ (cost key value ≤ budget)

-- What is known of the items of a shard: the list, how many it may have, what they cost, and their budget.
pub record IsCounted (entries : List ListedItem) (capacity cost budget : ℕ) : Type 0 where
  pub counted : cost ≡ listed_cost entries
  pub fits : cost ≤ budget
  pub keys : HaveKeys entries
  -- each item's key has a byte, so that there is always room for one more in the list
  pub room : capacity ≡ budget / (item_overhead + 1) + 1
  pub least : MIN_BUDGET ≤ budget
  pub most : budget ≤ MAX_BUDGET
