-- What the parts of a step find out.
use Rattle.std.specs.Prelude.{ℕ, ◌+◌, ◌^◌, nat_lt, Bool, true, false, ◌&&◌, List, Option, Some, None, is_none}
use Rattle.std.specs.Prelude.{if◌then◌else◌}
use Rattle.mc_item.specs.declared.item.Item.{Item}
use Rattle.mc_item.specs.declared.item.Expiry.{Expiry}
use Rattle.mc_command.specs.declared.command.StoreMode.{StoreMode}
use Rattle.mc_command.specs.declared.command.StoreMode.TheVariants.{Set, Add, Replace, Append, Prepend}
use Rattle.mc_item.specs.Expiry.{is_dead}
use Rattle.mc_store.specs.State.{expires}

-- an item that is dead counts as none
abbrev pub live : ℕ → Option Item → Option Item
live time None = None
live time (Some item) = if is_dead item.expiry time then None else Some item

-- whether a mode joins values, and then whether the new one follows the old
abbrev pub joining : StoreMode → Option Bool
joining Append = Some true
joining Prepend = Some false
joining Set = None
joining Add = None
joining Replace = None

-- whether this mode at this unique stores whatever is there
abbrev pub is_unconditional : StoreMode → Option ℕ → Bool
is_unconditional Set None = true
is_unconditional Set (Some unique) = false
is_unconditional Add compare = false
is_unconditional Replace compare = false
is_unconditional Append compare = false
is_unconditional Prepend compare = false

-- the unique that an item is given: the client's, or else the shard's next one, where that fits 64 bits
abbrev pub unique_for : Option ℕ → ℕ → Option ℕ
unique_for (Some token) next = Some token
unique_for None next = if nat_lt next (2 ^ 64) then Some next else None

-- how many uniques a shard has given after that
abbrev pub given_after : Option ℕ → ℕ → ℕ
given_after (Some token) given = given
given_after None given = given + 1

-- the key for the turn of an item with this expiry; none where it never dies, and where a client gives its unique
abbrev pub turn_of : Option ℕ → List ℕ → Expiry → Option (List ℕ)
turn_of token key expiry = if is_none token && expires expiry then Some key else None
