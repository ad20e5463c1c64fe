-- What a shard keeps of an item: its fields, packed, and the place of its value.
use Rattle.std.specs.Prelude.{ℕ, ◌+◌, ◌*◌, ◌/◌, ◌%◌, ◌^◌, ◌==◌, Bool, List, if◌then◌else◌}
use Rattle.mc_cells.specs.declared.place.Place.{Place}
use Rattle.mc_cells.specs.Contents.{Contents, value_at}
use Rattle.mc_cells.specs.Numbers.{place_of}
use Rattle.mc_item.specs.declared.item.Item.{Item}
use Rattle.mc_store.specs.declared.fields.Fields.{Fields}
use Rattle.mc_store.specs.declared.stored.Stored.{Stored}

-- an item without its value
abbrev pub fields_in : Item → Fields
fields_in item = record {
  flags = item.flags;
  fetched = item.fetched;
  stale = item.stale;
  sent = item.sent;
  expiry = item.expiry;
  unique = item.unique;
  last_access = item.last_access;
}

-- the item with these fields and a value
abbrev pub item_with : Fields → List ℕ → Item
item_with fields value = record {
  value = value;
  flags = fields.flags;
  fetched = fields.fetched;
  stale = fields.stale;
  sent = fields.sent;
  expiry = fields.expiry;
  unique = fields.unique;
  last_access = fields.last_access;
}

-- a mark as a bit of this weight
abbrev pub bit : Bool → ℕ → ℕ
bit mark weight = if mark then weight else 0

-- three marks as bits
abbrev pub marks_in : Fields → ℕ
marks_in fields = bit fields.fetched 1 + bit fields.stale 2 + bit fields.sent 4

-- the place, the upper part of the last access and the marks in one number
abbrev pub packed : ℕ → ℕ → ℕ → ℕ
packed place high marks = (place * 512 + high) * 8 + marks

-- the fields of what is kept
abbrev pub fields_of : Stored → Fields
fields_of stored = record {
  flags = stored.flags;
  fetched = stored.packed % 2 == 1;
  stale = stored.packed / 2 % 2 == 1;
  sent = stored.packed / 4 % 2 == 1;
  expiry = stored.expiry;
  unique = stored.unique;
  last_access = stored.packed / 8 % 512 * 2 ^ 32 + stored.access;
}

-- the place of its value
abbrev pub place_in : Stored → Place
place_in stored = place_of (stored.packed / 4096)

-- the item that is kept so, where these are the values
abbrev pub shown : Contents → Stored → Item
shown contents stored = item_with (fields_of stored) (value_at contents (place_in stored))
