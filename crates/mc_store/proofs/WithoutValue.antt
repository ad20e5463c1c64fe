-- An item that is found without its value, or of whose value only the length is known.
use Rattle.std.proofs.Common.{◌≡◌, ℕ, ◌+◌, ◌≤◌, ◌<◌, ◌^◌, List, length, Option, Some, None, refl, sym, inl, inr, arith}
use Rattle.std.specs.Prelude.{IfSome, IfNone}
use Rattle.std.specs.Option.{option_map}
use Rattle.std.proofs.lemmas.Bool.{cases_Bool}
use Rattle.std.proofs.lemmas.Option.{some_pair_parts}
use Rattle.mc_item.specs.declared.item.Item.{Item}
use Rattle.mc_item.specs.Expiry.{is_dead}
use Rattle.mc_store.specs.State.{item_overhead}
use Rattle.mc_store.specs.declared.fields.Fields.{Fields}
use Rattle.mc_store.specs.internal.Found.{live}
use Rattle.mc_store.specs.internal.Listed.{ListedItem, entry_cost, freed_by}
use Rattle.mc_store.specs.internal.Stored.{fields_in, item_with}

-- the item with these fields is there
pub record Found (there : Option Item) (fields : Fields) : Type 0 where
  pub value : List ℕ
  pub is : Some (item_with fields value) ≡ there

-- Where fields are found, an item with them is there.
pub found : (there : Option Item) (fields : Fields) → Some fields ≡ option_map fields_in there → Found there fields
found None fields is = absurd cc
found (Some item) fields is =
    let same : fields ≡ fields_in item = cc in
    record { value = item.value; is = rw same refl }

-- Where no fields are found, no item is there.
pub none_found : (there : Option Item) → None ≡ option_map fields_in there → None ≡ there
none_found None is = refl
none_found (Some item) is = absurd cc

-- Where the fields of a live item are found, and then a value, the item has both.
pub live_with : (time : ℕ) (there : Option Item) (fields : Fields) (value : List ℕ)
    → Some fields ≡ option_map fields_in (live time there)
    → Some value ≡ option_map (λ (item : Item). item.value) there → Some (item_with fields value) ≡ live time there
live_with time None fields value is here = absurd cc
live_with time (Some item) fields value is here = elim (cases_Bool (is_dead item.expiry time)) [
  | inl t ↦ absurd (let is' = rw t at is in cc)
  | inr f ↦
      let is' = rw f at is in
      let same : fields ≡ fields_in item = cc in
      let its : value ≡ item.value = cc in
      rw (f, same, its) refl
]

abbrev pub KeyedSize : Type 0
KeyedSize = List ℕ × ℕ

-- the key of an entry, and the length of its value
abbrev pub keyed_size : Option ListedItem → Option KeyedSize
keyed_size there = option_map (λ (entry : ListedItem). (entry.0, length entry.1.value)) there

abbrev pub FieldsAndSize : Type 0
FieldsAndSize = Fields × ℕ

-- the fields of an item, and the length of its value
abbrev pub fields_and_size : Option Item → Option FieldsAndSize
fields_and_size there = option_map (λ (item : Item). (fields_in item, length item.value)) there

-- an entry with this key, and a value of this length, is there
pub record FoundEntry (there : Option ListedItem) (key : List ℕ) (size : ℕ) : Type 0 where
  pub entry : ListedItem
  pub is : there ≡ Some entry
  pub cost : entry_cost entry ≡ length key + size + item_overhead

-- Where a key and a length are found, an entry with them is there.
pub found_entry : (there : Option ListedItem) (key : List ℕ) (size : ℕ)
    → ◌≡◌ {A = Option KeyedSize} (Some (key, size)) (keyed_size there)
    → FoundEntry there key size
found_entry None key size is = absurd cc
found_entry (Some entry) key size is =
    let parts = some_pair_parts key entry.0 size (length entry.1.value) is in
    record { entry = entry; is = refl; cost = rw (parts.0, parts.1) refl }

-- Where no key is found, no entry is there.
pub none_entry : (there : Option ListedItem)
    → ◌≡◌ {A = Option KeyedSize} None (keyed_size there) → there ≡ None
none_entry None is = refl
none_entry (Some entry) is = absurd cc

-- the item with these fields, and a value of this length, is there
pub record FoundLength (there : Option Item) (fields : Fields) (size : ℕ) : Type 0 where
  pub value : List ℕ
  pub is : there ≡ Some (item_with fields value)
  pub length_is : length value ≡ size

-- Where fields and a length are found, an item with them is there.
pub found_length : (there : Option Item) (fields : Fields) (size : ℕ)
    → ◌≡◌ {A = Option FieldsAndSize} (Some (fields, size)) (fields_and_size there)
    → FoundLength there fields size
found_length None fields size is = absurd cc
found_length (Some item) fields size is =
    let parts = some_pair_parts fields (fields_in item) size (length item.value) is in
    record { value = item.value; is = rw parts.0 refl; length_is = sym parts.1 }

-- Where none are found, no item is there.
pub none_length : (there : Option Item)
    → ◌≡◌ {A = Option FieldsAndSize} None (fields_and_size there) → there ≡ None
none_length None is = refl
none_length (Some item) is = absurd cc

-- What is freed by the length of the old value is what the old item cost.
pub freed_is : (there : Option Item) (old : Option ℕ) (key_length freed : ℕ)
    → old ≡ option_map (λ (item : Item). length item.value) there
    → IfSome old (λ size. freed ≡ key_length + size + item_overhead) → IfNone old (freed ≡ 0)
    → freed ≡ freed_by there key_length
freed_is None old key_length freed is some none = rw is at none
freed_is (Some item) old key_length freed is some none = rw is at some

-- What is freed is a number of 64 bits where the old item cost no more than all items may.
pub freed_fits : (there : Option Item) (old : Option ℕ) (key_length most : ℕ)
    → old ≡ option_map (λ (item : Item). length item.value) there → freed_by there key_length ≤ most → most < 2 ^ 64
    → IfSome old (λ size. key_length + size + item_overhead < 2 ^ 64)
freed_fits None old key_length most is less small = rw is tt
freed_fits (Some item) old key_length most is less small = rw is (omega arith)
