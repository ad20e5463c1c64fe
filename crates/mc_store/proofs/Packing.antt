-- What is packed is found again.
use Rattle.std.proofs.Common.{◌≡◌, ℕ, ◌+◌, ◌*◌, ◌/◌, ◌%◌, ◌^◌, ◌<◌, ◌==◌, Bool, true, false, refl, arith}
use Rattle.std.proofs.lemmas.Nat.{div-mul-add, mod-mul-add}
use Rattle.mc_store.specs.declared.fields.Fields.{Fields}
use Rattle.mc_store.specs.internal.Stored.{bit, fields_of, marks_in, packed}

-- three bits in front of a multiple of eight
record AreMarks (rest : ℕ) (first second third : Bool) : Type 0 where
  one : ((rest * 8 + (bit first 1 + bit second 2 + bit third 4)) % 2 == 1) ≡ first
  two : ((rest * 8 + (bit first 1 + bit second 2 + bit third 4)) / 2 % 2 == 1) ≡ second
  four : ((rest * 8 + (bit first 1 + bit second 2 + bit third 4)) / 4 % 2 == 1) ≡ third

are_marks : (rest : ℕ) (first second third : Bool) → AreMarks rest first second third
are_marks rest false false false = record {
  one = (let e : (rest * 8 + 0) % 2 ≡ 0 = omega arith in rw e refl);
  two = (let e : (rest * 8 + 0) / 2 % 2 ≡ 0 = omega arith in rw e refl);
  four = (let e : (rest * 8 + 0) / 4 % 2 ≡ 0 = omega arith in rw e refl);
}
are_marks rest true false false = record {
  one = (let e : (rest * 8 + 1) % 2 ≡ 1 = omega arith in rw e refl);
  two = (let e : (rest * 8 + 1) / 2 % 2 ≡ 0 = omega arith in rw e refl);
  four = (let e : (rest * 8 + 1) / 4 % 2 ≡ 0 = omega arith in rw e refl);
}
are_marks rest false true false = record {
  one = (let e : (rest * 8 + 2) % 2 ≡ 0 = omega arith in rw e refl);
  two = (let e : (rest * 8 + 2) / 2 % 2 ≡ 1 = omega arith in rw e refl);
  four = (let e : (rest * 8 + 2) / 4 % 2 ≡ 0 = omega arith in rw e refl);
}
are_marks rest true true false = record {
  one = (let e : (rest * 8 + 3) % 2 ≡ 1 = omega arith in rw e refl);
  two = (let e : (rest * 8 + 3) / 2 % 2 ≡ 1 = omega arith in rw e refl);
  four = (let e : (rest * 8 + 3) / 4 % 2 ≡ 0 = omega arith in rw e refl);
}
are_marks rest false false true = record {
  one = (let e : (rest * 8 + 4) % 2 ≡ 0 = omega arith in rw e refl);
  two = (let e : (rest * 8 + 4) / 2 % 2 ≡ 0 = omega arith in rw e refl);
  four = (let e : (rest * 8 + 4) / 4 % 2 ≡ 1 = omega arith in rw e refl);
}
are_marks rest true false true = record {
  one = (let e : (rest * 8 + 5) % 2 ≡ 1 = omega arith in rw e refl);
  two = (let e : (rest * 8 + 5) / 2 % 2 ≡ 0 = omega arith in rw e refl);
  four = (let e : (rest * 8 + 5) / 4 % 2 ≡ 1 = omega arith in rw e refl);
}
are_marks rest false true true = record {
  one = (let e : (rest * 8 + 6) % 2 ≡ 0 = omega arith in rw e refl);
  two = (let e : (rest * 8 + 6) / 2 % 2 ≡ 1 = omega arith in rw e refl);
  four = (let e : (rest * 8 + 6) / 4 % 2 ≡ 1 = omega arith in rw e refl);
}
are_marks rest true true true = record {
  one = (let e : (rest * 8 + 7) % 2 ≡ 1 = omega arith in rw e refl);
  two = (let e : (rest * 8 + 7) / 2 % 2 ≡ 1 = omega arith in rw e refl);
  four = (let e : (rest * 8 + 7) / 4 % 2 ≡ 1 = omega arith in rw e refl);
}

marks_small : (first second third : Bool) → bit first 1 + bit second 2 + bit third 4 < 8
marks_small false false false = omega arith
marks_small true false false = omega arith
marks_small false true false = omega arith
marks_small true true false = omega arith
marks_small false false true = omega arith
marks_small true false true = omega arith
marks_small false true true = omega arith
marks_small true true true = omega arith

-- The place is found again.
pub packed_place : (fields : Fields) (place high : ℕ) → high < 512 → packed place high (marks_in fields) / 4096 ≡ place
packed_place fields place high small =
    let few = marks_small fields.fetched fields.stale fields.sent in
    let sum : packed place high (marks_in fields) ≡ place * 4096 + (high * 8 + marks_in fields) = omega arith in
    let below : high * 8 + marks_in fields < 4096 = omega (arith, few, small) in
    rw sum (div-mul-add place 4096 (high * 8 + marks_in fields) below)

-- The upper part of the last access is found again.
packed_high : (fields : Fields) (place high : ℕ) → high < 512 → packed place high (marks_in fields) / 8 % 512 ≡ high
packed_high fields place high small =
    let few = marks_small fields.fetched fields.stale fields.sent in
    let rest : packed place high (marks_in fields) / 8 ≡ place * 512 + high
    = div-mul-add (place * 512 + high) 8 (marks_in fields) few in
    rw rest (mod-mul-add place 512 high small)

-- The fields are found again.
pub packed_fields : (fields : Fields) (place : ℕ) → fields.last_access < 2 ^ 41 →
    fields_of (record {
      expiry = fields.expiry;
      unique = fields.unique;
      packed = packed place (fields.last_access / 2 ^ 32) (marks_in fields);
      flags = fields.flags;
      access = fields.last_access % 2 ^ 32;
    }) ≡ fields
packed_fields fields place time =
    let high : fields.last_access / 2 ^ 32 < 512 = omega (arith, time) in
    let marks = are_marks (place * 512 + fields.last_access / 2 ^ 32) fields.fetched fields.stale fields.sent in
    let whole : fields.last_access / 2 ^ 32 * 2 ^ 32 + fields.last_access % 2 ^ 32 ≡ fields.last_access = omega arith in
    rw (marks.one, marks.two, marks.four, packed_high fields place (fields.last_access / 2 ^ 32) high, whole) refl
