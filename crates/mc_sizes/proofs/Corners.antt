-- The sizes at both ends of their ranges, computed.
use Rattle.std.proofs.Common.{◌≤◌, false, arith, lit≤}
use Rattle.mc_command.specs.declared.rules.Profile.TheVariants.{Own}
use Rattle.mc_sizes.specs.Sizes.{AreWithin}
use Rattle.mc_sizes.specs.declared.sizes.Sizes.{Sizes}

abbrev least : Sizes
least =
    record {
      profile = Own;
      seats = 1;
      shards = 1;
      bytes = 1024;
      ring = 1;
      value = 1024;
      line = 2048;
      window = 1;
      shutdown = false;
    }

abbrev most : Sizes
most =
    record {
      profile = Own;
      seats = 65536;
      shards = 64;
      bytes = 68719476736;
      ring = 1024;
      value = 8388608;
      line = 8388608;
      window = 4096;
      shutdown = false;
    }

least_is_within : AreWithin least
least_is_within = record {
  seats = (lit≤ tt, lit≤ tt);
  shards = (lit≤ tt, lit≤ tt);
  bytes = (lit≤ tt, lit≤ tt);
  ring = (lit≤ tt, lit≤ tt);
  value = (lit≤ tt, lit≤ tt);
  line = (lit≤ tt, lit≤ tt);
  window = (lit≤ tt, lit≤ tt);
}

most_is_within : AreWithin most
most_is_within = record {
  seats = (lit≤ tt, lit≤ tt);
  shards = (lit≤ tt, lit≤ tt);
  bytes = (lit≤ tt, lit≤ tt);
  ring = (lit≤ tt, lit≤ tt);
  value = (lit≤ tt, lit≤ tt);
  line = (lit≤ tt, lit≤ tt);
  window = (lit≤ tt, lit≤ tt);
}

-- One less, or one more, of any size, is out of the limits.
record AreOut : Type 0 where
  no_seat : ¬ AreWithin (record least { seats = 0 })
  no_shard : ¬ AreWithin (record least { shards = 0 })
  few_bytes : ¬ AreWithin (record least { bytes = 1023 })
  no_place : ¬ AreWithin (record least { ring = 0 })
  short_value : ¬ AreWithin (record least { value = 1023 })
  short_line : ¬ AreWithin (record least { line = 2047 })
  no_window : ¬ AreWithin (record least { window = 0 })
  many_seats : ¬ AreWithin (record most { seats = 65537 })
  many_shards : ¬ AreWithin (record most { shards = 65 })
  many_bytes : ¬ AreWithin (record most { bytes = 68719476737 })
  many_places : ¬ AreWithin (record most { ring = 1025 })
  long_value : ¬ AreWithin (record most { value = 8388609 })
  long_line : ¬ AreWithin (record most { line = 8388609 })
  wide_window : ¬ AreWithin (record most { window = 4097 })

are_out : AreOut
are_out = record {
  no_seat = λ all. let bad : 1 ≤ 0 = all.seats.0 in absurd (omega (arith, bad));
  no_shard = λ all. let bad : 1 ≤ 0 = all.shards.0 in absurd (omega (arith, bad));
  few_bytes = λ all. let bad : 1024 ≤ 1023 = all.bytes.0 in absurd (omega (arith, bad));
  no_place = λ all. let bad : 1 ≤ 0 = all.ring.0 in absurd (omega (arith, bad));
  short_value = λ all. let bad : 1024 ≤ 1023 = all.value.0 in absurd (omega (arith, bad));
  short_line = λ all. let bad : 2048 ≤ 2047 = all.line.0 in absurd (omega (arith, bad));
  no_window = λ all. let bad : 1 ≤ 0 = all.window.0 in absurd (omega (arith, bad));
  many_seats = λ all. let bad : 65537 ≤ 65536 = all.seats.1 in absurd (omega (arith, bad));
  many_shards = λ all. let bad : 65 ≤ 64 = all.shards.1 in absurd (omega (arith, bad));
  many_bytes = λ all. let bad : 68719476737 ≤ 68719476736 = all.bytes.1 in absurd (omega (arith, bad));
  many_places = λ all. let bad : 1025 ≤ 1024 = all.ring.1 in absurd (omega (arith, bad));
  long_value = λ all. let bad : 8388609 ≤ 8388608 = all.value.1 in absurd (omega (arith, bad));
  long_line = λ all. let bad : 8388609 ≤ 8388608 = all.line.1 in absurd (omega (arith, bad));
  wide_window = λ all. let bad : 4097 ≤ 4096 = all.window.1 in absurd (omega (arith, bad));
}
