-- Numeric values of options. The options are a function from names to texts.
use Rattle.std.specs.Prelude.{ℕ, ◌+◌, ◌-◌, ◌*◌, ◌/◌, ◌%◌, ◌^◌, ◌&&◌, ◌||◌, Bool, List, take, length, Option, Some, None}
use Rattle.std.specs.Prelude.{Ok, Err, Result, codes, is_some, nat_eq, nat_le, nat_lt, ok_or, option_and_then}
use Rattle.std.specs.Prelude.{option_map, unwrap_or, if◌then◌else◌}
use Rattle.std.specs.Option.{option_map_or, option_transpose}
use Rattle.std.specs.List.{ends_with}
use Rattle.mc_command.specs.declared.rules.Profile.{Profile}
use Rattle.mc_command.specs.declared.rules.Profile.TheVariants.{Own, DropIn}
use Rattle.mc_wire.specs.Number.{number_of}
use Rattle.mc_sizes.specs.declared.sizes.Sizes.{Sizes}
use Rattle.mc_options.specs.Wrong.{Wrong, NoMode, NoNumber, NoSize, TwoBudgets}
use Rattle.mc_options.specs.Flags.{is_flag, profile_by}

-- the result of the next step, or the error of the one before
abbrev pub and_then : {T U : Type 0} → Result T Wrong → (T → Result U Wrong) → Result U Wrong
and_then (Ok x) next = next x
and_then (Err wrong) next = Err wrong

-- the number, if it is in the range
abbrev pub in_range : ℕ → ℕ → Option ℕ → Option ℕ
in_range least most found =
    option_and_then (λ number. if nat_le least number && nat_le number most then Some number else None) found

-- the text ends with this letter in either case
abbrev pub ends_by : List ℕ → List ℕ → List ℕ → Bool
ends_by text small capital = ends_with nat_eq text small || ends_with nat_eq text capital

-- the text without its last byte
abbrev pub without_last : List ℕ → List ℕ
without_last text = take (length text - 1) text

-- the text without a trailing `b` or `B`
abbrev pub counted_of : List ℕ → List ℕ
counted_of text = if ends_by text (codes "b") (codes "B") then without_last text else text

-- the factor of the unit letter
abbrev pub unit_of : List ℕ → ℕ
unit_of text =
    if ends_by text (codes "k") (codes "K") then 1024
    else if ends_by text (codes "m") (codes "M") then 1048576
    else if ends_by text (codes "g") (codes "G") then 1073741824 else 1

-- the text without that letter
abbrev pub digits_of : List ℕ → List ℕ
digits_of text = if nat_eq (unit_of text) 1 then text else without_last text

-- the product, if it fits in 64 bits
abbrev pub times : ℕ → ℕ → Option ℕ
times unit number = if nat_lt (number * unit) (2 ^ 64) then Some (number * unit) else None

-- the size in bytes in a text that ends with its unit letter, if it has one
abbrev pub scaled_of : List ℕ → Option ℕ
scaled_of text = option_and_then (times (unit_of text)) (number_of (2 ^ 64) (digits_of text))

-- the size in bytes in a text: a number, optionally followed by `k`, `m`, `g`, `b`, `kb`, `mb` or `gb`
abbrev pub bytes_of : List ℕ → Option ℕ
bytes_of text = scaled_of (counted_of text)

-- the number in the text of an option, between the least and the most
abbrev pub number_in : List ℕ → ℕ → ℕ → List ℕ → Result ℕ Wrong
number_in name least most text = ok_or (in_range least most (number_of (2 ^ 64) text)) (NoNumber name text least most)

-- the size in bytes in the text of an option, between the least and the most
abbrev pub size_in : List ℕ → ℕ → ℕ → List ℕ → Result ℕ Wrong
size_in name least most text = ok_or (in_range least most (bytes_of text)) (NoSize name text least most)

-- the number of an option, between the least and the most, if it is given
abbrev pub number_if_given : (List ℕ → Option (List ℕ)) → List ℕ → ℕ → ℕ → Result (Option ℕ) Wrong
number_if_given given name least most = option_transpose (option_map (number_in name least most) (given name))

-- the number of an option, between the least and the most, or its default
abbrev pub number_given : (List ℕ → Option (List ℕ)) → List ℕ → ℕ → ℕ → ℕ → Result ℕ Wrong
number_given given name least default most = option_map_or (number_in name least most) (given name) (Ok default)

-- the size in bytes of an option, between the least and the most, or its default
abbrev pub size_given : (List ℕ → Option (List ℕ)) → List ℕ → ℕ → ℕ → ℕ → Result ℕ Wrong
size_given given name least default most = option_map_or (size_in name least most) (given name) (Ok default)

-- the mode of a Unix socket, from three octal digits that were parsed in decimal
abbrev pub octal : ℕ → Option ℕ
octal digits =
    if nat_le digits 777 && (nat_lt (digits / 10 % 10) 8 && nat_lt (digits % 10) 8)
    then Some (digits / 100 * 64 + digits / 10 % 10 * 8 + digits % 10) else None

abbrev pub mode_in : List ℕ → Result ℕ Wrong
mode_in text = ok_or (option_and_then octal (number_of (2 ^ 64) text)) (NoMode text)

-- the mode of Unix sockets: 0700 by default
abbrev pub mode_by : (List ℕ → Option (List ℕ)) → Result ℕ Wrong
mode_by given = option_map_or mode_in (given (codes "unix-mask")) (Ok 448)

-- the total budget, unless `--bytes` gives that of each shard
abbrev pub unless_bytes : Bool → Result (Option ℕ) Wrong → Result (Option ℕ) Wrong
unless_bytes has_bytes total = if has_bytes then Err TwoBudgets else total

-- the total budget by `--memory`, for at least and at most this number of shards, or by the megabytes of `-m`
abbrev pub memory_of : (fewest most : ℕ) → List ℕ → Result (Option ℕ) Wrong
memory_of fewest most text =
    and_then (size_in (codes "memory") (1024 * fewest) (68719476736 * most) text) (λ size. Ok (Some size))

abbrev pub megabytes_of : ℕ → List ℕ → Result (Option ℕ) Wrong
megabytes_of most text =
    and_then (number_in (codes "memory-limit") 1 (65536 * most) text) (λ number. Ok (Some (number * 1048576)))

-- the total budget, if it is given; no two options may set a budget
abbrev pub total_of : (fewest most : ℕ) → Bool → (memory megabytes : Option (List ℕ)) → Result (Option ℕ) Wrong
total_of fewest most has_bytes None None = Ok None
total_of fewest most has_bytes (Some text) None = unless_bytes has_bytes (memory_of fewest most text)
total_of fewest most has_bytes None (Some text) = unless_bytes has_bytes (megabytes_of most text)
total_of fewest most has_bytes (Some text) (Some other) = Err TwoBudgets

-- the number of shards that are needed for the total
abbrev pub needed_for : ℕ → ℕ
needed_for total = (total + 68719476735) / 68719476736

-- the larger of the two
abbrev pub greater : ℕ → ℕ → ℕ
greater a b = if nat_lt a b then b else a

-- the number of shards, at least these, and the budget of each: an equal part of the total, or the value of
-- `--bytes`
abbrev pub shares_by : (List ℕ → Option (List ℕ)) → ℕ → Option ℕ → Result (ℕ × ℕ) Wrong
shares_by given fewest None =
    and_then (size_given given (codes "bytes") 1024 16777216 68719476736) (λ bytes. Ok (fewest, bytes))
shares_by given fewest (Some total) = Ok (greater fewest (needed_for total), total / greater fewest (needed_for total))

-- the number of shards and the budget of each; without `--shards` there are two, or as many as the memory
-- needs
abbrev pub budget_by : (List ℕ → Option (List ℕ)) → Result (ℕ × ℕ) Wrong
budget_by given =
    and_then (number_if_given given (codes "shards") 1 64) (λ shards.
    and_then (total_of (unwrap_or shards 2) (unwrap_or shards 64) (is_some (given (codes "bytes")))
    (given (codes "memory")) (given (codes "memory-limit"))) (λ total.
    shares_by given (unwrap_or shards 2) total))

-- what all connections together may hold in bytes, by the memory for items: by default a quarter of it, and at
-- least 32 MiB
abbrev pub client_memory_by : (List ℕ → Option (List ℕ)) → ℕ → Result ℕ Wrong
client_memory_by given memory =
    size_given given (codes "client-memory") 16777216 (greater (memory / 4) 33554432) 1099511627776

-- the default line limit
abbrev pub default_line : Profile → ℕ
default_line Own = 65536
default_line DropIn = 1048576

-- the sizes of a server with this number of slots and rings of capacity 20, or the first error
abbrev pub sizes_by : (List ℕ → Option (List ℕ)) → ℕ → Result Sizes Wrong
sizes_by given seats =
    and_then (budget_by given) (λ budget.
    and_then (size_given given (codes "value-limit") 1024 1048576 8388608) (λ value.
    and_then (size_given given (codes "line-limit") 2048 (default_line (profile_by given)) 8388608) (λ line.
    and_then (number_given given (codes "window") 1 256 4096) (λ window.
    Ok (record {
      profile = profile_by given;
      seats = seats;
      shards = budget.0;
      bytes = budget.1;
      ring = 20;
      value = value;
      line = line;
      window = window;
      shutdown = is_flag given (codes "enable-shutdown");
    })))))
