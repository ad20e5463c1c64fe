-- The host name, as the page shows it.
use Rattle.std.specs.Prelude.{ℕ, Bool, ◌||◌, ◌==◌, List, [], if◌then◌else◌}
use Rattle.std.specs.Char.{is_ascii_alphanumeric}
use Rattle.std.specs.List.{list_all}
use Rattle.std.specs.Str.{trim_end}

-- letters, digits, `-` (45), `.` (46) and `_` (95)
abbrev pub is_host_byte : ℕ → Bool
is_host_byte byte = is_ascii_alphanumeric byte || (byte == 45 || (byte == 46 || byte == 95))

-- the text without trailing space, if it is a host name
abbrev pub host_of : List ℕ → List ℕ
host_of text = if list_all is_host_byte (trim_end text) then trim_end text else []
