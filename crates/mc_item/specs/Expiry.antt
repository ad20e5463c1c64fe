-- When items die (protocol.txt, "Expiration times").
use Rattle.std.specs.Prelude.{ℕ, ◌+◌, ◌-◌, Bool, false, ℤ, pos, negsuc, Option, Some, None, nat_le, ◌==◌, if◌then◌else◌}
use Rattle.mc_item.specs.declared.item.Expiry.{Expiry}
use Rattle.mc_item.specs.declared.item.Expiry.TheVariants.{Never, At}

-- the longest exptime, in seconds, that counts from now: 30 days
abbrev pub longest_delay : ℕ
longest_delay = 2592000

-- What an exptime means at the second now: 0 is never, a negative one is dead at once, one of up to 30 days
-- counts from now, and a longer one is a second since 1970.
unfoldable pub expiry_of : ℤ → ℕ → Expiry
expiry_of (negsuc below) now = At now
expiry_of (pos exptime) now =
    if exptime == 0 then Never
    else (if nat_le exptime longest_delay then At (now + exptime) else At exptime)

-- whether it is at or past the expiry
unfoldable pub is_dead : Expiry → ℕ → Bool
is_dead Never now = false
is_dead (At second) now = nat_le second now

-- the seconds that are left, 0 where it is past the expiry; none is never
unfoldable pub seconds_left : Expiry → ℕ → Option ℕ
seconds_left Never now = None
seconds_left (At second) now = Some (second - now)
