-- The times at which a line is served, by the options.
use Rattle.std.specs.Prelude.{ℕ, ◌≡◌, Option, Some, None}

-- A command may have this time: the given one, or any that the machine's clock returns.
abbrev pub MayBe : Option ℕ → ℕ → Type 0
MayBe None moment = Unit {0}
MayBe (Some given) moment = moment ≡ given
