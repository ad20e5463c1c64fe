-- When a connection is at rest, and when it is closed.
use Rattle.std.specs.Prelude.{ℕ, ◌≡◌, ◌+◌, ◌<◌, ◌⊎◌, [], ◌∷◌, ◌++◌, length, IsTrue, MatchBool}
use Rattle.mc_command.specs.declared.command.Command.{Command}
use Rattle.mc_sizes.specs.Sizes.{rules_of}
use Rattle.mc_sizes.specs.declared.sizes.Sizes.{Sizes}
use Rattle.mc_reader.specs.Spelling.{SpellsFront, is_closed}
use Rattle.mc_conn.specs.Due.{due, pieces}
use Rattle.mc_model.specs.Sized.{SpellAll, SpellFirst}
use Rattle.mc_model.specs.World.{Link, entries}

-- Every command in the input is parsed.
abbrev pub IsAllTaken : Sizes → Link → Type 0
IsAllTaken sizes link = SpellAll sizes link.fed (entries link)

-- This is the next command in the input.
abbrev pub IsNextCommand : Sizes → Link → Command → Type 0
IsNextCommand sizes link command = SpellFirst sizes link.fed (entries link ++ command ∷ [])

-- Every byte fed belongs to a command that was parsed.
abbrev pub IsUsedUp : Sizes → Link → Type 0
IsUsedUp sizes link = SpellsFront (rules_of sizes) 0 link.fed (entries link) []

-- Every piece of the commands taken was sent.
abbrev pub IsAllSent : Sizes → Link → Type 0
IsAllSent sizes link = link.sent ≡ length (pieces sizes.shards link.taken)

-- Every answer to these pieces was received.
abbrev pub IsAllReceived : Sizes → Link → Type 0
IsAllReceived sizes link = (shard : ℕ) → link.received shard ≡ length (due sizes.shards shard link.taken)

-- The window allows one more command.
abbrev pub HasWindow : Sizes → Link → Type 0
HasWindow sizes link = length link.taken < link.handed + sizes.window

-- Nothing is left to do. For a connection that hasn't failed, every command is parsed, sent and answered; for
-- a failed one, the commands parsed are sent and their answers received.
abbrev pub AtRest : Sizes → Link → Type 0
AtRest sizes link =
    MatchBool link.broken (IsAllSent sizes link × IsAllReceived sizes link)
    (IsAllTaken sizes link × IsAllSent sizes link × (link.handed ≡ length link.taken))

-- Nothing more is parsed, whatever is fed: a command closed the stream, or the input has ended and all its
-- commands are parsed.
abbrev pub IsClosed : Sizes → Link → Type 0
IsClosed sizes link = IsTrue (is_closed (entries link)) ⊎ (IsTrue link.ended × IsAllTaken sizes link)

-- A new connection may replace this one.
abbrev pub MayRenew : Sizes → Link → Type 0
MayRenew sizes link = AtRest sizes link × (IsClosed sizes link ⊎ IsTrue link.broken)
