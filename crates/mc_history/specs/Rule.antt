-- The rule of the table: what the tokens of a history know. The table's word has no meaning.
use Rattle.std.specs.Prelude.{ℕ, ◌≡◌, ◌≢◌, ◌+◌, false, List, [], ◌++◌}
use mathlib.Core.Option.{some}
use lib.ListN.{get_elem?}
use Rattle.mc_command.specs.declared.rules.Profile.TheVariants.{Own}
use Rattle.mc_sizes.specs.declared.sizes.Sizes.{Sizes}
use Rattle.mc_model.specs.Grows.{Lengthens}
use Rattle.mc_history.specs.declared.event.Event.{Event}
use Rattle.mc_history.specs.declared.knowledge.Knowledge.{Knowledge}
use Rattle.mc_history.specs.declared.knowledge.Role.{Role}
use Rattle.mc_history.specs.declared.knowledge.Role.TheVariants.{Reader, Seat, Shard, Rest}
use Rattle.mc_history.specs.Lawful.{IsHistory, MayAllFollow}
use Rattle.mc_history.specs.Roles.{AreApart, own_part, seat_of}

-- What was seen and heard begins the history, and of its own part all was seen.
pub record Fits (history : List Event) (v : Knowledge) : Type 0 where
  pub seen : Lengthens v.seen history
  pub heard : Lengthens v.heard history
  pub own : own_part v.role history ≡ own_part v.role v.seen

-- what each token knows fits the history
abbrev pub AllFit : List Event → List Knowledge → Type 0
AllFit history views = (id : ℕ) (v : Knowledge) → get_elem? views id ≡ some v → Fits history v

-- No two tokens may add the same event.
abbrev pub AllApart : List Knowledge → Type 0
AllApart views =
    (i j : ℕ) (v w : Knowledge) → i ≢ j → get_elem? views i ≡ some v → get_elem? views j ≡ some w
    → AreApart v.role w.role

-- There is one lawful history.
pub record IsKept (sizes : Sizes) (views : List Knowledge) : Type 0 where
  pub history : List Event
  pub lawful : IsHistory sizes history
  pub fit : AllFit history views
  pub apart : AllApart views

-- a token, once it has seen these events
abbrev pub seeing : Knowledge → List Event → Knowledge
seeing v history = record { sizes = v.sizes; role = v.role; seen = history; heard = [] }

-- a token that may add nothing
abbrev pub reader : Sizes → List Event → Knowledge
reader sizes seen = record { sizes = sizes; role = Reader; seen = seen; heard = [] }

-- the first token of a history, which may act for all seats and shards
abbrev pub opening : Sizes → Knowledge
opening sizes = record { sizes = sizes; role = Rest 0 0; seen = []; heard = [] }

-- what a token knows that is used up
abbrev pub used_up : Knowledge
used_up =
    reader (record {
      profile = Own;
      seats = 0;
      shards = 0;
      bytes = 0;
      ring = 0;
      value = 0;
      line = 0;
      window = 0;
      shutdown = false;
    }) []

-- the token, once it has heard what the other has seen
abbrev pub hearing : Knowledge → Knowledge → Knowledge
hearing v w = record { sizes = v.sizes; role = v.role; seen = v.seen; heard = w.seen }

-- the first of the shards that a token may act for
abbrev pub shards_from : Role → ℕ
shards_from Reader = 0
shards_from (Seat number) = 0
shards_from (Shard index) = 0
shards_from (Rest seats shards) = shards

-- a token for the first of these seats, and the token for the rest
abbrev pub first_seat : Knowledge → Knowledge
first_seat v = record { sizes = v.sizes; role = Seat (seat_of v.role); seen = v.seen; heard = [] }

abbrev pub later_seats : Knowledge → Knowledge
later_seats v =
    record { sizes = v.sizes; role = Rest (seat_of v.role + 1) (shards_from v.role); seen = v.seen; heard = [] }

-- a token for the first of these shards, and the token for the rest
abbrev pub first_shard : Knowledge → Knowledge
first_shard v = record { sizes = v.sizes; role = Shard (shards_from v.role); seen = v.seen; heard = [] }

abbrev pub later_shards : Knowledge → Knowledge
later_shards v =
    record { sizes = v.sizes; role = Rest (seat_of v.role) (shards_from v.role + 1); seen = v.seen; heard = [] }

-- Whatever others did meanwhile, these events may follow.
abbrev pub MayJoin : Sizes → Role → List Event → List Event → Type 0
MayJoin sizes role seen events =
    (history : List Event) → IsHistory sizes history → Lengthens seen history → own_part role history
    ≡ own_part role seen → MayAllFollow sizes history events

-- The events were added to all that was there, of which the token's own part was known.
pub record Extends (events : List Event) (v w : Knowledge) : Type 0 where
  pub before : List Event
  pub more : Lengthens v.seen before
  pub own : own_part v.role before ≡ own_part v.role v.seen
  pub new : w ≡ seeing v (before ++ events)
  pub lawful : IsHistory v.sizes w.seen

-- All that has happened was seen.
pub record Learns (v w : Knowledge) : Type 0 where
  pub more : Lengthens v.seen w.seen
  pub heard : Lengthens v.heard w.seen
  pub own : own_part v.role w.seen ≡ own_part v.role v.seen
  pub new : w ≡ seeing v w.seen
  pub lawful : IsHistory v.sizes w.seen
