-- The other lines of a replay file: the ten kinds of event. A line may only name seats and shards that exist.
use Rattle.std.specs.Prelude.{ℕ, ◌^◌, List, [], ◌∷◌, Option, None, codes, find, if◌then◌else◌}
use Rattle.std.specs.Option.{option_and_then, option_map}
use Rattle.std.specs.Str.{bytes_eq}
use Rattle.mc_wire.specs.Number.{number_of}
use Rattle.mc_sizes.specs.declared.sizes.Sizes.{Sizes}
use Rattle.mc_model.specs.Events.{Event}
use Rattle.mc_model.specs.Events.Event.{Open, Feed, Take, Send, Pop, Give, Receive, Hand, End, Break}
use Rattle.mc_replay.specs.Text.{hex_bytes}

-- the event made of two values, if both are valid
unfoldable pub both : {A B : Type 0} → (A → B → Event) → Option A → Option B → Option Event
both make first second = option_and_then (λ one. option_map (λ two. make one two) second) first

-- open c, send c, hand c, end c, break c
abbrev pub seat_events : ℕ → List (List ℕ × Event)
seat_events seat =
    (codes "open", Open seat) ∷ (codes "send", Send seat) ∷ (codes "hand", Hand seat) ∷ (codes "end", End seat) ∷
    (codes "break", Break seat) ∷ []

-- the event of that name of a seat alone
abbrev pub seat_event : List ℕ → ℕ → Option Event
seat_event name seat = option_map (λ row. row.1) (find (λ row. bytes_eq name row.0) (seat_events seat))

-- the event on a line of these words, for a server of these sizes
abbrev pub event_of : Sizes → List (List ℕ) → Option Event
event_of sizes (name ∷ word ∷ []) =
    if bytes_eq name (codes "give") then option_map Give (number_of sizes.shards word)
    else option_and_then (seat_event name) (number_of sizes.seats word)
event_of sizes (name ∷ first ∷ second ∷ []) =
    if bytes_eq name (codes "receive") then both Receive (number_of sizes.seats first) (number_of sizes.shards second)
    else if bytes_eq name (codes "feed") then both Feed (number_of sizes.seats first) (hex_bytes second)
    else if bytes_eq name (codes "take") then both Take (number_of sizes.seats first) (number_of (2 ^ 64) second)
    else if bytes_eq name (codes "pop") then both Pop (number_of sizes.shards first) (number_of sizes.seats second)
    else None
event_of sizes words = None
