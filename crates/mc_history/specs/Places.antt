-- Which connection a line is by a history that was shown when the line began.
use Rattle.std.specs.Prelude.{◌-◌, length, true}
use Rattle.mc_wire.specs.Sink.{Sight}
use Rattle.mc_transport.specs.Place.{Place}
use Rattle.mc_history.specs.Tokens.{Sight as Shown}
use Rattle.mc_history.specs.Worlds.{seats_in}

-- the last connection that was opened, of whose line this was seen then
abbrev pub place_in : Shown → Sight → Place
place_in shown begin = record {
  name = shown.name;
  begun = true;
  number = length (seats_in shown.events) - 1;
  begin = begin;
}
