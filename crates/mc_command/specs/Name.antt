-- The names of the commands, in lower case (protocol.txt).
use Rattle.std.specs.Prelude.{ℕ, true, false, List, [], ◌∷◌, Option, codes}
use Rattle.std.specs.Map.{lookup}
use Rattle.std.specs.Str.{bytes_eq}
use Rattle.mc_command.specs.declared.command.StoreMode.TheVariants as mode
use Rattle.mc_command.specs.declared.command.Direction.TheVariants.{Increment, Decrement}
use Rattle.mc_command.specs.declared.meta.MetaKind.TheVariants as meta
use Rattle.mc_command.specs.declared.name.CommandName.{CommandName}
use Rattle.mc_command.specs.declared.name.CommandName.TheVariants as name

-- each name with its command
abbrev pub names : List (List ℕ × CommandName)
names =
    (codes "get", name.Get false) ∷ (codes "gets", name.Get true) ∷
    (codes "gat", name.GetAndTouch false) ∷ (codes "gats", name.GetAndTouch true) ∷
    (codes "set", name.Store mode.Set) ∷ (codes "add", name.Store mode.Add) ∷
    (codes "replace", name.Store mode.Replace) ∷ (codes "append", name.Store mode.Append) ∷
    (codes "prepend", name.Store mode.Prepend) ∷ (codes "cas", name.CompareAndSwap) ∷
    (codes "mg", name.Meta meta.Get) ∷ (codes "ms", name.Meta meta.Set) ∷
    (codes "md", name.Meta meta.Delete) ∷ (codes "ma", name.Meta meta.Arithmetic) ∷
    (codes "mn", name.MetaNoop) ∷ (codes "delete", name.Delete) ∷
    (codes "incr", name.Count Increment) ∷ (codes "decr", name.Count Decrement) ∷
    (codes "touch", name.Touch) ∷ (codes "flush_all", name.FlushAll) ∷
    (codes "version", name.Version) ∷ (codes "verbosity", name.Verbosity) ∷
    (codes "quit", name.Quit) ∷ (codes "stats", name.Stats) ∷
    (codes "shutdown", name.Shutdown) ∷ []

-- the command of that name
unfoldable pub name_of : List ℕ → Option CommandName
name_of word = lookup (bytes_eq word) names
