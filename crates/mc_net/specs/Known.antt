-- The knowledge of a stream's bytes has at most one proof.
use Rattle.std.specs.Prelude.{ℕ, List, Option, Some, None}
use Rattle.std.specs.Io.KnownBytes.{Appends, Consumes}
use denote.Struct.Props as logic

pub Consumes-prop : (old new : Option (List ℕ)) (bytes : List ℕ) → IsProp (Consumes old new bytes)
Consumes-prop None new bytes = Prim.hlevel logic.props
Consumes-prop (Some old) None bytes = Prim.hlevel logic.props
Consumes-prop (Some old) (Some new) bytes = Prim.hlevel logic.props

pub Appends-prop : (old new : Option (List ℕ)) (bytes : List ℕ) → IsProp (Appends old new bytes)
Appends-prop None new bytes = Prim.hlevel logic.props
Appends-prop (Some old) None bytes = Prim.hlevel logic.props
Appends-prop (Some old) (Some new) bytes = Prim.hlevel logic.props
