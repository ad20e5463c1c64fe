-- What later events preserve of a connection: nothing is taken back.
use Rattle.std.specs.Prelude.{ℕ, ◌≡◌, ◌≤◌, List, ◌++◌}
use Rattle.mc_sizes.specs.declared.sizes.Sizes.{Sizes}
use Rattle.mc_model.specs.Log.{of_asker}
use Rattle.mc_model.specs.World.{IsLink, Link, World}
use Rattle.mc_model.specs.Headline.{handed_bytes}

-- The second list extends the first one.
abbrev pub Lengthens : {X : Type 0} → List X → List X → Type 0
Lengthens {X} old new = (more : List X) × (new ≡ old ++ more)

-- The connection still exists, and its input, commands, answers and output have only been extended.
pub record Grows (sizes : Sizes) (w : World) (k : ℕ) (link : Link) (w' : World) : Type 0 where
  pub later : Link
  pub here : IsLink w' k later
  pub seat : later.seat ≡ link.seat
  pub fed : Lengthens link.fed later.fed
  pub taken : Lengthens link.taken later.taken
  pub answered : Lengthens (of_asker k w.log) (of_asker k w'.log)
  pub handed : link.handed ≤ later.handed
  pub bytes : Lengthens (handed_bytes sizes w k link) (handed_bytes sizes w' k later)
