-- Which channel it is, as the evidence knows it that requests and replies carry.
use Rattle.std.specs.Prelude.{ℕ, false, []}
use Rattle.atomic_table.specs.Seated.{TableId}
use Rattle.mc_command.specs.declared.rules.Profile.TheVariants.{Own}
use Rattle.mc_sizes.specs.declared.sizes.Sizes.{Sizes}

-- which history it is, and the sizes of its server
pub record Name : Type 0 where
  pub table : TableId
  pub sizes : Sizes

-- a channel: the numbers of its seat and of its shard, and the history of which its tokens are
pub record Route : Type 0 where
  pub seat : ℕ
  pub shard : ℕ
  pub name : Name

-- the name of no history
abbrev pub no_history : Name
no_history = record {
  table = record { words = 0; slots = 0; views_name = 0; atom = 0; block = 0; offset = 0; slot_names = [] };
  sizes =
      record {
        profile = Own;
        seats = 0;
        shards = 0;
        bytes = 0;
        ring = 0;
        value = 0;
        line = 0;
        window = 0;
        shutdown = false;
      };
}
