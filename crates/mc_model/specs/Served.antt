-- A connection that has the shards to itself, by the lists of its calls and the log.
use Rattle.std.specs.Prelude.{ℕ, ◌≡◌, ◌≢◌, false, List}
use Rattle.std.specs.List.{AllByRecursion}
use Rattle.mc_sizes.specs.declared.sizes.Sizes.{Sizes}
use Rattle.mc_item.specs.declared.answer.Answer.TheVariants.{NoMemory}
use Rattle.mc_conn.specs.Due.{due}
use Rattle.mc_conn.specs.Fits.{Fits}
use Rattle.mc_conn.specs.Flow.{Flow}
use Rattle.mc_model.specs.Log.{Entry, IsLawful, on_shard, pieces_in, replies_in}

-- Each shard ran exactly what is due there for the commands parsed, in order, and its answers are those that
-- the connection accepted. No command was given up, and no shard was refused memory.
pub record IsServedAlone (sizes : Sizes) (flow : Flow) (log : List Entry) : Type 0 where
  pub shards : flow.shards ≡ sizes.shards
  pub lawful : IsLawful sizes log
  pub ran : (s : ℕ) → pieces_in (on_shard s log) ≡ due flow.shards s flow.taken
  pub answers : Fits flow.shards flow.taken flow.accepted (λ s. replies_in (on_shard s log))
  pub kept : AllByRecursion (λ one. one.given_up ≡ false) flow.taken
  pub had : AllByRecursion (λ reply. reply.answer ≢ NoMemory) flow.accepted
