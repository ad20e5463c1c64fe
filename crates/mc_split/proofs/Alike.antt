-- Commands that ask the same of the same shards.
use Rattle.std.proofs.Common.{◌≡◌, ℕ, refl, List}
use Rattle.mc_command.specs.declared.command.Command.{Command}
use Rattle.mc_command.specs.declared.command.Command.TheVariants as command
use Rattle.mc_split.specs.Pieces.{pieces_of}
use Rattle.mc_reply.specs.TextLaws.{loud}
use Rattle.mc_command.specs.declared.meta.ReturnFlag.{ReturnFlag}
use Rattle.mc_command.specs.FlagOrder.{with_returned}

-- With `noreply` or `q`, a command asks the same of the same shards as without.
pub asks_as_loud : (shards : ℕ) (command : Command) → pieces_of shards command ≡ pieces_of shards (loud command)
unfolding pieces_of
asks_as_loud shards (command.Store storage) = refl
asks_as_loud shards other = refl

-- Whatever flags it is to return, and in what order, a command asks the same of the same shards.
pub asks_alike : (shards : ℕ) (command : Command) (returned : List ReturnFlag) → pieces_of shards command
    ≡ pieces_of shards (with_returned command returned)
unfolding pieces_of
asks_alike shards (command.MetaGet get) returned = refl
asks_alike shards (command.MetaSet set) returned = refl
asks_alike shards (command.MetaDelete delete) returned = refl
asks_alike shards (command.MetaArithmetic arithmetic) returned = refl
asks_alike shards other returned = refl
