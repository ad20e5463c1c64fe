-- What a connection knows of `shutdown`.
use Rattle.std.proofs.Common.{◌≡◌, ◌||◌, Bool, true, false, if◌then◌else◌, List, [], ◌∷◌, map, refl, sym, ap, ◌∙◌}
use Rattle.std.specs.Prelude.{IsTrue}
use Rattle.std.specs.List.{AllByRecursion}
use Rattle.mc_command.specs.declared.command.Command.{Command}
use Rattle.mc_command.specs.declared.command.Command.TheVariants as command
use Rattle.mc_command.specs.declared.error.CommandError.TheVariants.{Memory}
use Rattle.mc_command.specs.Command.{can_give_up}
use Rattle.mc_conn.specs.declared.conn.Conn.{Conn}
use Rattle.mc_conn.specs.Conn.{IfConn, IsConn}
use Rattle.mc_conn.specs.History.{MayBeTaken, Taken, carried_out}
use Rattle.mc_conn.specs.Shutdown.{asks_shutdown, is_shutdown}

-- What is tested to be `shutdown` is it.
pub shutdown_is : (asked : Command) → is_shutdown asked ≡ true → asked ≡ command.Shutdown
shutdown_is command.Shutdown asks = refl
shutdown_is other asks = absurd (cc asks)

-- `shutdown` is never given up.
given_up_asks : (asked : Command) → IsTrue (can_give_up asked) → is_shutdown asked ≡ false
given_up_asks command.Shutdown may = absurd (cc may)
given_up_asks other may = refl

planned_asks : (up : Bool) (asked : Command) → (IsTrue up → IsTrue (can_give_up asked))
    → is_shutdown (if up then command.Refused Memory else asked) ≡ is_shutdown asked
planned_asks true asked may = sym (given_up_asks asked (may refl))
planned_asks false asked may = refl

asks_carried : (taken : List Taken) → AllByRecursion MayBeTaken taken → asks_shutdown (map carried_out taken)
    ≡ asks_shutdown taken
asks_carried [] may = refl
asks_carried (one ∷ later) may =
    ap (λ (b : Bool). b || asks_shutdown (map carried_out later)) (planned_asks one.given_up one.entry may.0)
    ∙ ap (λ (b : Bool). is_shutdown one.entry || b) (asks_carried later may.1)

-- The log has a `shutdown` where one was taken.
pub asks_flow : (conn : Conn) → IfConn conn (λ flow. asks_shutdown conn.dispatcher.log ≡ asks_shutdown flow.taken)
unfolding IsConn
asks_flow conn flow h = ap asks_shutdown h.logged ∙ asks_carried flow.taken h.may
