-- Connections that rest with the same numbers are the same for all that contracts say.
use Rattle.std.proofs.Common.{sym, ap, ◌∙◌}
use Rattle.mc_reader.specs.Reader as reader
use Rattle.mc_reader.proofs.AtRest.{same_given}
use Rattle.mc_join.specs.Held.{Held}
use Rattle.mc_conn.specs.declared.conn.Conn.{Conn}
use Rattle.mc_conn.specs.declared.resting.RestingConn.{RestingConn}
use Rattle.mc_conn.specs.Conn.{IsConn, RestsAs}
use Rattle.mc_conn.specs.Flow.{Flow}

-- They have the same flows.
pub same_flow : (resting : RestingConn) (was now : Conn) → RestsAs resting was → RestsAs resting now → (flow : Flow)
    → IsConn was flow → IsConn now flow
unfolding IsConn
same_flow resting was now a b flow is = record {
  given = is.given;
  texts = is.texts;
  shards = b.shards ∙ sym a.shards ∙ is.shards;
  window = ap (λ (held : Held). held.window) (b.replies ∙ sym a.replies) ∙ is.window;
  broken = b.whole ∙ sym a.whole ∙ is.broken;
  read =
      same_given resting.reader was.reader now.reader a.reads b.reads flow.rules flow.fed flow.ended is.given is.read;
  spelled = is.spelled;
  may = is.may;
  logged = b.log ∙ sym a.log ∙ is.logged;
  joined = rw (b.replies ∙ sym a.replies) is.joined;
  handed = is.handed;
  bounded = is.bounded;
  works = λ _. ap (λ (held : Held). held.gone) b.replies;
  within = is.within;
  unsent = rw (b.none_back ∙ sym a.none_back, b.none_unsent ∙ sym a.none_unsent) is.unsent;
  lent = λ lent. (b.none_back, (is.lent lent).1);
}
