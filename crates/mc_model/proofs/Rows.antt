-- A worked row: one connection flushes one shard, ends and is renewed, and the next one breaks. Each of the
-- ten kinds of event is done.
use Rattle.std.proofs.Common.{◌≡◌, ℕ, zero, suc, ◌<◌, ◌≤◌, true, false, inl, inr, List, [], ◌∷◌, length, Some, refl}
use Rattle.std.proofs.Common.{arith, codes, pos, lit<, subst}
use Rattle.std.specs.List.{slice_get}
use Rattle.std.proofs.lemmas.Bool.Decides.{eqb_tells}
use Rattle.mc_wire.specs.Number.{number_of}
use Rattle.mc_wire.specs.Words.{words_of}
use Rattle.mc_command.specs.declared.command.Command.{Command}
use Rattle.mc_command.specs.declared.command.Command.TheVariants as command
use Rattle.mc_command.specs.Name.{name_of}
use Rattle.mc_command.specs.Table.{line_of}
use Rattle.mc_command.specs.declared.rules.Profile.TheVariants.{Own}
use Rattle.mc_sizes.specs.Sizes.{rules_of}
use Rattle.mc_sizes.specs.declared.sizes.Sizes.{Sizes}
use Rattle.mc_item.specs.declared.answer.Answer.TheVariants as answer
use Rattle.mc_item.specs.declared.op.Op.TheVariants as op
use Rattle.mc_item.specs.Expiry.{expiry_of}
use Rattle.mc_item.specs.Kind.{key_of, kind_of}
use Rattle.mc_split.specs.declared.plan.Piece.{Piece}
use Rattle.mc_split.specs.Pieces.{pieces_of}
use Rattle.mc_reply.specs.ReplyKind.{reply_kind_of}
use Rattle.mc_reply.specs.Text.{reply_kind_text}
use Rattle.mc_reader.specs.Spelling.{AreCommands, BeginCommands, Spells}
use Rattle.mc_reader.proofs.Machine.{lined}
use Rattle.mc_reader.proofs.Texts.{nothing_without_end}
use Rattle.mc_store.specs.State.{State, empty_state}
use Rattle.mc_store.specs.Step.{Answers, IsStep, noted_in, step_of}
use Rattle.mc_conn.specs.History.{Taken}
use Rattle.mc_conn.specs.Due.{due, ticket_at}
use Rattle.mc_conn.specs.Fits.{HasCome}
use Rattle.mc_model.specs.Log.{Entry}
use Rattle.mc_model.specs.World.{IsAt, Link, World, new_link}
use Rattle.mc_model.specs.Rest.{AtRest}
use Rattle.mc_model.specs.Events.{RunsNext, one_more}
use Rattle.mc_model.specs.Events.Event.{Open, Feed, Take, Send, Pop, Give, Receive, Hand, End, Break}
use Rattle.mc_model.specs.Schedule.{Schedule}
use Rattle.mc_model.specs.declared.event.StepReply.TheVariants.{Done}
use Rattle.mc_model.specs.Headline.{handed_bytes}
use Rattle.mc_reader.proofs.Rows.{no_end}
use Rattle.mc_reply.specs.Server.{no_server}

-- a server of one seat and one shard, with one place on a ring and one open command
abbrev pub one_each : Sizes
one_each =
    record {
      profile = Own;
      seats = 1;
      shards = 1;
      bytes = 1024;
      ring = 1;
      value = 1024;
      line = 65536;
      window = 1;
      shutdown = false;
    }

-- the bytes that the connection is fed: one line
abbrev pub line : List ℕ
line = codes "flush_all\r\n"

-- the command in them
abbrev pub flush : Command
flush = command.FlushAll (pos 0) false

-- that command, as it is taken
abbrev pub one : Taken
one = record { entry = flush; moment = 1000; server = no_server; given_up = false }

-- its one piece: the shard is asked to empty itself
abbrev pub piece : Piece
piece = record { ticket = ticket_at 0; part = 0; op = op.Flush (pos 0); moment = 1000 }

-- what the log has of its piece: it was done
abbrev pub entry : Entry
entry = record { shard = 0; asker = 0; piece = piece; answer = answer.Done }

-- a count for the one shard
abbrev pub counted : ℕ → ℕ
counted = one_more (λ _. 0) 0

-- the connection once it was fed the line
abbrev pub fed : Link
fed = record (new_link 0) { fed = line }

-- the connection once its command was taken
abbrev pub taken : Link
taken = record fed { taken = one ∷ [] }

-- the connection once its piece was sent
abbrev pub sent : Link
sent = record taken { sent = 1 }

-- the connection once the shard gave the answer
abbrev pub given : Link
given = record sent { given = counted }

-- the connection once it received the answer
abbrev pub received : Link
received = record given { received = counted }

-- the connection once it was handed the reply
abbrev pub handed : Link
handed = record received { handed = 1 }

-- the connection once it ended
abbrev pub ended : Link
ended = record handed { ended = true }

-- the world of one connection
abbrev pub alone : List Entry → Link → World
alone log link = record { log = log; links = link ∷ [] }

-- and of two
abbrev pub both : Link → World
both link = record { log = entry ∷ []; links = ended ∷ link ∷ [] }

-- the next connection on the seat, once it broke
abbrev pub broken : Link
broken = record (new_link 0) { broken = true }

-- There is one connection, at the first index.
pub only : (x y : Link) (j : ℕ) → 0 < j → slice_get (x ∷ []) j ≡ Some y → ⊥
only x y zero less here = absurd (omega (arith, less))
only x y (suc j) less here = absurd (cc)

-- There are two connections, at the first two indices.
pub only_two : (x z y : Link) (j : ℕ) → 1 < j → slice_get (x ∷ z ∷ []) j ≡ Some y → ⊥
only_two x z y zero less here = absurd (omega (arith, less))
only_two x z y (suc j) less here = only z y j (omega (arith, less)) here

-- The line is the text of the command that removes all items.
pub spells_flush : Spells (rules_of one_each) line flush
unfolding line_of words_of name_of number_of
spells_flush =
    lined (rules_of one_each) (codes "flush_all\r") [] flush (no_end (codes "flush_all\r") refl) (lit< tt) refl refl

-- The first command of the line is that one.
pub begins : BeginCommands (rules_of one_each) line (flush ∷ [])
begins = ([], (line, [], refl, spells_flush, refl))

-- The bytes fed are the one command.
pub all_taken : AreCommands (rules_of one_each) line (flush ∷ [])
all_taken = ([], (line, [], refl, spells_flush, refl), nothing_without_end (rules_of one_each) [] tt (lit< tt))

-- Once its one answer was received, all that the command needs has come.
pub come : HasCome 1 (one ∷ []) counted 1
unfolding pieces_of
come s = elim (eqb_tells 0 s) [
  | inl here ↦ subst (λ t. length (due 1 t (one ∷ [])) ≤ counted t) here.1 (omega arith)
  | inr other ↦ rw other.0 (omega arith)
]

-- the shard at the time of the flush
abbrev at_flush : State
at_flush = record (empty_state 0 1 1024 0 1024) { time = 1000 }

runs : RunsNext one_each (alone [] sent) 0 0 sent entry
unfolding IsStep Answers step_of pieces_of expiry_of kind_of key_of
runs = record {
  shard_is = refl;
  asker_is = refl;
  next = refl;
  before = empty_state 0 1 1024 0 1024;
  after = noted_in at_flush at_flush piece.op entry.answer;
  left = refl;
  step = (at_flush, inr refl, refl);
}

-- The connection is at rest once its line has ended.
pub at_rest : AtRest one_each ended
unfolding pieces_of
at_rest = (all_taken, refl, refl)

-- If there is only one connection, it is the one that its seat has.
pub at_alone : (log : List Entry) (link : Link) → link.seat ≡ 0 → IsAt (alone log link) 0 0 link
at_alone log link seat =
    record { here = refl; seat_is = seat; last = λ j other less here same. only link other j less here }

-- all ten kinds of event are done
goes : Schedule one_each
    (Open 0 ∷ Feed 0 line ∷ Take 0 1000 ∷ Send 0 ∷ Pop 0 0 ∷ Give 0 ∷ Receive 0 0 ∷ Hand 0 ∷ End 0 ∷ Open 0 ∷ Break 0 ∷
    []) (both broken)
unfolding pieces_of
goes = (
  Done,
  alone [] (new_link 0),
  (0, new_link 0, (refl, refl, lit< tt, inl (λ k link here same. absurd (cc))), refl),
  (
    Done,
    alone [] fed,
    (
      0,
      new_link 0,
      (at_alone [] (new_link 0) refl, refl, refl, lit< tt),
      (11, record { within = omega arith; whole = λ used short. refl; some = λ all room some. lit< tt }, lit< tt, refl),
    ),
    (
      Done,
      alone [] taken,
      (
        0,
        fed,
        (at_alone [] fed refl, (flush, begins), lit< tt, refl),
        (one, record { next = begins; moment_is = refl; may = λ gone. absurd (cc) }, refl),
      ),
      (
        Done,
        alone [] sent,
        (0, taken, (at_alone [] taken refl, record { piece = (0, piece); next = refl; room = lit< tt }), refl),
        (
          Done,
          alone (entry ∷ []) sent,
          (0, sent, (at_alone [] sent refl, λ k link here. omega arith, lit< tt), (entry, runs, refl)),
          (
            Done,
            alone (entry ∷ []) given,
            (0, sent, (refl, lit< tt, lit< tt), refl),
            (
              Done,
              alone (entry ∷ []) received,
              (0, given, (at_alone (entry ∷ []) given refl, lit< tt), refl),
              (
                Done,
                alone (entry ∷ []) handed,
                (
                  0,
                  received,
                  (at_alone (entry ∷ []) received refl, lit< tt, come, refl),
                  (1, record { within = omega arith; come = come; most = λ more within has. within }, refl),
                ),
                (
                  Done,
                  alone (entry ∷ []) ended,
                  (0, handed, (at_alone (entry ∷ []) handed refl, refl), refl),
                  (
                    Done,
                    both (new_link 0),
                    (
                      1,
                      new_link 0,
                      (
                        refl,
                        refl,
                        lit< tt,
                        inr (0, ended, at_alone (entry ∷ []) ended refl, (at_rest, inl (inr (refl, all_taken)))),
                      ),
                      refl,
                    ),
                    (
                      Done,
                      both broken,
                      (
                        1,
                        new_link 0,
                        (
                          record {
                            here = refl;
                            seat_is = refl;
                            last = λ j other less here same. only_two ended (new_link 0) other j less here;
                          },
                          refl,
                        ),
                        refl,
                      ),
                      refl,
                    ),
                  ),
                ),
              ),
            ),
          ),
        ),
      ),
    ),
  ),
)

-- and the first connection, followed by another, has its reply
replied : handed_bytes one_each (both broken) 0 ended ≡ codes "OK\r\n"
unfolding pieces_of reply_kind_of reply_kind_text kind_of
replied = refl
