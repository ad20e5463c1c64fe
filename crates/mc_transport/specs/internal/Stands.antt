-- What is between a line and its connection while the line is served.
use Rattle.std.specs.Prelude.{ℕ, ◌≡◌, ◌≤◌, Bool, true, false, List, [], ◌++◌, length, take}
use Rattle.std.specs.List.{AllByRecursion, concat}
use Rattle.mc_wire.specs.Sink.{with_bytes}
use Rattle.mc_conn.specs.History.{Taken}
use Rattle.mc_ring.specs.Reply.{Shown}
use Rattle.mc_conn.specs.Fits.{KeysFit}
use Rattle.mc_conn.specs.Flow.{Flow, all_texts, commands_of}
use Rattle.mc_wire.specs.Sink.{Read, Sight, with_reads}
use Rattle.mc_transport.specs.Reads.{OwesNothing}
use Rattle.mc_command.specs.declared.rules.Rules.{Rules}

-- Between begin and now the line gave the bytes fed and those unread, and took these texts.
pub record GaveAndTook (rules : Rules) (fits : Type 0) (begin now : Sight) (unread fed : List ℕ) (ended : Bool)
    (taken : List Taken) (texts : List (List ℕ)) : Type 0 where
  pub read_is : now.given ≡ with_bytes begin.given (fed ++ unread)
  pub ended_is : ended ≡ true → (now.ended ≡ true) × (unread ≡ [])
  pub open_is : ended ≡ false → now.ended ≡ true → begin.ended ≡ true
  pub taken_is : now.taken ≡ with_bytes begin.taken (concat texts)
  pub counted : length texts ≤ length taken
  pub reads : List Read
  pub reads_are : now.reads ≡ with_reads begin.reads reads
  -- Where the answers fit, the line was read only where nothing was owed.
  pub owes_nothing : fits → AllByRecursion (OwesNothing rules begin (commands_of taken) texts) reads

-- the texts that were handed out
abbrev pub handed_texts : Flow → List (List ℕ)
handed_texts flow = take flow.handed (all_texts flow)

-- By what came in at its connection and went out, and what the shards sent.
abbrev pub Serving : (ℕ → List Shown) → Sight → Sight → List ℕ → Flow → Type 0
Serving received begin now unread flow =
    GaveAndTook flow.rules (KeysFit flow.shards flow.taken received) begin now unread flow.fed flow.ended flow.taken
    (handed_texts flow)

-- Where the keys of the replies are those of the pieces, every command taken has its reply.
abbrev pub IsComplete : (ℕ → List Shown) → Flow → Type 0
IsComplete received flow = KeysFit flow.shards flow.taken received → length (all_texts flow) ≡ length flow.taken
