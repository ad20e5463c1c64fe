-- What stays true where more commands are taken.
use Rattle.std.proofs.Common.{◌≡◌, ◌+◌, ◌≤◌, List, [], ◌∷◌, ◌++◌, length, take, sym, ap, subst, ◌∙◌, append_assoc}
use Rattle.std.proofs.Common.{append-nil}
use Rattle.std.proofs.lemmas.List.{take-append-le}
use Rattle.mc_conn.specs.Due.{pieces, pieces_from}
use Rattle.mc_conn.specs.History.{Taken}
use Rattle.mc_conn.specs.Flow.{Flow, all_pieces}
use Rattle.mc_conn.proofs.Fitting.{pieces_from-append}

-- What stays true with one command more stays true with any number of them.
pub with_more : (P : List Taken → Type 0) → ((taken : List Taken) (one : Taken) → P taken → P (taken ++ one ∷ []))
    → (taken more : List Taken) → P taken → P (taken ++ more)
with_more P step taken [] holds = subst P (sym (append-nil taken)) holds
with_more P step taken (one ∷ more) holds =
    subst P (append_assoc taken (one ∷ []) more) (with_more P step (taken ++ one ∷ []) more (step taken one holds))

-- With more commands taken, the pieces that have left are the same.
pub out_more : (flow : Flow) (more : List Taken) → flow.out ≤ length (all_pieces flow) → take flow.out (all_pieces flow)
    ≡ take flow.out (pieces flow.shards (flow.taken ++ more))
out_more flow more within =
    sym (ap (take flow.out) (pieces_from-append flow.shards 0 flow.taken more)
    ∙ take-append-le flow.out (all_pieces flow) (pieces_from flow.shards (0 + length flow.taken) more) within)
