-- The slots of a pending reply, in whatever storage.
use Rattle.std.specs.Prelude.{ℕ, List, [], ◌∷◌, Option, count_by}
use Rattle.std.specs.Option.{is_none}
use Rattle.mc_item.specs.declared.answer.Answer.{Answer}
use Rattle.mc_reply.specs.declared.pending_reply.Kept.{Kept}
use Rattle.mc_reply.specs.declared.pending_reply.Kept.TheVariants.{One, Many}

-- the answers by part
abbrev pub answers_in : Kept → List (Option Answer)
answers_in (One answer) = answer ∷ []
answers_in (Many answers) = answers.items

-- the number of parts without an answer
abbrev pub missing_in : List (Option Answer) → ℕ
missing_in answers = count_by is_none answers
