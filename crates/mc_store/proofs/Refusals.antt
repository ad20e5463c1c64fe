-- What a write refuses, as what a command may answer.
use Rattle.std.proofs.Common.{◌≡◌, ◌⊎◌, true, Result, inl, inr}
use Rattle.std.specs.Result.{IfErr}
use Rattle.std.proofs.lemmas.Result.{IfErr-weaker}
use Rattle.mc_item.specs.declared.answer.Answer.{Answer}
use Rattle.mc_item.specs.declared.answer.Answer.TheVariants.{NoCas, NoMemory}
use Rattle.mc_item.specs.declared.answer.Kind.{Kind}
use Rattle.mc_item.specs.Kind.{is_lawful}

-- What a write refuses is lawful of a kind that may lack a unique and memory.
pub lawful_refusal : {A : Type 0} (kind : Kind) (result : Result A Answer) → is_lawful kind NoCas ≡ true
    → is_lawful kind NoMemory ≡ true →
    IfErr result (λ answer. (answer ≡ NoCas) ⊎ (answer ≡ NoMemory))
    → IfErr result (λ answer. is_lawful kind answer ≡ true)
lawful_refusal kind result no_cas no_memory refused =
    IfErr-weaker result _ _ (λ answer said. elim said [ inl is ↦ rw is no_cas | inr is ↦ rw is no_memory ]) refused
