-- The result of a call, step by step, once the result of each step is known.
use Rattle.std.proofs.Common.{◌≡◌, ℕ, List, Option, Result, ap}
use Rattle.mc_options.specs.Wrong.{Wrong}
use Rattle.mc_options.specs.Numbers.{and_then}
use Rattle.mc_options.specs.Calls.{Call, unless_foreign}

-- what comes behind a step of which the end is known
pub step : {T U : Type 0} (done end : Result T Wrong) (next : T → Result U Wrong) → done ≡ end → and_then done next
    ≡ and_then end next
step done end next is = ap (λ (r : Result _ Wrong). and_then r next) is

-- the call, by the option that is there and isn't its own
pub start : (wrong : List ℕ → Wrong) (first found : Option (List ℕ)) (call : Result Call Wrong) → first ≡ found
    → unless_foreign first wrong call ≡ unless_foreign found wrong call
start wrong first found call is = ap (λ (option : Option (List ℕ)). unless_foreign option wrong call) is
