-- Whether the commands taken ask for the server's end, once one more was taken.
use Rattle.std.proofs.Common.{◌≡◌, ◌||◌, Bool, true, false, List, [], ◌∷◌, ◌++◌, refl, sym, ap, ◌∙◌}
use Rattle.std.proofs.Math.Bool.{or-false}
use Rattle.std.proofs.lemmas.List.Folds.{list_any-append}
use Rattle.mc_conn.specs.History.{Taken}
use Rattle.mc_conn.specs.Shutdown.{asks_shutdown, is_shutdown}

asks_more : (taken : List Taken) (one : Taken) (asks : Bool) → is_shutdown one.entry ≡ asks
    → asks_shutdown (taken ++ one ∷ []) ≡ (asks_shutdown taken || (asks || false))
asks_more taken one asks is =
    list_any-append (λ (it : Taken). is_shutdown it.entry) taken (one ∷ [])
    ∙ ap (λ (b : Bool). asks_shutdown taken || (b || false)) is

-- With another command it is as before.
pub asks_same : (taken : List Taken) (one : Taken) (before : Bool) → before ≡ asks_shutdown taken
    → is_shutdown one.entry ≡ false → before ≡ asks_shutdown (taken ++ one ∷ [])
asks_same taken one before was other = was ∙ sym (asks_more taken one false other ∙ or-false (asks_shutdown taken))

or_true : (b : Bool) → (b || true) ≡ true
or_true true = refl
or_true false = refl

-- With a `shutdown` they do.
pub asks_now : (taken : List Taken) (one : Taken) → is_shutdown one.entry ≡ true → true
    ≡ asks_shutdown (taken ++ one ∷ [])
asks_now taken one is = sym (asks_more taken one true is ∙ or_true (asks_shutdown taken))
