-- Where to listen, by what was found.
use Rattle.std.proofs.Common.{◌≡◌, ℕ, true, false, List, [], ◌∷◌, Option, Some, None, codes, is_some, refl, ap, ◌∙◌}
use Rattle.clap.specs.Words.{Row, all_of, first_of}
use Rattle.mc_options.specs.Calls.{places_by, places_of}

-- the words that are given, whatever the path is
words_by : (path : Option (List ℕ)) (words : List (List ℕ)) → places_by path (Some words) ≡ words
words_by None words = refl
words_by (Some path) words = refl

no_words_by : (path : Option (List ℕ)) → is_some path ≡ true → places_by path None ≡ []
no_words_by (Some path) is = refl
no_words_by None is = absurd cc

host_by : (path : Option (List ℕ)) → is_some path ≡ false → places_by path None ≡ codes "127.0.0.1" ∷ []
host_by None is = refl
host_by (Some path) is = absurd cc

-- the words of `--listen` are all places, where there are some
pub listed_places : (rows : List Row) (words : List (List ℕ)) → all_of (codes "listen") rows ≡ Some words
    → places_of rows ≡ words
listed_places rows words is =
    ap (places_by (first_of (codes "unix-socket") rows)) is ∙ words_by (first_of (codes "unix-socket") rows) words

-- beside a path there is none then
pub no_places : (rows : List Row) → all_of (codes "listen") rows ≡ None → is_some (first_of (codes "unix-socket") rows)
    ≡ true → places_of rows ≡ []
no_places rows none path =
    ap (places_by (first_of (codes "unix-socket") rows)) none ∙ no_words_by (first_of (codes "unix-socket") rows) path

-- and without a path there is this machine's own address
pub own_place : (rows : List Row) → all_of (codes "listen") rows ≡ None → is_some (first_of (codes "unix-socket") rows)
    ≡ false → places_of rows ≡ codes "127.0.0.1" ∷ []
own_place rows none path =
    ap (places_by (first_of (codes "unix-socket") rows)) none ∙ host_by (first_of (codes "unix-socket") rows) path
