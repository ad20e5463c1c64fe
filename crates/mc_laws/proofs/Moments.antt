-- A get of keys on two shards is not atomic: here it sees the newer value of one key and the older one of
-- another.
use Rattle.std.proofs.Common.{◌≡◌, ℕ, zero, suc, false, inr, List, [], ◌∷◌, Some, None, refl, ◌∙◌, arith, codes, pos}
use Rattle.std.specs.FinMap.{empty, get, get-empty, insert}
use Rattle.std.specs.Ordering.{nat_cmp}
use Rattle.std.specs.Cmp.Lexicographic.{slice_cmp}
use Rattle.mc_command.specs.declared.command.StoreMode.TheVariants as mode
use Rattle.mc_command.specs.declared.rules.Profile.TheVariants.{Own}
use Rattle.mc_sizes.specs.declared.sizes.Sizes.{Sizes}
use Rattle.mc_item.specs.declared.answer.Answer.{Answer}
use Rattle.mc_item.specs.declared.answer.Answer.TheVariants.{Hit, Miss, Stored}
use Rattle.mc_item.specs.declared.item.Item.{Item}
use Rattle.mc_item.specs.declared.item.Expiry.TheVariants.{Never}
use Rattle.mc_item.specs.declared.op.Op.{Op}
use Rattle.mc_item.specs.declared.op.Op.TheVariants as op
use Rattle.mc_item.specs.Expiry.{expiry_of, is_dead}
use Rattle.mc_item.specs.Kind.{key_of}
use Rattle.mc_item.specs.OpStats.{counting_of}
use Rattle.mc_store.specs.State.{State, Used, items_after, turns_after, entered, first}
use Rattle.mc_store.specs.Step.{Answers, IsStep, noted_in, step_of}
use Rattle.mc_store.specs.Rows.{fetched_item}
use Rattle.mc_store.proofs.Costs.{fitting_key}
use Rattle.mc_store.proofs.Lists.{get_here}
use Rattle.mc_conn.specs.Due.{ticket_at}
use Rattle.mc_model.specs.Sized.{empty_shard}
use Rattle.mc_model.specs.Log.{Entry, IsLawful}

abbrev two : Sizes
two =
    record {
      profile = Own;
      seats = 2;
      shards = 2;
      bytes = 1024;
      ring = 1;
      value = 1024;
      line = 65536;
      window = 1;
      shutdown = false;
    }

-- keys of the first and of the second shard
abbrev a : List ℕ
a = codes "a"

abbrev b : List ℕ
b = codes "b"

abbrev store : List ℕ → Op
store key =
    op.Store (record {
      key = key;
      mode = mode.Set;
      compare = None;
      unique = None;
      flags = 0;
      exptime = pos 0;
      value = codes "2";
    })

-- a shard at the second 1000, which holds nothing
abbrev old : ℕ → State
old s = record (empty_shard two s) { time = 1000 }

-- the second shard after a miss of b
abbrev missed : State
missed = noted_in (old 1) (old 1) (op.Fetch b None) Miss

abbrev item : ℕ → Item
item unique =
    record {
      value = codes "2";
      flags = 0;
      expiry = Never;
      unique = unique;
      last_access = 1000;
      fetched = false;
      stale = false;
      sent = false;
    }

-- a shard in which the key was stored
abbrev holding : State → List ℕ → ℕ → State
holding state key unique = entered (record state { given = 1 }) None key (item unique)

-- and in which that is counted
abbrev new : State → List ℕ → ℕ → State
new state key unique = noted_in state (holding state key unique) (store key) Stored

nothing : (key : List ℕ) → get {X = Used} {R = slice_cmp nat_cmp} empty key ≡ None
nothing key = get-empty (slice_cmp nat_cmp) key

misses : IsStep (empty_shard two 1) (op.Fetch b None) 1000 Miss missed
unfolding IsStep Answers step_of key_of counting_of
misses = (old 1, inr (rw (nothing b, nothing b)), refl)

stores_b : IsStep missed (store b) 1000 Stored (new missed b 2)
unfolding IsStep Answers step_of key_of expiry_of counting_of
stores_b = (holding missed b 2, inr (rw (nothing b, nothing b)), refl)

stores_a : IsStep (empty_shard two 0) (store a) 1000 Stored (new (old 0) a 1)
unfolding IsStep Answers step_of key_of expiry_of counting_of
stores_a = (holding (old 0) a 1, inr (rw (nothing a, nothing a)), refl)

-- the first shard, in which a was stored
abbrev stored : State
stored = new (old 0) a 1

found : get stored.items a ≡ Some (record { item = item 1; number = 1 })
unfolding items_after turns_after
found =
    fitting_key (insert empty a (record { item = item 1; number = 1 })) 1024 a
    ∙ get_here empty a (record { item = item 1; number = 1 })

-- and was got
abbrev got : State
got = first stored a (fetched_item (item 1) None 1000)

abbrev last : State
last = noted_in stored got (op.Fetch a None) (Hit 0 1 (codes "2"))

hits : IsStep stored (op.Fetch a None) 1000 (Hit 0 1 (codes "2")) last
unfolding IsStep Answers step_of key_of is_dead counting_of
hits = (got, inr (rw (found, found)), refl)

-- what a connection asks of a shard for its command of that number
abbrev entry : ℕ → ℕ → ℕ → ℕ → Op → Answer → Entry
entry shard asker ticket part asked answer =
    record {
      shard = shard;
      asker = asker;
      piece = record { ticket = ticket_at ticket; part = part; op = asked; moment = 1000 };
      answer = answer;
    }

-- The first connection gets both keys; the second one stores b, and then a. The get misses b, though it hits a.
abbrev log : List Entry
log =
    entry 1 0 0 1 (op.Fetch b None) Miss ∷ entry 1 1 0 0 (store b) Stored ∷ entry 0 1 1 0 (store a) Stored ∷ entry 0 0 0
    0 (op.Fetch a None) (Hit 0 1 (codes "2")) ∷ []

pub lawful : IsLawful two log
lawful zero below = (last, (stored, stores_a, (last, hits, refl)))
lawful (suc zero) below = (new missed b 2, (missed, misses, (new missed b 2, stores_b, refl)))
lawful (suc (suc s)) below = absurd (omega (arith, below))
