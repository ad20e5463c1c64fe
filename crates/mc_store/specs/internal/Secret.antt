-- The secret words of a shard's hash.
use Rattle.std.specs.Prelude.{ℕ, fold}
use Rattle.std.specs.Hash.{u64}
use Rattle.std.specs.Hash.DefaultHasher.{write, finish}
use Rattle.std.specs.RandomState.{initial_hasher}
use Rattle.std.specs.declared.random_state.RandomState.{RandomState}

-- SipHash of the number under the secret keys of the random state
abbrev pub drawn : RandomState → ℕ → ℕ
drawn random number = finish (fold write (initial_hasher random) (u64 number))
