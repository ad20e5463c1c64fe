-- One actor more of a history that is opened.
use Rattle.std.proofs.Common.{◌≡◌, ℕ, ◌+◌, ◌<◌, ◌∷◌, [], ◌++◌, List, inl, inr, refl, sym, ap, ◌∙◌, length-append}
use Rattle.mc_model.proofs.Lists.{push_cases}
use Rattle.mc_ring.specs.Route.{Name}
use Rattle.mc_history.specs.declared.knowledge.Role.{Role}
use Rattle.mc_history.specs.declared.knowledge.Role.TheVariants.{Seat, Shard}
use Rattle.mc_history.specs.Tokens.{Acting, Waiting}
use Rattle.mc_record.specs.Clerk.{IsSeatActor}
use Rattle.mc_record.specs.Opening.{ActInOrder}
use Rattle.mc_record.specs.Recorder.{IsShardActor}

-- No actor is the first of none.
pub none_act : (role : ℕ → Role) (name : Name) → ActInOrder role name 0 []
none_act role name = record { counted = refl; each = λ i actor here. absurd (cc here) }

-- The next actor is behind those before it.
pub one_acts : (role : ℕ → Role) (name : Name) (count : ℕ) (actors actors' : List Acting) (actor : Acting) → actors'
    ≡ actors ++ actor ∷ [] → actor ≡ record { name = name; role = role count; events = [] }
    → ActInOrder role name count actors → ActInOrder role name (count + 1) actors'
one_acts role name count actors actors' actor grown is before = rw grown (record {
  counted = length-append actors (actor ∷ []) ∙ ap (λ n. n + 1) before.counted;
  each = λ i one here. elim (push_cases actors actor i one here) [
    | inl old ↦ before.each i one old
    | inr last ↦ last.1 ∙ (is
        ∙ ap (λ n. record { name = name; role = role n; events = [] }) (sym (last.0 ∙ before.counted)))
  ];
})

-- A new actor of a shard that is there may record.
pub may_record : (actor : Acting) (name : Name) (shard : ℕ) → actor
    ≡ record { name = name; role = Shard shard; events = [] } → shard < name.sizes.shards → IsShardActor actor
may_record actor name shard is within = rw is (record { role = refl; within = within; lawful = tt })

-- A new actor of a seat that is there may record what its connections take.
pub may_keep : (actor : Acting) (name : Name) (seat : ℕ) → actor ≡ record { name = name; role = Seat seat; events = [] }
    → seat < name.sizes.seats → IsSeatActor actor
may_keep actor name seat is within = rw is (record { role = refl; within = within; lawful = tt })

-- The next shard's actor, where so many shards have theirs.
pub shard_is : (actor : Acting) (left : Waiting) (name : Name) (count : ℕ) → actor
    ≡ record { name = left.name; role = Shard left.shards; events = [] } → left
    ≡ record { name = name; seats = 0; shards = count }
    → actor ≡ record { name = name; role = Shard count; events = [] }
shard_is actor left name count is so_many = is ∙ rw so_many refl

-- The next seat's actor.
pub seat_is : (actor : Acting) (left : Waiting) (name : Name) (count : ℕ) → actor
    ≡ record { name = left.name; role = Seat left.seats; events = [] } → left.name ≡ name → left.seats ≡ count
    → actor ≡ record { name = name; role = Seat count; events = [] }
seat_is actor left name count is same so_many = is ∙ rw (same, so_many) refl
