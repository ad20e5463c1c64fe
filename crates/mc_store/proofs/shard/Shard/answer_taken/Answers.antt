use Rattle.std.proofs.Common.{w64, rules}
use Rattle.std.proofs.lemmas.Int.{to_z-of_z}
use Rattle.mc_item.specs.Kind.{kind_of, key_of}
use Rattle.mc_store.specs.Step.{Answers, step_of}
use Rattle.mc_store.proofs.shard.Shard.answer_taken.Goals as goal

pub returns-in-Store-clause-acts : goal.returns-in-Store-clause-acts
returns-in-Store-clause-acts c = λ state h.
    rw (← c.in-Store.ensures.value) (c.store_classic.ensures.acts state h)

pub returns-in-Fetch-clause-acts : goal.returns-in-Fetch-clause-acts
returns-in-Fetch-clause-acts c = λ state h. rw (← c.in-Fetch.ensures.value) (c.fetch.ensures.acts state h)

pub returns-in-Count-clause-acts : goal.returns-in-Count-clause-acts
returns-in-Count-clause-acts c = λ state h. rw (← c.in-Count.ensures.value) (c.count_classic.ensures.acts state h)

pub returns-in-Delete-clause-acts : goal.returns-in-Delete-clause-acts
returns-in-Delete-clause-acts c = λ state h. rw (← c.in-Delete.ensures.value) (c.delete.ensures.acts state h)

pub returns-in-Discard-clause-acts : goal.returns-in-Discard-clause-acts
unfolding Answers step_of kind_of key_of
returns-in-Discard-clause-acts c = λ state h.
    rw (← c.in-Discard.ensures.value) (c.delete-in-Discard.ensures.acts state h)

pub returns-in-Touch-clause-acts : goal.returns-in-Touch-clause-acts
returns-in-Touch-clause-acts c = λ state h.
    rw (← c.in-Touch.ensures.value, ← to_z-of_z w64 c.in-Touch.exptime (search rules)) (c.touch.ensures.acts state h)

pub returns-in-Flush-clause-acts : goal.returns-in-Flush-clause-acts
returns-in-Flush-clause-acts c = λ state h.
    rw (← c.in-Flush.ensures.value, ← to_z-of_z w64 c.in-Flush.delay (search rules)) (c.flush_at.ensures.acts state h)

pub returns-in-MetaGet-clause-acts : goal.returns-in-MetaGet-clause-acts
returns-in-MetaGet-clause-acts c = λ state h. rw (← c.in-MetaGet.ensures.value) (c.meta_get.ensures.acts state h)

pub returns-in-MetaStore-clause-acts : goal.returns-in-MetaStore-clause-acts
returns-in-MetaStore-clause-acts c = λ state h. rw (← c.in-MetaStore.ensures.value) (c.meta_store.ensures.acts state h)

pub returns-in-MetaDelete-clause-acts : goal.returns-in-MetaDelete-clause-acts
returns-in-MetaDelete-clause-acts c = λ state h.
    rw (← c.in-MetaDelete.ensures.value) (c.meta_delete.ensures.acts state h)

pub returns-in-MetaCount-clause-acts : goal.returns-in-MetaCount-clause-acts
returns-in-MetaCount-clause-acts c = λ state h. rw (← c.in-MetaCount.ensures.value) (c.meta_count.ensures.acts state h)

pub returns-in-Stats-clause-acts : goal.returns-in-Stats-clause-acts
returns-in-Stats-clause-acts c = λ state h. rw (← c.in-Stats.ensures.value) (c.stats.ensures.acts state h)

pub returns-in-ResetStats-clause-acts : goal.returns-in-ResetStats-clause-acts
returns-in-ResetStats-clause-acts c = λ state h.
    rw (← c.in-ResetStats.ensures.value) (c.reset_stats.ensures.acts state h)
