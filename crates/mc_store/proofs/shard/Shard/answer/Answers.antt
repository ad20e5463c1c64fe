use Rattle.mc_store.proofs.shard.Shard.answer.Goals as goal

pub returns-in-Fetch-clause-acts : goal.returns-in-Fetch-clause-acts
returns-in-Fetch-clause-acts c = λ state h. rw c.in-Fetch.is (c.fetch.ensures.acts state h)
