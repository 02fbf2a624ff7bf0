use Rattle.group_engine.proofs.search.Search.start.Goals as goal

pub returns : goal.returns
returns c = λ k r. record { cursor = c.start.ensures k r; regular = tt }
