use Rattle.bay.proofs.OnEach.{does_none, does_more}
use Rattle.bay.proofs.laws.calls_on_each.Goals as goal

pub returns-clause-none : goal.returns-clause-none
returns-clause-none g c = λ failed. does_none g.T.Things.tasks g.T.Things.claims failed _ (λ x none. none)

pub returns-clause-more : goal.returns-clause-more
returns-clause-more g c = λ x most wrong rest all local own here there one others.
    does_more g.T.Things.tasks g.T.Things.claims x g.T.Things.among local own wrong one rest all here there others
