use Rattle.group_contents.proofs.opening.lost_in.Goals as goal

pub returns-then-is_lost-clause-lost : goal.returns-then-is_lost-clause-lost
returns-then-is_lost-clause-lost c = c.is_lost.ensures.yes c.if-is_lost.true
