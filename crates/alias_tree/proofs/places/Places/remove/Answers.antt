use Rattle.alias_tree.proofs.places.Places.remove.Goals as goal

pub returns : goal.returns
returns c = λ q. rw (← c.self.view_is) (c.remove.ensures.updates.0 q)
