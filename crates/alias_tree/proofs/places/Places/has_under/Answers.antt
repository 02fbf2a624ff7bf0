use Rattle.alias_tree.specs.Places.{numbers_under}
use Rattle.alias_tree.proofs.Under.{some_number, no_number}
use Rattle.alias_tree.proofs.places.Places.has_under.Goals as goal

pub returns-in-loop-number-clause-has : goal.returns-in-loop-number-clause-has
returns-in-loop-number-clause-has c = some_number c.loop-number._number-iterator _ _ (numbers_under c.args.self.now c.args.parent) c.in-Some.ensures.steps c.loop-number.invariant

pub returns-clause-has : goal.returns-clause-has
returns-clause-has c = no_number c.loop-number._number-iterator (numbers_under c.args.self.now c.args.parent) c.in-None.ensures.steps.0 c.loop-number.invariant
