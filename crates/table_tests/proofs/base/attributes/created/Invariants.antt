use Rattle.attribute_values.specs.Creations.{IsNewCreation}
use Rattle.table_tests.proofs.base.attributes.created.Given as goal

abbrev pub invariant-loop-given : goal.invariant-loop-given
invariant-loop-given l = IsNewCreation l.creation
