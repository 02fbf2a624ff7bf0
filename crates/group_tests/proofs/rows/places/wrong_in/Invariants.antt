use Rattle.bay_mem.specs.MemState.{state_of}
use Rattle.group_tests.specs.Places.{AreThree}
use Rattle.group_tests.proofs.rows.places.wrong_in.Given as goal

abbrev pub invariant-loop-place : goal.invariant-loop-place
invariant-loop-place l = AreThree (state_of l.bay)
