use Rattle.bay_mem.specs.MemState.{state_of}
use Rattle.directory_store.specs.Stores.{Keeps}
use Rattle.store_tests.proofs.stores.many.commit_many.Given as goal

abbrev pub invariant-loop-number : goal.invariant-loop-number
invariant-loop-number l = Keeps l.store (state_of l.bay)
