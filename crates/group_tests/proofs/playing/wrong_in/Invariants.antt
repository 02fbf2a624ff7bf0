use Rattle.bay_mem.specs.MemState.{state_of}
use Rattle.group_engine.specs.Mounts.{Takes}
use Rattle.group_tests.proofs.playing.wrong_in.Given as goal

abbrev pub invariant-loop-place : goal.invariant-loop-place
invariant-loop-place l = Takes l.m (state_of l.bay)
