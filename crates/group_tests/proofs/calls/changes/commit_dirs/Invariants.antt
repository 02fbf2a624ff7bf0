use Rattle.group_engine.specs.Mounts.{Takes}
use Rattle.group_tests.proofs.calls.changes.commit_dirs.Given as goal

abbrev pub invariant-loop-i : goal.invariant-loop-i
invariant-loop-i g l = Takes l.m (g.B.Bay.state l.bay)
