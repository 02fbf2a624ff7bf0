use Rattle.std.proofs.Common.{arith}
use Rattle.store_tests.proofs.registers.trials.spoil.Goals as goal

pub write-requires-clause-attached : goal.write-requires-clause-attached
write-requires-clause-attached g c = (c.attach.ensures.here c.if-not-attach.false).attached

pub write-requires-clause-inside : goal.write-requires-clause-inside
write-requires-clause-inside g c = let long = (c.attach.ensures.here c.if-not-attach.false).long in omega arith
