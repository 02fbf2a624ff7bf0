use Rattle.disk_joining.specs.Causes.{PassBelow}
use Rattle.disk_joining.specs.Returning.{is_present}
use Rattle.disk_joining.proofs.onlining.check_images.Given as goal

abbrev pub invariant-loop-number : goal.invariant-loop-number
invariant-loop-number l = PassBelow l.m.register.value.entries l.disks (is_present l.looked l.held l.m) l.number
