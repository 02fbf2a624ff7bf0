use Rattle.asm_formats.specs.Status.{is_offline_entry}
use Rattle.disk_joining.specs.Causes.{PassBelow}
use Rattle.disk_joining.proofs.onlining.check_states.Given as goal

abbrev pub invariant-loop-number : goal.invariant-loop-number
invariant-loop-number l = PassBelow l.m.register.value.entries l.disks is_offline_entry l.number
