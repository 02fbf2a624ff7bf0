use Rattle.asm_formats.specs.Status.{is_offline_entry}
use Rattle.disk_joining.proofs.Passing.{none_below}
use Rattle.disk_joining.proofs.onlining.check_states.Goals as goal

pub loop-number-init : goal.loop-number-init
loop-number-init c = none_below c.args.m.now.register.value.entries c.args.disks is_offline_entry
