use Rattle.disk_joining.specs.Returning.{is_present}
use Rattle.disk_joining.proofs.Passing.{none_below}
use Rattle.disk_joining.proofs.onlining.check_images.Goals as goal

pub loop-number-init : goal.loop-number-init
loop-number-init c = none_below c.args.m.now.register.value.entries c.args.disks (is_present c.args.looked.now c.args.held.now c.args.m.now)
