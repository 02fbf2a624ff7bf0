use Rattle.disk_modes.proofs.Sized.{all_large, none_large, one_large}
use Rattle.disk_modes.proofs.sizes.check_sizes.Goals as goal

pub loop-disk-init : goal.loop-disk-init
loop-disk-init c = none_large c.args.asked.now c.args.m.now

pub loop-disk-preserved : goal.loop-disk-preserved
loop-disk-preserved c = one_large c.args.asked.now c.args.m.now c.loop-disk.disk c.loop-disk.invariant c.in-Ok.ensures.large

pub returns-clause-large : goal.returns-clause-large
returns-clause-large c = all_large c.args.asked.now c.args.m.now c.loop-disk.disk c.loop-disk-test.false c.loop-disk.invariant

pub returns-in-Err-clause-cause : goal.returns-in-Err-clause-cause
returns-in-Err-clause-cause c = record { least = c.loop-disk.disk; named = c.in-Err.ensures.named; earlier = c.loop-disk.invariant; cause = c.in-Err.ensures.cause }
