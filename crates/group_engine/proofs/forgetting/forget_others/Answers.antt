use Rattle.std.proofs.Common.{◌+◌, refl}
use Rattle.group_engine.proofs.Forgotten.{none_forgotten, one_forgotten}
use Rattle.group_engine.proofs.forgetting.forget_others.Goals as goal

pub loop-disk-init : goal.loop-disk-init
loop-disk-init g c = record { named = none_forgotten c.args.store.now c.args.disks.now c.args.named; kept = c.requires.kept }

pub loop-disk-preserved : goal.loop-disk-preserved
loop-disk-preserved g c = record {
  named = one_forgotten c.args.store.now c.loop-disk.store c.forget_unnamed.new.store c.args.disks.now c.args.named c.loop-disk.disk (c.loop-disk.disk + 1) refl c.forget_unnamed.ensures.step c.loop-disk.invariant.named;
  kept = c.forget_unnamed.ensures.kept;
}
