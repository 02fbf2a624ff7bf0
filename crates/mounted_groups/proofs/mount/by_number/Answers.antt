use Rattle.mounted_groups.proofs.Disks.{among_get}
use Rattle.mounted_groups.proofs.mount.by_number.Goals as goal

pub bounds-places-member : goal.bounds-places-member
bounds-places-member c = c.requires _ (among_get c.args.disks.now c.loop-member.member-index _ c.loop-member-test.true)
