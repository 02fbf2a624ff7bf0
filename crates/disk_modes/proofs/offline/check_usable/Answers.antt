use Rattle.disk_modes.proofs.Reasons.{offline_losing_by}
use Rattle.disk_modes.proofs.offline.check_usable.Goals as goal

pub returns : goal.returns
returns c =
    offline_losing_by c.args.m.now c.status.result.now c.entries.result.now c.catalog.result.now c.args.disks c.attached_disks.result c.check_extents.result c.status.ensures c.entries.ensures.entries
    c.catalog.ensures c.attached_disks.ensures c.check_extents.ensures
