-- The first disk was read, and then those behind commas.
use Rattle.std.proofs.Common.{◌≡◌, ◌∙◌}
use Rattle.group_sql.proofs.Items.{disks_from}
use Rattle.group_sql.proofs.disks.read_disks.Goals as goal

pub returns : goal.returns
returns c =
    let p = c.read_disk.new.place in
    disks_from c.args.place.now.rest.now c.args.place.now.left c.in_ok-disk.disk p.rest.now p.left c.in_ok-disk.ensures
    ∙ (rw (c.in_ok-push.ensures.ok, c.new-disks.ensures) at c.in_ok-more_disks.ensures)
