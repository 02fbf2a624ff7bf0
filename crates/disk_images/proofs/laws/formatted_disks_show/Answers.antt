use Rattle.disk_images.proofs.HeaderPuts.{formatted_disks_show}
use Rattle.disk_images.proofs.laws.formatted_disks_show.Goals as goal

pub returns : goal.returns
returns c = formatted_disks_show
