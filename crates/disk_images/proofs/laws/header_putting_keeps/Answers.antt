use Rattle.disk_images.proofs.HeaderPuts.{header_putting_keeps}
use Rattle.disk_images.proofs.laws.header_putting_keeps.Goals as goal

pub returns : goal.returns
returns c = header_putting_keeps
