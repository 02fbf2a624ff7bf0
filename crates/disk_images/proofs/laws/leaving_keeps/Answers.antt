use Rattle.disk_images.proofs.Departing.{leaving_keeps}
use Rattle.disk_images.proofs.laws.leaving_keeps.Goals as goal

pub returns : goal.returns
returns c = leaving_keeps
