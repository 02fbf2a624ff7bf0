use Rattle.disk_images.proofs.Departing.{making_keeps}
use Rattle.disk_images.proofs.laws.making_keeps.Goals as goal

pub returns : goal.returns
returns c = making_keeps
