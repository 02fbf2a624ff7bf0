use Rattle.disk_images.proofs.Departing.{header_closing_keeps}
use Rattle.disk_images.proofs.laws.header_closing_keeps.Goals as goal

pub returns : goal.returns
returns c = header_closing_keeps
