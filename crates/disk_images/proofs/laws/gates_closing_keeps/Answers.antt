use Rattle.disk_images.proofs.Departing.{gates_closing_keeps}
use Rattle.disk_images.proofs.laws.gates_closing_keeps.Goals as goal

pub returns : goal.returns
returns c = gates_closing_keeps
