use Rattle.generated_script.proofs.Scripts.{dropped}
use Rattle.generated_script.proofs.lines.Lines.others.Goals as goal

pub returns-in-DropDisk : goal.returns-in-DropDisk
returns-in-DropDisk c = rw c.in-DropDisk.is (dropped c.args.self.choice _ (c.late_fills.ensures c.args.self.choice))
