use Rattle.group_engine.proofs.NextRecords.{same_disks_are_next}
use Rattle.group_engine.proofs.next_laws.same_disks_are_next.Goals as goal

pub returns : goal.returns
returns c = same_disks_are_next
