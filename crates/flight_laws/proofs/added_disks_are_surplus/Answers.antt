use Rattle.flight_laws.proofs.Added.{added_disks_are_surplus}
use Rattle.flight_laws.proofs.added_disks_are_surplus.Goals as goal

pub returns : goal.returns
returns c = added_disks_are_surplus
