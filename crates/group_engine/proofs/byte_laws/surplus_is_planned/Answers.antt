use Rattle.group_engine.proofs.Cuts.{cut_surplus, disk_surplus, operation_surplus}
use Rattle.group_engine.proofs.byte_laws.surplus_is_planned.Goals as goal

pub returns : goal.returns
returns c = record { cut = cut_surplus; operation = operation_surplus; disk = disk_surplus }
