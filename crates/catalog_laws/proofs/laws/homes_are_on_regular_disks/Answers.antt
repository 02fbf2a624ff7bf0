use Rattle.catalog_laws.proofs.RegularHomes.{copies_are_regular, homes_are_regular}
use Rattle.catalog_laws.proofs.laws.homes_are_on_regular_disks.Goals as goal

pub returns-clause-homes : goal.returns-clause-homes
returns-clause-homes c = homes_are_regular

pub returns-clause-copies : goal.returns-clause-copies
returns-clause-copies c = copies_are_regular
