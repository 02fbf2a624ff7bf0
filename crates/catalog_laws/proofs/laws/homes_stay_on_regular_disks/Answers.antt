use Rattle.catalog_laws.proofs.RegularHomes.{appending_keeps, cutting_keeps, moving_keeps, regular_stays}
use Rattle.catalog_laws.proofs.laws.homes_stay_on_regular_disks.Goals as goal

pub returns-clause-appended : goal.returns-clause-appended
returns-clause-appended c = appending_keeps

pub returns-clause-moved : goal.returns-clause-moved
returns-clause-moved c = moving_keeps

pub returns-clause-cut : goal.returns-clause-cut
returns-clause-cut c = cutting_keeps

pub returns-clause-entries : goal.returns-clause-entries
returns-clause-entries c = regular_stays
