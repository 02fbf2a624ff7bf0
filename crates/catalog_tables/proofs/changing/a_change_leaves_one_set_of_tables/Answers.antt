use Rattle.catalog_tables.proofs.AfterLaws.{one_after}
use Rattle.catalog_tables.proofs.changing.a_change_leaves_one_set_of_tables.Goals as goal

pub returns : goal.returns
returns c = one_after
