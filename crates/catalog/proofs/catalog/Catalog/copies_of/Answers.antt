use Rattle.catalog.proofs.ExtentCounts.{few_copies}
use Rattle.catalog.proofs.catalog.Catalog.copies_of.Goals as goal

pub returns-in-Some-clause-few : goal.returns-in-Some-clause-few
returns-in-Some-clause-few c = few_copies _ c.args.file c.head.view_is c.in-Some.ensures.table c.in-Some.ensures.kept
