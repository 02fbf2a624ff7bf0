use Rattle.group_of.proofs.Describes.{catalog_describes, describe}
use Rattle.group_of.proofs.describing.tables_describe.Goals as goal

pub returns : goal.returns
returns c = record { tables = describe; catalog = catalog_describes }
