use Rattle.group_of.proofs.Describes.{next_describe}
use Rattle.group_of.proofs.describing.next_tables_describe.Goals as goal

pub returns : goal.returns
returns c = next_describe
