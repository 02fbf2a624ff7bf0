use Rattle.group_of.proofs.Describes.{described_has_cells, described_is_of_tables}
use Rattle.group_of.proofs.Leading.{described_is_of_catalog}
use Rattle.group_of.proofs.describing.described_groups_are_of_tables.Goals as goal

pub returns : goal.returns
returns c = record { group = described_is_of_tables; catalog = described_is_of_catalog; cells = described_has_cells }
