use Rattle.catalog_laws.proofs.ToldRecords.{records_told}
use Rattle.catalog_laws.proofs.laws.tables_say_records.Goals as goal

pub returns : goal.returns
returns c = records_told
