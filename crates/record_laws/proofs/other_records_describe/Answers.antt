use Rattle.record_laws.proofs.Described.{entries_describe, modes_describe}
use Rattle.record_laws.proofs.other_records_describe.Goals as goal

pub returns : goal.returns
returns c = record { modes = modes_describe; entries = entries_describe }
