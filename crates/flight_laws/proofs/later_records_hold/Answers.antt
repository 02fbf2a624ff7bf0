use Rattle.flight_laws.proofs.Later.{described_have_entries, later_record_agrees, later_record_keeps, same_entries_keep}
use Rattle.flight_laws.proofs.later_records_hold.Goals as goal

pub returns : goal.returns
returns c = record { same = same_entries_keep; entries = described_have_entries; holds = later_record_keeps; agrees = later_record_agrees }
