use Rattle.asm_formats.proofs.RecordLists.{pages_have_records}
use Rattle.asm_formats.proofs.pages.pages_have_records.Goals as goal

pub returns : goal.returns
returns c = pages_have_records
