use Rattle.asm_formats.proofs.RecordLists.{records_of}
use Rattle.asm_formats.proofs.pages.records_are_of_pages.Goals as goal

pub returns : goal.returns
returns c = records_of
