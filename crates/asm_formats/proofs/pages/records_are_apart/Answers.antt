use Rattle.asm_formats.proofs.RecordLists.{records_apart}
use Rattle.asm_formats.proofs.pages.records_are_apart.Goals as goal

pub returns : goal.returns
returns c = records_apart
