use Rattle.asm_formats.proofs.PageReading.{page_codec}
use Rattle.asm_formats.proofs.pages.page_codec.Goals as goal

pub returns : goal.returns
returns c = page_codec
