-- A page that a block holds.
use Rattle.std.specs.Prelude.{ℕ}
use Rattle.asm_formats.specs.Logs.{PageImage}
use Rattle.asm_base.specs.declared.block.Block.{Block}

-- a page and its bytes
abbrev pub image_of_page : ℕ × Block → PageImage
image_of_page p = (p.0, p.1.bytes)
