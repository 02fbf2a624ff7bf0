-- The heads of files with another size or alias.
use Rattle.std.specs.Prelude.{ℕ}
use Rattle.asm_formats.specs.Items.{FileHead}

abbrev pub with_size : FileHead → ℕ → FileHead
with_size head size = record head { size = size }

-- the head of a file with this alias node, or with none by 0
abbrev pub head_with_alias : FileHead → ℕ → FileHead
head_with_alias head n = record head { alias = n }
