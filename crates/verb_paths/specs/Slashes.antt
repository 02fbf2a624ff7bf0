-- A path is read part by part.
use Rattle.std.specs.Prelude.{ℕ, suc, ◌==◌, List, [], ◌∷◌, take, drop, length, Option, Some, None, if◌then◌else◌}
use Rattle.asm_group.specs.Names.{Bytes}
use Rattle.asm_world.specs.Paths.{between_slashes}
use Rattle.asm_base.specs.Paths.{slash_at}

abbrev pub first_part : Bytes → Bytes
first_part bytes = take (slash_at bytes) bytes

abbrev pub behind_first : Bytes → Option Bytes
behind_first [] = None
behind_first (slash ∷ bytes) = Some bytes

-- the bytes behind the first slash, where there is one
abbrev pub behind_slash : Bytes → Option Bytes
behind_slash bytes = behind_first (drop (slash_at bytes) bytes)

-- the parts of what is left, where something is
abbrev pub parts_left : Option Bytes → List Bytes
parts_left None = []
parts_left (Some bytes) = between_slashes bytes

-- how much is left, for the end of a loop
abbrev pub left_length : Option Bytes → ℕ
left_length None = 0
left_length (Some bytes) = suc (length bytes)
