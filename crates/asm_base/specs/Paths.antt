-- Which bytes are a path of a group.
use Rattle.std.specs.Prelude.{ℕ, zero, suc, List, [], ◌∷◌, Option, Some, None, ◌&&◌, ◌==◌, if◌then◌else◌}
use Rattle.std.specs.List.{list_all}
use Rattle.asm_group.specs.Names.{Bytes, is_name, is_part}
use Rattle.asm_base.specs.declared.path.Path.{Path}

-- the byte goes onto the front of the first part
abbrev pub onto_first : ℕ → List Bytes → List Bytes
onto_first b [] = (b ∷ []) ∷ []
onto_first b (part ∷ parts) = (b ∷ part) ∷ parts

-- what stands before each slash, and after the last
abbrev pub parts_between_slashes : Bytes → List Bytes
parts_between_slashes [] = [] ∷ []
parts_between_slashes (b ∷ bytes) = if b == 47 then [] ∷ parts_between_slashes bytes else onto_first b (parts_between_slashes bytes)

-- a group's name, and parts of 1 to 80 bytes
abbrev pub path_with_group : List Bytes → Option Path
path_with_group [] = None
path_with_group (group ∷ parts) = if is_name group && list_all (is_part 80) parts then Some (record { group = group; parts = parts }) else None

-- the path that the bytes are: `+`, and these with slashes between
unfoldable pub path_of : Bytes → Option Path
path_of [] = None
path_of (b ∷ bytes) = if b == 43 then path_with_group (parts_between_slashes bytes) else None

-- ---- how it is read

-- how many bytes stand before the first slash
abbrev pub slash_at : Bytes → ℕ
slash_at [] = 0
slash_at (b ∷ bytes) = if b == 47 then 0 else suc (slash_at bytes)

-- the parts behind the first byte, a slash
unfoldable pub parts_behind_slash : Bytes → List Bytes
parts_behind_slash [] = []
parts_behind_slash (slash ∷ bytes) = parts_between_slashes bytes
