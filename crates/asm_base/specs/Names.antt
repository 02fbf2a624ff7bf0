-- The order of names, and the text of a path.
use Rattle.std.specs.Prelude.{◌≡◌, ℕ, List, ◌∷◌, ◌++◌, Option, Some, None, true, if◌then◌else◌}
use Rattle.std.specs.List.{flat_map, list_all}
use Rattle.std.specs.Ordering.{nat_cmp}
use Rattle.std.specs.Cmp.Lexicographic.{slice_cmp}
use Rattle.std.specs.declared.cmp.Ordering.{Ordering}
use Rattle.asm_group.specs.Names.{Bytes, folded, is_name, is_part}

-- the name or part that bytes are, where they are one of at most so many bytes
abbrev pub name_of : ℕ → Bytes → Option Bytes
name_of longest bytes = if is_part longest bytes then Some bytes else None

-- the order of names, without case
abbrev pub folded_cmp : Bytes → Bytes → Ordering
folded_cmp a b = slice_cmp nat_cmp (folded a) (folded b)

-- `+`, the group's name, and the parts, each after `/`
abbrev pub path_text_in_group : Bytes → List Bytes → Bytes
path_text_in_group group parts = 43 ∷ group ++ flat_map (λ part. 47 ∷ part) parts

-- a path of the grammar
pub record IsPath (group : Bytes) (parts : List Bytes) : Type 0 where
  pub group_name : is_name group ≡ true
  pub all_parts : list_all (is_part 80) parts ≡ true
