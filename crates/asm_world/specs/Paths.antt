-- Paths as they are written, and where they lead.
use Rattle.std.specs.Prelude.{ℕ, Bool, false, ◌&&◌, ◌||◌, ◌==◌, not, nat_le, nat_lt, List, [], ◌∷◌, ◌++◌, length, Option, Some, None, if◌then◌else◌}
use Rattle.std.specs.List.{list_all}
use Rattle.std.specs.Str.{bytes_eq}
use Rattle.asm_group.specs.Names.{Bytes, Path, is_part, is_part_byte, is_same_name, all_parts}
pub use Rattle.asm_group.specs.TreeEdits.{up, last_part}

abbrev pub before_first : Bytes → List Bytes → List Bytes
before_first part [] = part ∷ []
before_first part (next ∷ parts) = (part ++ next) ∷ parts

-- what stands before each slash, and after the last
abbrev pub between_slashes : Bytes → List Bytes
between_slashes [] = [] ∷ []
between_slashes (b ∷ bytes) =
    let rest = between_slashes bytes in
    if b == 47 then [] ∷ rest else before_first (b ∷ []) rest

abbrev pub two_points : Bytes
two_points = 46 ∷ 46 ∷ []

-- Where parts lead from a place, each of which meets the test. The part `..` goes up, and at `+` it stays there.
abbrev pub walk : (Bytes → Bool) → List Bytes → List Bytes → Option (List Bytes)
walk test place [] = Some place
walk test place (part ∷ parts) =
    if bytes_eq part two_points then walk test (up place) parts
    else (if test part then walk test (place ++ part ∷ []) parts else None)

-- A path with `+` begins at the top, any other at the session's place. None where a part isn't one.
abbrev pub resolved_by : (Bytes → Bool) → List Bytes → Bytes → Option (List Bytes)
resolved_by test place [] = Some place
resolved_by test place (b ∷ bytes) =
    if b == 43
    then (if length bytes == 0 then Some [] else walk test [] (between_slashes bytes))
    else walk test place (between_slashes (b ∷ bytes))

abbrev pub resolved : List Bytes → Bytes → Option (List Bytes)
resolved place path = resolved_by (is_part 80) place path

-- a part of `ls` and `find`, which may hold `*`
abbrev pub is_pattern_byte : ℕ → Bool
is_pattern_byte c = is_part_byte c || c == 42

abbrev pub is_pattern : Bytes → Bool
is_pattern part = list_all is_pattern_byte part && nat_lt 0 (length part) && nat_le (length part) 80 && not (bytes_eq part (46 ∷ []))

-- the path of `ls`, where one is said, else the place
abbrev pub resolved_pattern : List Bytes → Option Bytes → Option (List Bytes)
resolved_pattern place None = Some place
resolved_pattern place (Some path) = resolved_by is_pattern place path

-- the path of `du`, where one is said, else the place
abbrev pub resolved_or_here : List Bytes → Option Bytes → Option (List Bytes)
resolved_or_here place None = Some place
resolved_or_here place (Some path) = resolved place path

-- the group's name and the path in it; None at `+`
abbrev pub parts_of : Option (List Bytes) → Option (Bytes × Path)
parts_of None = None
parts_of (Some []) = None
parts_of (Some (group ∷ path)) = Some (group, path)

-- a path of a verb
abbrev pub target_from : List Bytes → Bytes → Option (Bytes × Path)
target_from place path = parts_of (resolved place path)

abbrev pub within_group : Bytes → Option (Bytes × Path) → Option Path
within_group name None = None
within_group name (Some (group, path)) = if is_same_name group name then Some path else None

-- The path of a clause in the group that the statement names. None where it isn't a path of that group.
abbrev pub clause_path : Bytes → Bytes → Option Path
clause_path name [] = None
clause_path name (b ∷ bytes) = if b == 43 then within_group name (parts_of (all_parts (between_slashes bytes))) else None

-- a path of `cp` that leads outside: with `/` or `./` at its front
abbrev pub is_host_path : Bytes → Bool
is_host_path [] = false
is_host_path (b ∷ []) = b == 47
is_host_path (b ∷ c ∷ bytes) = b == 47 || bytes_eq (b ∷ c ∷ []) (46 ∷ 47 ∷ [])

abbrev pub with_slashes : List Bytes → Bytes
with_slashes [] = []
with_slashes (part ∷ []) = part
with_slashes (part ∷ next ∷ parts) = part ++ 47 ∷ with_slashes (next ∷ parts)

-- a path as it is printed
abbrev pub path_text : List Bytes → Bytes
path_text parts = 43 ∷ with_slashes parts
