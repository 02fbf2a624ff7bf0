-- Names and paths, and the maps that are kept by them. Names compare without ASCII case.
use Rattle.std.specs.Prelude.{ℕ, ◌+◌, Bool, true, false, ◌&&◌, ◌||◌, ◌==◌, not, nat_le, nat_lt, List, [], ◌∷◌, length, map, Option, Some, None, if◌then◌else◌}
use Rattle.std.specs.List.{list_all}
use Rattle.std.specs.Str.{bytes_eq}
use Rattle.std.specs.Int.{is_in_range}
use Rattle.std.specs.Ordering.{nat_cmp}
use Rattle.std.specs.Cmp.Lexicographic.{slice_cmp}
use Rattle.std.specs.FinMap as maps

abbrev pub Bytes : Type 0
Bytes = List ℕ

-- ---- what names are made of

abbrev pub is_letter : ℕ → Bool
is_letter c = is_in_range 65 90 c || is_in_range 97 122 c

abbrev pub is_digit : ℕ → Bool
is_digit c = is_in_range 48 57 c

-- a letter, a digit, `_`, `$` or `#`
abbrev pub is_name_byte : ℕ → Bool
is_name_byte c = is_letter c || is_digit c || c == 95 || c == 36 || c == 35

-- these, `-` and `.`
abbrev pub is_part_byte : ℕ → Bool
is_part_byte c = is_name_byte c || c == 45 || c == 46

-- a letter, and letters, digits, `_`, `$` or `#`, at most 30 bytes in all
unfoldable pub is_name : Bytes → Bool
is_name [] = false
is_name (c ∷ cs) = is_letter c && list_all is_name_byte cs && nat_le (length cs) 29

-- a part of a path, of at most so many bytes: not `.` alone
unfoldable pub is_part : ℕ → Bytes → Bool
is_part longest cs = list_all is_part_byte cs && nat_lt 0 (length cs) && nat_le (length cs) longest && not (bytes_eq cs (46 ∷ []))

-- ---- comparing without case

-- the byte in lower case
abbrev pub folded_byte : ℕ → ℕ
folded_byte c = if is_in_range 65 90 c then c + 32 else c

abbrev pub folded : Bytes → Bytes
folded bytes = map folded_byte bytes

abbrev pub is_same_name : Bytes → Bytes → Bool
is_same_name a b = bytes_eq (folded a) (folded b)

-- a path inside a group, as its parts
abbrev pub Path : Type 0
Path = List Bytes

abbrev pub folded_path : Path → Path
folded_path parts = map folded parts

-- parts as they stand in a clause, where `..` is a part like others
abbrev pub all_parts : List Bytes → Option (List Bytes)
all_parts parts = if list_all (is_part 80) parts then Some parts else None

-- ---- finite maps, of which two that answer alike are equal

abbrev pub ByNumber : Type 0 → Type 0
ByNumber X = maps.FinMap nat_cmp X

-- by folded names
abbrev pub ByName : Type 0 → Type 0
ByName X = maps.FinMap (slice_cmp nat_cmp) X

-- by folded paths
abbrev pub ByPath : Type 0 → Type 0
ByPath X = maps.FinMap (slice_cmp (slice_cmp nat_cmp)) X
